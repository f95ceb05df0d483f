use Rattle.std.proofs.Common.{◌∙◌}
use Rattle.call_board.proofs.Shown.{calls_count}
use Rattle.call_board.proofs.board.Board.live_count.Goals as goal

pub returns-clause-live : goal.returns-clause-live
returns-clause-live c = λ config v s.
    c.len.ensures ∙ calls_count config c.args.self.now.calls.list v.calls s.calls_for
