use Rattle.std.proofs.Common.{◌∙◌, subst, sym, List}
use Rattle.call_board.specs.declared.live_call.LiveCall.{LiveCall}
use Rattle.call_board.specs.Boards.{CallsFor}
use Rattle.call_board.proofs.Shown.{ids_are}
use Rattle.call_board.proofs.board.Board.calls.Goals as goal

pub returns-clause-keys : goal.returns-clause-keys
returns-clause-keys c = λ config v s. c.by_id.ensures.keys ∙ ids_are config c.args.self.now.calls.list v.calls s.calls_for

pub returns-clause-calls : goal.returns-clause-calls
returns-clause-calls c = λ config v s. subst (λ (calls : List LiveCall). CallsFor config calls v.calls) (sym c.by_id.ensures.calls) s.calls_for
