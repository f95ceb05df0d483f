use Rattle.std.proofs.Common.{◌∙◌, ap, sym, Some}
use Rattle.call_board.specs.declared.live_call.LiveCall.{LiveCall}
use Rattle.call_board.proofs.Shown.{id_at}
use Rattle.call_board.proofs.board.Board.call_id_at.Goals as goal

pub returns : goal.returns
returns c = λ config v s.
    id_at config c.args.self.now.calls.list v.calls c.args.index c.at.result.now s.calls_for c.requires
    ∙ ap (λ (call : LiveCall). Some call.id.list) (sym c.at.ensures)
    ∙ ap Some (sym c.as_slice.ensures)
