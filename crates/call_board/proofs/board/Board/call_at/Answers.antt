use Rattle.std.specs.Prelude.{option_map}
use Rattle.std.proofs.Common.{◌∙◌, ap, sym, Some}
use Rattle.call_board.specs.declared.live_call.LiveCall.{LiveCall}
use Rattle.call_board.proofs.Shown.{numbered_at}
use Rattle.call_board.specs.Shapes.{LiveShape}
use Rattle.call_board.proofs.Shaped.{shape_at}
use Rattle.call_board.proofs.board.Board.call_at.Goals as goal

pub returns-clause-live : goal.returns-clause-live
returns-clause-live c = λ config v s.
    numbered_at config c.args.self.now.calls.list v.calls c.args.index c.at.result.now s.calls_for c.requires
    ∙ ap (λ (call : LiveCall). Some call.number) (sym c.at.ensures)

pub returns-clause-shape : goal.returns-clause-shape
returns-clause-shape c =
    ap (option_map (λ (call : LiveShape). call.number)) (shape_at c.args.self.now.calls.list c.args.index c.at.result.now c.requires)
    ∙ ap (λ (call : LiveCall). Some call.number) (sym c.at.ensures)
