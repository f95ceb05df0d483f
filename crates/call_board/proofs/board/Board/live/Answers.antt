use Rattle.std.specs.Prelude.{◌==◌}
use Rattle.std.proofs.Common.{◌∙◌, ap, subst, sym, Some}
use Rattle.call_board.specs.declared.live_call.LiveCall.{LiveCall}
use Rattle.call_board.specs.Boards.{CallMatches}
use Rattle.call_board.proofs.Shown.{shown_call}
use Rattle.call_board.proofs.Shaped.{first_found}
use Rattle.call_board.proofs.board.Board.live.Goals as goal

pub returns-clause-shown : goal.returns-clause-shown
returns-clause-shown c = λ config v s.
    subst (λ (call : LiveCall). CallMatches config v c.args.call call) (sym c.at.ensures)
    (shown_call config v c.args.self.now.calls.list c.args.call c.place.result c.at.result.now s.calls_for c.place.ensures.place)

pub returns-clause-found : goal.returns-clause-found
returns-clause-found c =
    first_found (λ (call : LiveCall). call.number == c.args.call) c.args.self.now.calls.list c.place.result c.at.result.now c.place.ensures.place ∙ ap Some (sym c.at.ensures)
