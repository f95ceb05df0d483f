use Rattle.std.proofs.Common.{sym, subst, refl, Option, Err}
use Rattle.std.specs.Str.{bytes_eq}
use Rattle.call_board.specs.declared.fault.BoardFault.TheVariants.{UnknownCall}
use Rattle.call_board.specs.declared.live_call.LiveCall.{LiveCall}
use Rattle.call_board.specs.Views.{CallView, is_of_id}
use Rattle.call_board.specs.Plans.{PlansAnswer}
use Rattle.call_board.proofs.Shown.{no_call_found, asks_id}
use Rattle.call_board.proofs.board.Board.plan_answer.Goals as goal

pub returns-in-None-clause-plans : goal.returns-in-None-clause-plans
returns-in-None-clause-plans c = λ config v s.
    let id = c.args.input.now.call_id.list in
    let none = no_call_found config (λ (call : LiveCall). bytes_eq call.id.list id) (is_of_id id) c.args.self.now.calls.list v.calls
    (asks_id config id) s.calls_for (sym c.in-None.ensures.place) in
    subst (λ (o : Option CallView). PlansAnswer config c.args.input.now c.args.sdp.now o (Err UnknownCall)) (sym none) refl
