use Rattle.std.proofs.Common.{sym, subst, Option}
use Rattle.std.specs.Str.{bytes_eq}
use Rattle.call_board.specs.declared.live_call.LiveCall.{LiveCall}
use Rattle.call_board.specs.Views.{CallView, is_of_id}
use Rattle.call_board.specs.Plans.{PlansFor, target_by}
use Rattle.call_board.proofs.Shown.{no_call_found, asks_id}
use Rattle.call_board.proofs.board.Board.plan_offer.Goals as goal

pub returns-in-None-clause-plans : goal.returns-in-None-clause-plans
returns-in-None-clause-plans c = λ config v ask s asks.
    let id = c.args.input.now.call_id.list in
    let none = no_call_found config (λ (call : LiveCall). bytes_eq call.id.list id) (is_of_id id) c.args.self.now.calls.list v.calls
    (asks_id config id) s.calls_for (sym c.in-None.ensures.place) in
    subst (λ (o : Option CallView). PlansFor config v (target_by v id o) ask c.plan_first.result) (sym none) (c.plan_first.ensures.plans config v ask s asks)

pub returns-in-None-clause-made : goal.returns-in-None-clause-made
returns-in-None-clause-made c = c.plan_first.ensures.made (sym c.in-None.ensures.place)
