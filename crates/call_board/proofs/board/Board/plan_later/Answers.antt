use Rattle.std.specs.Prelude.{◌==◌}
use Rattle.std.proofs.Common.{◌≡◌, filter, Some, inl, false, refl, sym, subst, ◌∙◌, Option, Ok, Err, None}
use Rattle.std.proofs.lemmas.Result.{err_from_is_err_and}
use Rattle.std.specs.Str.{bytes_eq}
use Rattle.relay_outside.specs.declared.settings.Config.{Config}
use Rattle.offer_answer.specs.Dialogs.{DialogFor}
use Rattle.offer_answer.specs.Plans.{OfferPlan}
use Rattle.call_board.specs.declared.fault.BoardFault.TheVariants.{NoPair, Ending}
use Rattle.call_board.specs.declared.live_call.LiveCall.{LiveCall}
use Rattle.call_board.specs.Views.{CallView, is_of_id}
use Rattle.call_board.specs.Plans.{PlansFor, target_by, board_fault}
use Rattle.call_board.proofs.Shown.{IsFirst, call_at_place, asks_id, lent_for}
use Rattle.call_board.proofs.Plans.{refused_by, answers_short, answers_none, marked_by, unless_ending, when_ending}
use Rattle.offer_answer.specs.Shapes.{OfferShapes}
use Rattle.offer_answer.specs.OfferPlaces.{OfferPlaces}
use Rattle.offer_answer.specs.declared.dialog.Dialog.{Dialog}
use Rattle.histories.specs.Words.{first}
use Rattle.call_board.proofs.Shaped.{first_of_number}
use Rattle.call_board.proofs.board.Board.plan_later.Goals as goal

pub returns-in_err-plan-clause-plans : goal.returns-in_err-plan-clause-plans
returns-in_err-plan-clause-plans c =
    let p = err_from_is_err_and c.from_residual.result c.from_residual.ensures.1 in
    rw (p.1, p.2) (λ config v ask s asks.
    let id = c.args.input.now.call_id.list in
    let call = c.at-call.result.now in
    let f = subst (λ (call : LiveCall). IsFirst config (is_of_id id) v.calls call) (sym c.at-call.ensures)
    (call_at_place config (λ (call : LiveCall). bytes_eq call.id.list id) (is_of_id id) c.args.self.now.calls.list v.calls c.args.place call (asks_id config id) s.calls_for c.requires.found) in
    let dialog = lent_for c.deref.ensures (subst (λ (k : Config). DialogFor k call.dialog.value f.of.rounds) (sym s.config_is) f.call_for.dialog_for) in
    subst (λ (o : Option CallView). PlansFor config v (target_by v id o) ask (Err (board_fault c.in_err-plan.field-0.0))) (sym f.found)
    (λ n. unless_ending config v id f.of ask _ (marked_by f.call_for.due_is c.is_some.ensures c.if-is_some.false)
    (refused_by config v false f.of.rounds ask c.in_err-plan.field-0.0 (c.in_err-plan.ensures.answered f.of.rounds ask dialog asks) n)))

pub returns-then-lacks_pairs-clause-plans : goal.returns-then-lacks_pairs-clause-plans
returns-then-lacks_pairs-clause-plans c = λ config v ask s asks.
    let id = c.args.input.now.call_id.list in
    let call = c.at-call.result.now in
    let f = subst (λ (call : LiveCall). IsFirst config (is_of_id id) v.calls call) (sym c.at-call.ensures)
    (call_at_place config (λ (call : LiveCall). bytes_eq call.id.list id) (is_of_id id) c.args.self.now.calls.list v.calls c.args.place call (asks_id config id) s.calls_for c.requires.found) in
    let dialog = lent_for c.deref.ensures (subst (λ (k : Config). DialogFor k call.dialog.value f.of.rounds) (sym s.config_is) f.call_for.dialog_for) in
    subst (λ (o : Option CallView). PlansFor config v (target_by v id o) ask (Err NoPair)) (sym f.found)
    (λ n. let made = c.in_ok-plan.ensures.answered f.of.rounds ask dialog asks in
    unless_ending config v id f.of ask _ (marked_by f.call_for.due_is c.is_some.ensures c.if-is_some.false)
    (answers_short config c.args.self.now v false f.of.rounds ask c.in_ok-plan.plan s (made.0, made.1.demands)
    (inl refl) (sym c.lacks_pairs.ensures ∙ c.if-lacks_pairs.true)))

pub returns-clause-plans : goal.returns-clause-plans
returns-clause-plans c = λ config v ask s asks.
    let id = c.args.input.now.call_id.list in
    let call = c.at-call.result.now in
    let f = subst (λ (call : LiveCall). IsFirst config (is_of_id id) v.calls call) (sym c.at-call.ensures)
    (call_at_place config (λ (call : LiveCall). bytes_eq call.id.list id) (is_of_id id) c.args.self.now.calls.list v.calls c.args.place call (asks_id config id) s.calls_for c.requires.found) in
    let dialog = lent_for c.deref.ensures (subst (λ (k : Config). DialogFor k call.dialog.value f.of.rounds) (sym s.config_is) f.call_for.dialog_for) in
    let made = c.in_ok-plan.ensures.answered f.of.rounds ask dialog asks in
    subst (λ (o : Option CallView). PlansFor config v (target_by v id o) ask
    (Ok (record { plan = c.in_ok-plan.plan; call = call.number; cell = call.cell; begun = None; leases = c.in_ok-leases.leases }))) (sym f.found) (
      unless_ending config v id f.of ask _ (marked_by f.call_for.due_is c.is_some.ensures c.if-is_some.false)
          (answers_none config c.args.self.now v false f.of.rounds ask c.in_ok-plan.plan s (made.0, made.1.demands) (inl refl) (sym c.lacks_pairs.ensures ∙ c.if-lacks_pairs.false)),
      record {
        call_is = f.call_for.number_is;
        cell_is = f.call_for.cell_is;
        plan_for = subst (λ (k : Config). OfferPlan k f.of.rounds ask c.in_ok-plan.plan) s.config_is made.1;
        begins = refl;
      },
    )

pub returns-then-is_some-clause-plans : goal.returns-then-is_some-clause-plans
returns-then-is_some-clause-plans c = λ config v ask s asks.
    let id = c.args.input.now.call_id.list in
    let call = c.at-call.result.now in
    let f = subst (λ (call : LiveCall). IsFirst config (is_of_id id) v.calls call) (sym c.at-call.ensures)
    (call_at_place config (λ (call : LiveCall). bytes_eq call.id.list id) (is_of_id id) c.args.self.now.calls.list v.calls c.args.place call (asks_id config id) s.calls_for c.requires.found) in
    subst (λ (o : Option CallView). PlansFor config v (target_by v id o) ask (Err Ending)) (sym f.found)
    (λ n. when_ending config v id f.of ask (marked_by f.call_for.due_is c.is_some.ensures c.if-is_some.true))

pub returns-clause-made : goal.returns-clause-made
returns-clause-made c =
    let board = c.args.self.now in
    let call = c.at-call.result.now in record {
      call = call;
      found = subst (λ (one : LiveCall). first (filter (λ (other : LiveCall). other.number == one.number) board.calls.list) ≡ Some one) (sym c.at-call.ensures)
          (first_of_number board.calls.list board.begun c.args.place call board.numbers c.requires.within);
      cell_is = refl;
      shapes = subst (λ (dialog : Dialog). OfferShapes c.in_ok-plan.plan dialog c.in_ok-plan.plan.next) c.deref.ensures c.in_ok-plan.ensures.shapes;
      places = subst (λ (dialog : Dialog). OfferPlaces c.in_ok-plan.plan dialog) c.deref.ensures c.in_ok-plan.ensures.places;
    }
