use Rattle.std.proofs.Common.{◌≡◌, false, inr, true, [], subst, sym, ◌∙◌, refl, List, ℕ}
use Rattle.std.proofs.lemmas.Result.{err_from_is_err_and}
use Rattle.relay_outside.specs.declared.settings.Config.{Config}
use Rattle.offer_answer.specs.Plans.{OfferPlan}
use Rattle.call_board.specs.Plans.{NewFor}
use Rattle.call_board.proofs.Plans.{refused_by, answers_full, answers_short, answers_none, has_session}
use Rattle.call_board.proofs.Shown.{same_one, lent_for}
use Rattle.std.specs.List.{list_any}
use Rattle.std.specs.Str.{bytes_eq}
use Rattle.offer_answer.specs.Shapes.{OfferShapes}
use Rattle.offer_answer.specs.OfferPlaces.{OfferPlaces}
use Rattle.offer_answer.specs.declared.dialog.Dialog.{Dialog}
use Rattle.call_board.specs.declared.live_call.LiveCall.{LiveCall}
use Rattle.call_board.proofs.Shaped.{none_passes}
use Rattle.call_board.proofs.ShapedDialogs.{is_bare}
use Rattle.call_board.proofs.board.Board.plan_first.Goals as goal

pub returns-in_err-plan-clause-plans : goal.returns-in_err-plan-clause-plans
returns-in_err-plan-clause-plans c =
    let p = err_from_is_err_and c.from_residual-in_err-plan.result c.from_residual-in_err-plan.ensures.1 in
    rw (p.1, p.2) (λ config v ask s asks n.
    let for = lent_for c.deref.ensures (c.in_ok-begun.ensures c.args.self.now.config).dialog_for in
    refused_by config v true [] ask c.in_err-plan.field-0.0 (c.in_err-plan.ensures.answered [] ask for asks) n)

pub returns-then-is_full-clause-plans : goal.returns-then-is_full-clause-plans
returns-then-is_full-clause-plans c = λ config v ask s asks n.
    let for = lent_for c.deref.ensures (c.in_ok-begun.ensures c.args.self.now.config).dialog_for in
    answers_full config c.args.self.now v [] ask s (c.in_ok-plan.ensures.answered [] ask for asks).0 (sym c.is_full.ensures ∙ c.if-is_full.true)

pub returns-then-lacks_pairs-clause-plans : goal.returns-then-lacks_pairs-clause-plans
returns-then-lacks_pairs-clause-plans c = λ config v ask s asks n.
    let for = lent_for c.deref.ensures (c.in_ok-begun.ensures c.args.self.now.config).dialog_for in
    let made = c.in_ok-plan.ensures.answered [] ask for asks in
    answers_short config c.args.self.now v true [] ask c.in_ok-plan.plan s (made.0, made.1.demands)
    (inr (sym c.is_full.ensures ∙ c.if-is_full.false)) (sym c.lacks_pairs.ensures ∙ c.if-lacks_pairs.true)

pub returns-in_default-clause-plans : goal.returns-in_default-clause-plans
returns-in_default-clause-plans c = λ config v ask s asks n.
    let full = sym c.is_full.ensures ∙ c.if-is_full.false in
    absurd (let f = sym c.in_default.is ∙ c.lowest_cell.ensures.lowest config v s (has_session config c.args.self.now v s full) in cc)

pub returns-clause-plans : goal.returns-clause-plans
returns-clause-plans c = λ config v ask s asks.
    let for = lent_for c.deref.ensures (c.in_ok-begun.ensures c.args.self.now.config).dialog_for in
    let made = c.in_ok-plan.ensures.answered [] ask for asks in
    let full = sym c.is_full.ensures ∙ c.if-is_full.false in (
      answers_none config c.args.self.now v true [] ask c.in_ok-plan.plan s (made.0, made.1.demands) (inr full) (sym c.lacks_pairs.ensures ∙ c.if-lacks_pairs.false),
      record {
        call_is = s.begun_is;
        cell_is = same_one c.in-Some.is (c.lowest_cell.ensures.lowest config v s (has_session config c.args.self.now v s full));
        plan_for = subst (λ (k : Config). OfferPlan k [] ask c.in_ok-plan.plan) s.config_is made.1;
        begins = (refl, subst (λ (tag : List ℕ). NewFor config c.args.input.now.call_id.list tag c.in_ok-begun.begun) (sym asks.from_tag_is) (c.in_ok-begun.ensures config));
      },
    )

pub returns-clause-made : goal.returns-clause-made
returns-clause-made c = λ none.
    let board = c.args.self.now in
    let new = c.in_ok-begun.ensures board.config in record {
      call_is = refl;
      cell_is = c.in-Some.ensures.free;
      id_is_new = subst (λ (id : List ℕ). list_any (λ (call : LiveCall). bytes_eq call.id.list id) board.calls.list ≡ false) (sym new.id_is)
          (none_passes (λ (call : LiveCall). bytes_eq call.id.list c.args.input.now.call_id.list) board.calls.list none);
      bare = is_bare board.config c.in_ok-begun.begun.dialog.value new.dialog_for;
      shapes = subst (λ (dialog : Dialog). OfferShapes c.in_ok-plan.plan dialog c.in_ok-plan.plan.next) c.deref.ensures c.in_ok-plan.ensures.shapes;
      places = subst (λ (dialog : Dialog). OfferPlaces c.in_ok-plan.plan dialog) c.deref.ensures c.in_ok-plan.ensures.places;
    }
