use Rattle.std.proofs.Common.{sym, subst, ℕ, List}
use Rattle.offer_answer.specs.Plan.{demand}
use Rattle.offer_answer.specs.Plans.{OfferPlan, OfferFilled}
use Rattle.offer_answer.specs.Nexts.{numbered_keys}
use Rattle.offer_answer.specs.Shapes.{FilledShapes, OfferShapes, keys_demanded}
use Rattle.offer_answer.specs.OfferPlaces.{SameCounts}
use Rattle.offer_answer.specs.declared.plan.Plan.{Plan}
use Rattle.offer_command.proofs.description.fill_plan.Goals as goal

pub returns-clause-filled : goal.returns-clause-filled
returns-clause-filled c config rounds ask planned =
    subst (λ (ks : List (List ℕ)). OfferFilled config rounds ask c.args.numbers.now (numbered_keys c.args.first_key ks (demand rounds ask).keys) c.fill.new.self.next) c.as_slice.ensures
    (c.fill.ensures.filled config rounds ask (subst (λ (p : Plan). OfferPlan config rounds ask p) (sym c.plan.ensures.value) planned))

pub returns-clause-shape : goal.returns-clause-shape
returns-clause-shape c dialog given =
    let plan = c.args.plan.now.plan in
    subst (λ (ks : List (List ℕ)). FilledShapes plan dialog c.args.numbers.now (numbered_keys c.args.first_key ks (keys_demanded plan)) c.fill.new.self.next) c.as_slice.ensures
    (subst (λ (p : Plan). FilledShapes p dialog c.args.numbers.now (numbered_keys c.args.first_key c.as_slice.result.now (keys_demanded p)) c.fill.new.self.next) c.plan.ensures.value
    (c.fill.ensures.shapes dialog (subst (λ (p : Plan). OfferShapes p dialog p.next) (sym c.plan.ensures.value) given)))

pub returns-clause-counts : goal.returns-clause-counts
returns-clause-counts c = subst (λ (p : Plan). SameCounts p.next c.fill.new.self.next) c.plan.ensures.value c.fill.ensures.counts
