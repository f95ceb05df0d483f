use Rattle.std.proofs.Common.{[], map, ap, subst, ◌∙◌}
use Rattle.offer_answer.specs.Plan.{demand}
use Rattle.offer_answer.specs.Offers.{leg_asked, key_asked, legs_demanded}
use Rattle.offer_answer.specs.Plans.{OfferNext}
use Rattle.offer_answer.specs.AnswerShapes.{AnswerShapes}
use Rattle.offer_answer.specs.Shapes.{shape_of, shape_left, shape_with_new, drops_at, OfferShapes}
use Rattle.offer_answer.specs.Nexts.{numbered_keys}
use Rattle.offer_answer.proofs.plan.Plan.put.Goals as goal

pub returns-in-Offer-clause-filled : goal.returns-in-Offer-clause-filled
unfolding demand
returns-in-Offer-clause-filled c = λ config rounds ask p n.
    c.put_keys.ensures.filled config rounds ask c.args.ports.now
    (c.put_ports.ensures.next config rounds ask [] (subst (OfferNext config rounds ask) c.in-Offer.is n) (ap (map leg_asked) c.as_slice.ensures.value ∙ p.pairs_are))
    (ap (map key_asked) c.as_slice-in-Offer.ensures.value ∙ p.keys_are)

pub returns-in-Offer-clause-shapes : goal.returns-in-Offer-clause-shapes
returns-in-Offer-clause-shapes c = λ dialog s section below.
    let plan = c.args.self.now in
    let ports = c.args.ports.now in
    let legs = c.as_slice.result.now in
    let places = c.as_slice-in-Offer.result.now in
    let keyed = numbered_keys c.args.first_key c.args.keys.now in
    let left = shape_left (legs_demanded plan) (drops_at plan section) section (shape_of dialog section) in
    c.put_keys.ensures.shapes section below
    ∙ ap (shape_with_new [] [] (keyed (map key_asked places)) section)
    (c.put_ports.ensures.shapes section below
    ∙ ap (shape_with_new (map leg_asked legs) ports [] section) (subst (OfferShapes plan dialog) c.in-Offer.is s section below))
    ∙ ap (λ those. shape_with_new (map leg_asked those) ports (keyed (map key_asked places)) section left) c.as_slice.ensures.value
    ∙ ap (λ those. shape_with_new (legs_demanded plan) ports (keyed (map key_asked those)) section left) c.as_slice-in-Offer.ensures.value

pub returns-in-Answer-clause-shapes : goal.returns-in-Answer-clause-shapes
returns-in-Answer-clause-shapes c = λ dialog s. absurd (subst (OfferShapes c.args.self.now dialog) c.in-Answer.is s)

pub returns-in-Offer-clause-answered_shapes : goal.returns-in-Offer-clause-answered_shapes
returns-in-Offer-clause-answered_shapes c = λ dialog s. absurd (subst (AnswerShapes c.args.self.now dialog) c.in-Offer.is s)

pub returns-in-Answer-clause-answered_shapes : goal.returns-in-Answer-clause-answered_shapes
returns-in-Answer-clause-answered_shapes c = λ dialog s. s
