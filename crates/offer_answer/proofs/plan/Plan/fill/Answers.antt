use Rattle.std.proofs.Common.{ap, sym, subst, ◌∙◌}
use Rattle.offer_answer.specs.Plan.{demand}
use Rattle.offer_answer.specs.Offers.{PlanFor, legs_demanded}
use Rattle.offer_answer.specs.Nexts.{numbered_keys}
use Rattle.offer_answer.specs.Plans.{OfferFilled}
use Rattle.offer_answer.specs.Widths.{WritesNext}
use Rattle.offer_answer.specs.declared.plan.Plan.{Plan}
use Rattle.offer_answer.specs.AnswerShapes.{AnswerShapes}
use Rattle.offer_answer.specs.Shapes.{FilledShapes, keys_demanded}
use Rattle.offer_answer.specs.OfferPlaces.{SameCounts}
use Rattle.offer_answer.proofs.Kept.{kept-writes}
use Rattle.offer_answer.proofs.PlacesKept.{kept-counts, same-places, same-answer-counts}
use Rattle.offer_answer.proofs.plan.Plan.fill.Goals as goal

pub write-requires-clause-made : goal.write-requires-clause-made
write-requires-clause-made c =
    subst (λ (plan : Plan). WritesNext plan c.args.sdp.now c.put.new.self.next) (sym c.put.ensures.rest)
    (kept-writes c.args.self.now c.args.sdp.now c.args.self.now.next c.put.new.self.next c.put.ensures.kept c.requires.made)

pub returns-clause-filled : goal.returns-clause-filled
returns-clause-filled c = λ config rounds ask p.
    subst (OfferFilled config rounds ask c.args.ports.now (numbered_keys c.args.first_key c.args.keys.now (demand rounds ask).keys)) (sym c.write.ensures.next)
    (c.put.ensures.filled config rounds ask p.demands p.next_for)

pub returns-clause-offered : goal.returns-clause-offered
returns-clause-offered c = λ config rounds ask p l.
    c.write.ensures.offered config rounds ask c.args.ports.now (numbered_keys c.args.first_key c.args.keys.now (demand rounds ask).keys)
    (c.put.ensures.filled config rounds ask p.demands p.next_for) (ap (λ (plan : Plan). plan.config) c.put.ensures.rest ∙ p.config_is) l

pub returns-clause-demands : goal.returns-clause-demands
returns-clause-demands c = λ asked for.
    c.write.ensures.demands asked
    (subst (λ (plan : Plan). PlanFor plan asked) (sym c.put.ensures.rest) (record { pairs_are = for.pairs_are; keys_are = for.keys_are; drops_are = for.drops_are }))

pub returns-clause-shapes : goal.returns-clause-shapes
returns-clause-shapes c = λ dialog s.
    subst (FilledShapes c.args.self.now dialog c.args.ports.now _) (sym c.write.ensures.next) (c.put.ensures.shapes dialog s)

pub returns-clause-answered_shapes : goal.returns-clause-answered_shapes
returns-clause-answered_shapes c = λ dialog s. subst (AnswerShapes c.args.self.now dialog) (sym c.write.ensures.next) (c.put.ensures.answered_shapes dialog s)

pub returns-clause-counts : goal.returns-clause-counts
returns-clause-counts c = subst (SameCounts c.args.self.now.next) (sym c.write.ensures.next) (kept-counts c.args.self.now.next c.put.new.self.next c.put.ensures.kept)

pub returns-clause-places : goal.returns-clause-places
returns-clause-places c = λ dialog.
    same-places c.args.self.now c.write.new.self dialog
    (record {
      pairs_are = ap legs_demanded c.write.ensures.rest ∙ ap legs_demanded c.put.ensures.rest;
      keys_are = ap keys_demanded c.write.ensures.rest ∙ ap keys_demanded c.put.ensures.rest;
      drops_are = ap (λ (plan : Plan). plan.dropped) c.write.ensures.rest ∙ ap (λ (plan : Plan). plan.dropped) c.put.ensures.rest;
    })
    (subst (SameCounts c.args.self.now.next) (sym c.write.ensures.next) (kept-counts c.args.self.now.next c.put.new.self.next c.put.ensures.kept))

pub returns-clause-answer_counts : goal.returns-clause-answer_counts
returns-clause-answer_counts c = λ dialog.
    same-answer-counts c.args.self.now c.write.new.self dialog
    (c.write.ensures.signal ∙ ap (λ (plan : Plan). plan.signal) c.put.ensures.rest)
    (subst (SameCounts c.args.self.now.next) (sym c.write.ensures.next) (kept-counts c.args.self.now.next c.put.new.self.next c.put.ensures.kept))
