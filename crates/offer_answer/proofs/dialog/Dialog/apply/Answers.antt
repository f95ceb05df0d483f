use Rattle.std.proofs.Common.{List, Option, None, Some, slice_get, subst, sym, ap, ◌∙◌}
use Rattle.offer_answer.specs.Plans.{OfferFilled, AnswerNext}
use Rattle.offer_answer.specs.Shapes.{shape_in, shape_of, FilledShapes}
use Rattle.offer_answer.specs.AnswerShapes.{ShapeAnswered, AnswerShapes}
use Rattle.offer_answer.specs.OfferPlaces.{TakesCounts}
use Rattle.offer_answer.specs.declared.leg.DialogSection.{DialogSection}
use Rattle.offer_answer.specs.declared.last_offer.LastOffer.{LastOffer}
use Rattle.offer_answer.specs.declared.plan.Next.{Next}
use Rattle.offer_answer.proofs.dialog.Dialog.apply.Goals as goal

pub returns-in-Offer-clause-offered : goal.returns-in-Offer-clause-offered
returns-in-Offer-clause-offered c = λ config rounds ask ports keys legs d w f l.
    c.apply_offer.ensures.stands config rounds ask ports keys legs d w (subst (OfferFilled config rounds ask ports keys) (sym c.into_next.ensures ∙ c.in-Offer.is) f) l

pub returns-in-Answer-clause-answered : goal.returns-in-Answer-clause-answered
returns-in-Answer-clause-answered c = λ config rounds ask d n.
    c.apply_answer.ensures.stands config rounds ask d (subst (AnswerNext config rounds ask) (sym c.into_next.ensures ∙ c.in-Answer.is) n)

pub returns-in-Offer-clause-shapes : goal.returns-in-Offer-clause-shapes
returns-in-Offer-clause-shapes c = λ made ports keys f section below.
    ap (λ sections. shape_in sections section) c.apply_offer.ensures.sections
    ∙ subst (FilledShapes made c.args.self.now ports keys) (sym c.into_next.ensures ∙ c.in-Offer.is) f section below

pub returns-in-Answer-clause-shapes : goal.returns-in-Answer-clause-shapes
returns-in-Answer-clause-shapes c = λ made ports keys f.
    absurd (subst (FilledShapes made c.args.self.now ports keys) (sym c.into_next.ensures ∙ c.in-Answer.is) f)

pub returns-in-Answer-clause-answered_shapes : goal.returns-in-Answer-clause-answered_shapes
returns-in-Answer-clause-answered_shapes c = λ made s section below.
    subst (λ (sections : List DialogSection). ShapeAnswered (slice_get made.signal section) (shape_of c.args.self.now section) (shape_in sections section))
    (sym c.apply_answer.ensures.sections)
    (subst (AnswerShapes made c.args.self.now) (sym c.into_next.ensures ∙ c.in-Answer.is) s section below)

pub returns-in-Offer-clause-answered_shapes : goal.returns-in-Offer-clause-answered_shapes
returns-in-Offer-clause-answered_shapes c = λ made s.
    absurd (subst (AnswerShapes made c.args.self.now) (sym c.into_next.ensures ∙ c.in-Offer.is) s)

pub returns-in-Offer-clause-counts : goal.returns-in-Offer-clause-counts
returns-in-Offer-clause-counts c =
    subst (λ (next : Next). TakesCounts c.args.self.now next c.apply_offer.new.self) (sym c.in-Offer.is ∙ c.into_next.ensures)
    (record { offered_is = c.apply_offer.ensures.offered; committed_is = c.apply_offer.ensures.committed })

pub returns-in-Answer-clause-counts : goal.returns-in-Answer-clause-counts
returns-in-Answer-clause-counts c =
    subst (λ (next : Next). TakesCounts c.args.self.now next c.apply_answer.new.self) (sym c.in-Answer.is ∙ c.into_next.ensures)
    (record {
      offered_is = ap (λ (o : Option LastOffer). elim o [ None ↦ 0 | Some last ↦ last.count ]) c.apply_answer.ensures.offered;
      committed_is = c.apply_answer.ensures.committed;
    })
