use Rattle.std.proofs.Common.{◌&&◌, not, ap, ◌∙◌}
use Rattle.offer_answer.specs.Shapes.{is_active_at}
use Rattle.offer_answer.specs.declared.leg.DialogSection.{DialogSection}
use Rattle.offer_answer.proofs.Offering.{dropped-is}
use Rattle.offer_answer.proofs.Shapes.{dropped-shape}
use Rattle.offer_answer.proofs.offer_plan.is_dropped.Goals as goal

pub returns-clause-dropped : goal.returns-clause-dropped
returns-clause-dropped c = λ config rounds ask s h.
    c.is_dropped.ensures ∙ dropped-is config rounds ask c.args.section c.offered_section.result (c.offered_section.ensures.offered config rounds ask s h)

pub returns-clause-shape : goal.returns-clause-shape
returns-clause-shape c =
    let kept = c.offered_section.result.kept in
    let active = is_active_at c.args.sdp.now c.args.section in
    c.is_dropped.ensures ∙ ap (λ b. kept.has_pairs && not kept.is_committed && not b) c.offered_section.ensures.active
    ∙ ap (λ (d : DialogSection). d.has_pairs && not d.is_committed && not active) c.offered_section.ensures.kept
    ∙ dropped-shape _ _ active
