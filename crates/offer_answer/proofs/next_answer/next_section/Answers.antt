use Rattle.std.proofs.Common.{sym, subst, ◌∙◌}
use Rattle.offer_answer.specs.Dialogs.{SectionFor}
use Rattle.offer_answer.specs.Shapes.{section_shape}
use Rattle.offer_answer.specs.AnswerShapes.{NextShape}
use Rattle.offer_answer.proofs.next_answer.next_section.Goals as goal

pub returns-then-is_rejected-clause-next : goal.returns-then-is_rejected-clause-next
returns-then-is_rejected-clause-next c = λ config rounds offer ask s i h.
    c.rejected_section.ensures.next config rounds ask c.args.section (subst (SectionFor config rounds c.args.section) (sym c.section.ensures) (s.sections_are c.args.section c.requires))
    (sym (c.is_rejected.ensures.rejected config rounds offer ask s i h.lines_are) ∙ c.if-is_rejected.true)

pub returns-clause-next : goal.returns-clause-next
returns-clause-next c = λ config rounds offer ask s i h.
    c.committed_section.ensures.next config rounds offer ask c.args.section (c.answered_section-answered.ensures.answered config rounds offer ask s i h) i
    (sym (c.is_rejected.ensures.rejected config rounds offer ask s i h.lines_are) ∙ c.if-is_rejected.false)

pub returns-then-is_rejected-clause-shape : goal.returns-then-is_rejected-clause-shape
returns-then-is_rejected-clause-shape c =
    subst (λ refused. NextShape refused c.args.dialog.now c.args.last.now c.args.sdp.now c.args.section (section_shape c.rejected_section.result)) (sym c.if-is_rejected.true ∙ c.is_rejected.ensures.shape)
    c.rejected_section.ensures.shape

pub returns-clause-shape : goal.returns-clause-shape
returns-clause-shape c =
    subst (λ refused. NextShape refused c.args.dialog.now c.args.last.now c.args.sdp.now c.args.section (section_shape c.committed_section.result)) (sym c.if-is_rejected.false ∙ c.is_rejected.ensures.shape)
    (c.answered_section-answered.result, c.answered_section-answered.ensures.now, c.committed_section.ensures.shape)
