use Rattle.std.proofs.Common.{◌∷◌}
use Rattle.offer_answer.specs.Rounds.{Answered}
use Rattle.offer_answer.specs.Dialogs.{SectionFor, no_state}
use Rattle.offer_answer.specs.Shapes.{section_shape, shape_of}
use Rattle.offer_answer.specs.AnswerShapes.{refuses_section, NextShape}
use Rattle.offer_answer.proofs.AnswerSteps.{of-eight}
use Rattle.offer_answer.proofs.next_answer.next_sections.Goals as goal

pub returns-clause-next : goal.returns-clause-next
returns-clause-next c = λ config rounds offer ask s i h.
    of-eight (SectionFor config (Answered ask ∷ rounds)) no_state (c.next_section.ensures.next config rounds offer ask s i h) (c.next_section-2.ensures.next config rounds offer ask s i h)
    (c.next_section-3.ensures.next config rounds offer ask s i h) (c.next_section-4.ensures.next config rounds offer ask s i h) (c.next_section-5.ensures.next config rounds offer ask s i h)
    (c.next_section-6.ensures.next config rounds offer ask s i h) (c.next_section-7.ensures.next config rounds offer ask s i h) (c.next_section-8.ensures.next config rounds offer ask s i h)

pub returns-clause-shapes : goal.returns-clause-shapes
returns-clause-shapes c =
    let dialog = c.args.dialog.now in
    let last = c.args.last.now in
    let lines = c.args.sdp.now in
    of-eight (λ section kept. NextShape (refuses_section last lines section (shape_of dialog section)) dialog last lines section (section_shape kept)) no_state
    c.next_section.ensures.shape c.next_section-2.ensures.shape c.next_section-3.ensures.shape c.next_section-4.ensures.shape
    c.next_section-5.ensures.shape c.next_section-6.ensures.shape c.next_section-7.ensures.shape c.next_section-8.ensures.shape
