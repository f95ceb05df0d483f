use Rattle.std.proofs.Common.{sym, subst, ◌∙◌}
use Rattle.offer_answer.specs.Dialogs.{SectionFor}
use Rattle.offer_answer.specs.LastOffers.{MadeFor}
use Rattle.offer_answer.specs.AnswerShapes.{TakesLine}
use Rattle.offer_answer.specs.declared.last_offer.MadeSection.{MadeSection}
use Rattle.offer_answer.proofs.AnswerParts.{section-answered, lines-last}
use Rattle.offer_answer.proofs.AnswerShapes.{same-answered}
use Rattle.offer_answer.proofs.answered_section.answered_section.Goals as goal

pub returns-clause-answered : goal.returns-clause-answered
returns-clause-answered c = λ config rounds offer ask s i h.
    let made = subst (MadeFor offer c.args.section) (sym c.made_section-made.ensures) (i.kept.sections_are c.args.section c.requires) in
    record {
      section_is = c.section_in.ensures ∙ section-answered c.args.sdp.now ask.sdp c.args.section h.lines_are;
      line_is = c.taken_line-line.ensures.heard rounds ask h (made.lines_are ∙ lines-last rounds offer c.args.section i.offer_is);
      made_is = made;
      kept_is = subst (SectionFor config rounds c.args.section) (sym c.section.ensures) (s.sections_are c.args.section c.requires);
    }

pub returns-clause-now : goal.returns-clause-now
returns-clause-now c = record {
  section_is = c.section_in.ensures;
  made_is = c.made_section-made.ensures;
  kept_is = c.section.ensures;
  takes = c.taken_line-line.ensures.taken;
}

pub returns-clause-only : goal.returns-clause-only
returns-clause-only c = λ other now.
    let made = now.made_is ∙ sym c.made_section-made.ensures in
    same-answered other _ (now.section_is ∙ sym c.section_in.ensures)
    (c.taken_line-line.ensures.only other.line
    (subst (λ (m : MadeSection). TakesLine c.args.sdp.now c.args.section m.lines other.line) made now.takes))
    made (now.kept_is ∙ sym c.section.ensures)
