use Rattle.std.proofs.Common.{sym, ap, subst, unwrap_or, arith}
use Rattle.sdp_text.specs.Descriptions.{sections_in}
use Rattle.offer_answer.specs.Sections.{no_section, is_active}
use Rattle.offer_answer.specs.Dialogs.{SectionFor}
use Rattle.offer_answer.proofs.Offering.{section-heard, no-section-heard, line-heard, no-line-heard, past-end}
use Rattle.offer_answer.proofs.offered_section.offered_section.Goals as goal

pub returns-then-section-section_count-clause-offered : goal.returns-then-section-section_count-clause-offered
returns-then-section-section_count-clause-offered c = λ config rounds ask s h. record {
  section_is = section-heard c.args.sdp.now ask c.args.section c.section.result h c.section.ensures.section;
  line_is = sym (c.choose.ensures.only _ (line-heard c.args.sdp.now ask c.args.section h (omega (arith, c.if-section-section_count.true, c.section_count.ensures.count))));
  kept_is = subst (SectionFor config rounds c.args.section) (sym c.section-kept.ensures) (s.sections_are c.args.section c.requires);
}

pub returns-else-section-section_count-clause-offered : goal.returns-else-section-section_count-clause-offered
returns-else-section-section_count-clause-offered c = λ config rounds ask s h. record {
  section_is = no-section-heard c.args.sdp.now ask c.args.section h (omega (arith, c.if-section-section_count.false, c.section_count.ensures.count));
  line_is = no-line-heard c.args.sdp.now ask c.args.section h (omega (arith, c.if-section-section_count.false, c.section_count.ensures.count));
  kept_is = subst (SectionFor config rounds c.args.section) (sym c.section-kept.ensures) (s.sections_are c.args.section c.requires);
}

pub returns-then-section-section_count-clause-active : goal.returns-then-section-section_count-clause-active
returns-then-section-section_count-clause-active c = sym (ap (λ o. is_active (unwrap_or o no_section)) c.section.ensures.section)

pub returns-else-section-section_count-clause-active : goal.returns-else-section-section_count-clause-active
returns-else-section-section_count-clause-active c =
    sym (ap (λ o. is_active (unwrap_or o no_section))
    (past-end (sections_in c.args.sdp.now) c.args.section (omega (arith, c.if-section-section_count.false, c.section_count.ensures.count))))
