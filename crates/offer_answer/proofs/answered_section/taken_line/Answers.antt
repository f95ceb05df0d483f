use Rattle.std.proofs.Common.{refl, sym, arith}
use Rattle.offer_answer.proofs.AnswerParts.{taken-heard, none-heard}
use Rattle.offer_answer.proofs.answered_section.taken_line.Goals as goal

pub returns-then-section-section_count-clause-heard : goal.returns-then-section-section_count-clause-heard
returns-then-section-section_count-clause-heard c = λ rounds ask h e.
    sym (c.choose_among.ensures.only _
    (taken-heard c.args.sdp.now rounds ask c.args.section c.args.offered.now h e (omega (arith, c.if-section-section_count.true, c.section_count.ensures.count))))

pub returns-else-section-section_count-clause-heard : goal.returns-else-section-section_count-clause-heard
returns-else-section-section_count-clause-heard c = λ rounds ask h e.
    none-heard c.args.sdp.now rounds ask c.args.section h (omega (arith, c.if-section-section_count.false, c.section_count.ensures.count))

pub returns-then-section-section_count-clause-taken : goal.returns-then-section-section_count-clause-taken
returns-then-section-section_count-clause-taken c = record {
  first = λ _. c.choose_among.ensures.first;
  none = λ past. absurd (omega (arith, past, c.if-section-section_count.true, c.section_count.ensures.count));
}

pub returns-else-section-section_count-clause-taken : goal.returns-else-section-section_count-clause-taken
returns-else-section-section_count-clause-taken c = record {
  first = λ below. absurd (omega (arith, below, c.if-section-section_count.false, c.section_count.ensures.count));
  none = λ _. refl;
}

pub returns-then-section-section_count-clause-only : goal.returns-then-section-section_count-clause-only
returns-then-section-section_count-clause-only c = λ other t.
    c.choose_among.ensures.only other (t.first (omega (arith, c.if-section-section_count.true, c.section_count.ensures.count)))

pub returns-else-section-section_count-clause-only : goal.returns-else-section-section_count-clause-only
returns-else-section-section_count-clause-only c = λ other t.
    t.none (omega (arith, c.if-section-section_count.false, c.section_count.ensures.count))
