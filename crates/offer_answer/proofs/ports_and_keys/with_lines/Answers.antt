use Rattle.offer_answer.proofs.ports_and_keys.with_lines.Goals as goal

pub returns-clause-made : goal.returns-clause-made
returns-clause-made c = λ config rounds ask ports keys section m n. record {
  section_is = m.section_is;
  line_is = m.line_is;
  written_is = m.written_is;
  lines_are = c.lines_for-lines.ensures config rounds ask ports keys section m n;
}
