use Rattle.std.proofs.Common.{is_some, sym, ap, ◌∙◌}
use Rattle.offer_answer.specs.Sections.{section_count}
use Rattle.offer_answer.proofs.AnswerParts.{sdp-last}
use Rattle.offer_answer.proofs.next_answer.next_of_answer.Goals as goal

pub returns-clause-next : goal.returns-clause-next
returns-clause-next c = λ config rounds offer ask s i a. record {
  to_offer = ap is_some i.offer_is;
  to_tag_is = c.in-Ok.ensures ∙ c.as_slice.ensures ∙ sym a.to_tag_is;
  count_is = i.kept.count_is ∙ ap section_count (sdp-last rounds offer i.offer_is);
  sections_are = c.next_sections.ensures.next config rounds offer ask s i a.hears;
}
