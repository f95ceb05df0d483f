use Rattle.offer_answer.proofs.last_offer.OfferedNext.put_drawn.Goals as goal

pub returns-clause-next : goal.returns-clause-next
returns-clause-next c = λ config rounds ask ports n. record {
  last_for = n.last_for;
  sections_are = c.sections_with_keys-sections.ensures.next config rounds ask ports n.sections_are;
}
