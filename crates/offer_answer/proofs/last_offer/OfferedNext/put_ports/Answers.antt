use Rattle.offer_answer.proofs.last_offer.OfferedNext.put_ports.Goals as goal

pub returns-clause-next : goal.returns-clause-next
returns-clause-next c = λ config rounds ask keys n l. record {
  last_for = n.last_for;
  sections_are = c.sections_with_ports-sections.ensures.next config rounds ask keys l n.sections_are;
}
