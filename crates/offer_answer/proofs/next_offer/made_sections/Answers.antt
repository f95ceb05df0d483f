use Rattle.std.proofs.Common.{◌∙◌, arith}
use Rattle.std.proofs.lemmas.List.{length-set}
use Rattle.offer_answer.specs.LastOffers.{no_made}
use Rattle.offer_answer.specs.Nexts.{MadeNext}
use Rattle.offer_answer.proofs.Arrays.{one-more}
use Rattle.offer_answer.proofs.next_offer.made_sections.Goals as goal

pub loop-index-preserved : goal.loop-index-preserved
loop-index-preserved c = record {
  full = length-set c.loop-index.sections c.loop-index.index c.made.result ∙ c.loop-index.invariant.full;
  done = λ config rounds ask s h t m.
      one-more (MadeNext rounds ask) c.loop-index.sections c.loop-index.index c.made.result no_made
      (omega (arith, c.loop-index-test.true, c.loop-index.invariant.full))
      (c.loop-index.invariant.done config rounds ask s h t m)
      (c.made.ensures config rounds ask c.loop-index.index (c.offered_section.ensures.offered config rounds ask s h) t m);
}

pub returns : goal.returns
returns c = λ config rounds ask s h t m section below.
    c.loop-index.invariant.done config rounds ask s h t m section (omega (arith, below, c.loop-index-test.false))
