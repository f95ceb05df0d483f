use Rattle.std.proofs.Common.{sym, ap, ◌∙◌, subst, slice_index_or, arith}
use Rattle.std.proofs.lemmas.List.{length-set, get_or_default}
use Rattle.port_pool.specs.Signals.{other_side}
use Rattle.offer_answer.specs.Sides.{offerer}
use Rattle.offer_answer.specs.Dialogs.{leg_at, no_state}
use Rattle.offer_answer.specs.LastOffers.{MadeFor, no_made}
use Rattle.offer_answer.specs.Widths.{SameMade}
use Rattle.offer_answer.specs.Nexts.{LegNext, MadeNext}
use Rattle.offer_answer.proofs.Arrays.{one-more}
use Rattle.offer_answer.proofs.ports_and_keys.sections_with_lines.Goals as goal

pub loop-index-preserved : goal.loop-index-preserved
loop-index-preserved c = record {
  full = length-set c.loop-index.made c.loop-index.index c.with_lines.result ∙ c.loop-index.invariant.full;
  same =
      let index = c.loop-index.index in
      one-more (λ section made. SameMade (slice_index_or c.args.offered.now section no_made) made) c.loop-index.made index c.with_lines.result no_made
      (omega (arith, c.loop-index-test.true, c.loop-index.invariant.full)) c.loop-index.invariant.same
      (subst (λ made. SameMade made c.with_lines.result) (get_or_default c.args.offered.now index _ no_made (omega (arith, c.loop-index-test.true, c.told-offered))) c.with_lines.ensures.same);
  done = λ config rounds ask ports keys s made each.
      let index = c.loop-index.index in
      let below = c.loop-index-test.true in
      one-more (MadeFor (record { ask = ask; keys = keys; before = rounds })) c.loop-index.made index c.with_lines.result no_made
      (omega (arith, below, c.loop-index.invariant.full))
      (c.loop-index.invariant.done config rounds ask ports keys s made each)
      (c.with_lines.ensures.made config rounds ask ports keys index
      (subst (MadeNext rounds ask index) (get_or_default c.args.offered.now index no_made _ (omega (arith, below, c.told-offered))) (made index below))
      (subst (LegNext config rounds ask ports keys index (other_side (offerer rounds ask)))
      (sym (c.leg.ensures ∙ ap (leg_at (slice_index_or c.args.sections.now index no_state)) s)) ((each index below).legs_are (other_side (offerer rounds ask)))));
}

pub returns-clause-made : goal.returns-clause-made
returns-clause-made c = λ config rounds ask ports keys s made each section below.
    c.loop-index.invariant.done config rounds ask ports keys s made each section (omega (arith, below, c.loop-index-test.false))

pub returns-clause-same : goal.returns-clause-same
returns-clause-same c = λ section below. c.loop-index.invariant.same section (omega (arith, below, c.loop-index-test.false))
