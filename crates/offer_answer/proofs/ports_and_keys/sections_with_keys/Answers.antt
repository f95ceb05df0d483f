use Rattle.std.proofs.Common.{◌≡◌, [], map, ◌∙◌, arith}
use Rattle.std.proofs.lemmas.List.{length-set}
use Rattle.offer_answer.specs.Dialogs.{no_state}
use Rattle.offer_answer.specs.Offers.{key_asked}
use Rattle.offer_answer.specs.Nexts.{SectionNext, numbered_keys}
use Rattle.offer_answer.specs.Shapes.{section_shape, shape_in, shape_with_new}
use Rattle.offer_answer.proofs.Arrays.{one-more}
use Rattle.offer_answer.proofs.ports_and_keys.sections_with_keys.Goals as goal

pub loop-index-preserved : goal.loop-index-preserved
loop-index-preserved c = record {
  full = length-set c.loop-index.sections c.loop-index.index c.section_with_keys.result ∙ c.loop-index.invariant.full;
  done = λ config rounds ask ports each.
      one-more (SectionNext config rounds ask ports (numbered_keys c.args.first_key c.args.keys.now (map key_asked c.args.places.now)))
      c.loop-index.sections c.loop-index.index c.section_with_keys.result no_state
      (omega (arith, c.loop-index-test.true, c.loop-index.invariant.full))
      (c.loop-index.invariant.done config rounds ask ports each)
      (c.section_with_keys.ensures.next config rounds ask ports (each c.loop-index.index c.loop-index-test.true));
  shapes = one-more (λ section kept. section_shape kept ≡ shape_with_new [] [] (numbered_keys c.args.first_key c.args.keys.now (map key_asked c.args.places.now)) section (shape_in c.args.kept.now section))
      c.loop-index.sections c.loop-index.index c.section_with_keys.result no_state
      (omega (arith, c.loop-index-test.true, c.loop-index.invariant.full)) c.loop-index.invariant.shapes c.section_with_keys.ensures.shape;
}

pub returns-clause-next : goal.returns-clause-next
returns-clause-next c = λ config rounds ask ports each section below.
    c.loop-index.invariant.done config rounds ask ports each section (omega (arith, below, c.loop-index-test.false))

pub returns-clause-shapes : goal.returns-clause-shapes
returns-clause-shapes c = λ section below. c.loop-index.invariant.shapes section (omega (arith, below, c.loop-index-test.false))
