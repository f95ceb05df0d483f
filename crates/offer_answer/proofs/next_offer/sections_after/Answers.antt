use Rattle.std.proofs.Common.{◌≡◌, [], ap, ◌∙◌, arith}
use Rattle.std.proofs.lemmas.List.{length-set}
use Rattle.offer_answer.specs.Dialogs.{no_state}
use Rattle.offer_answer.specs.Shapes.{section_shape, shape_of, is_active_at, shape_after}
use Rattle.offer_answer.specs.Nexts.{SectionNext}
use Rattle.offer_answer.proofs.Arrays.{one-more}
use Rattle.offer_answer.proofs.next_offer.sections_after.Goals as goal

pub loop-index-preserved : goal.loop-index-preserved
loop-index-preserved c = record {
  full = length-set c.loop-index.sections c.loop-index.index c.after.result ∙ c.loop-index.invariant.full;
  done = λ config rounds ask s h t m.
      one-more (SectionNext config rounds ask [] []) c.loop-index.sections c.loop-index.index c.after.result no_state
      (omega (arith, c.loop-index-test.true, c.loop-index.invariant.full))
      (c.loop-index.invariant.done config rounds ask s h t m)
      (c.after.ensures.next config rounds ask c.loop-index.index (c.offered_section.ensures.offered config rounds ask s h) t m);
  shapes = one-more (λ section kept. section_shape kept ≡ shape_after (is_active_at c.args.sdp.now section) (shape_of c.args.dialog.now section))
      c.loop-index.sections c.loop-index.index c.after.result no_state
      (omega (arith, c.loop-index-test.true, c.loop-index.invariant.full)) c.loop-index.invariant.shapes
      (c.after.ensures.shape ∙ ap (λ b. shape_after b (section_shape c.offered_section.result.kept)) c.offered_section.ensures.active
      ∙ ap (λ kept. shape_after (is_active_at c.args.sdp.now c.loop-index.index) (section_shape kept)) c.offered_section.ensures.kept);
}

pub returns-clause-next : goal.returns-clause-next
returns-clause-next c = λ config rounds ask s h t m section below.
    c.loop-index.invariant.done config rounds ask s h t m section (omega (arith, below, c.loop-index-test.false))

pub returns-clause-shapes : goal.returns-clause-shapes
returns-clause-shapes c = λ section below. c.loop-index.invariant.shapes section (omega (arith, below, c.loop-index-test.false))
