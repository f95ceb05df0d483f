use Rattle.std.proofs.Common.{ℕ, ◌∙◌, subst, below_more, arith}
use Rattle.sdp_edit.specs.EditedText.{KeysHaveTags}
use Rattle.sdp_edit.specs.Widths.{IsSectionWithin}
use Rattle.sdp_edit.specs.declared.edits.SectionEdit.{SectionEdit}
use Rattle.offer_answer.specs.Edits.{section_written, longest_host, widest_at}
use Rattle.offer_answer.proofs.Written.{map-pushed, tags-all, within-all}
use Rattle.offer_answer.proofs.offer_text.push_offered.Goals as goal

pub loop-index-preserved : goal.loop-index-preserved
loop-index-preserved c =
    let i : ℕ = c.loop-index.index in
    let n : ℕ = c.args.next.now.last.count in
    let f : ℕ → SectionEdit = section_written c.args.config.now c.args.next.now in
    let g : ℕ → SectionEdit = widest_at (longest_host c.args.config.now) c.args.next.now.last in record {
      list = map-pushed f c.loop-index.sections.list c.push.new.self.list c.offered_edit.result i n c.loop-index-test.true c.offered_edit.ensures.edit c.push.ensures.list
          ∙ c.loop-index.invariant.list;
      room = omega (arith, c.push.ensures.spare, c.loop-index.invariant.room);
      within = below_more (λ k. IsSectionWithin (f k) (g k)) i c.loop-index.invariant.within
          (subst (λ (e : SectionEdit). IsSectionWithin e (g i)) c.offered_edit.ensures.edit c.offered_edit.ensures.within);
      tags = below_more (λ k. KeysHaveTags (f k).crypto) i c.loop-index.invariant.tags
          (subst (λ (e : SectionEdit). KeysHaveTags e.crypto) c.offered_edit.ensures.edit c.offered_edit.ensures.tags);
    }

pub returns-clause-within : goal.returns-clause-within
returns-clause-within c =
    within-all (section_written c.args.config.now c.args.next.now) (widest_at (longest_host c.args.config.now) c.args.next.now.last) c.args.next.now.last.count
    (λ k below. c.loop-index.invariant.within k (omega (arith, below, c.loop-index-test.false)))

pub returns-clause-tags : goal.returns-clause-tags
returns-clause-tags c =
    tags-all (section_written c.args.config.now c.args.next.now) c.args.next.now.last.count
    (λ k below. c.loop-index.invariant.tags k (omega (arith, below, c.loop-index-test.false)))
