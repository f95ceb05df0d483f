use Rattle.std.proofs.Common.{ℕ, ◌∙◌, subst, below_more, arith}
use Rattle.sdp_edit.specs.EditedText.{KeysHaveTags}
use Rattle.sdp_edit.specs.declared.edits.SectionEdit.{SectionEdit}
use Rattle.offer_answer.specs.Edits.{widest_at}
use Rattle.offer_answer.proofs.Written.{map-pushed, tags-all}
use Rattle.offer_answer.proofs.offer_text.push_widest.Goals as goal

pub loop-index-preserved : goal.loop-index-preserved
loop-index-preserved c =
    let i : ℕ = c.loop-index.index in
    let n : ℕ = c.args.last.now.count in
    let f : ℕ → SectionEdit = widest_at c.args.host c.args.last.now in record {
      list = map-pushed f c.loop-index.sections.list c.push.new.self.list c.widest_at.result i n c.loop-index-test.true c.widest_at.ensures.edit c.push.ensures.list ∙ c.loop-index.invariant.list;
      room = omega (arith, c.push.ensures.spare, c.loop-index.invariant.room);
      tags = below_more (λ k. KeysHaveTags (f k).crypto) i c.loop-index.invariant.tags
          (subst (λ (e : SectionEdit). KeysHaveTags e.crypto) c.widest_at.ensures.edit c.widest_at.ensures.tags);
    }

pub returns-clause-tags : goal.returns-clause-tags
returns-clause-tags c =
    tags-all (widest_at c.args.host c.args.last.now) c.args.last.now.count (λ k below. c.loop-index.invariant.tags k (omega (arith, below, c.loop-index-test.false)))
