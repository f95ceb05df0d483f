use Rattle.std.proofs.Common.{◌||◌, ◌&&◌, [], ap, ◌∙◌}
use Rattle.offer_answer.specs.Sections.{is_active, is_active_in, has_pairs}
use Rattle.offer_answer.proofs.NextLegs.{two-sides}
use Rattle.offer_answer.proofs.Shapes.{committed-pairs, section-after}
use Rattle.offer_answer.proofs.offered_section.OfferedSection.after.Goals as goal

pub returns-clause-next : goal.returns-clause-next
returns-clause-next c = λ config rounds ask section f t m.
    let kept = c.args.self.now.kept in
    let committed = ap (λ b. b && kept.is_committed) f.kept_is.pairs_are ∙ ap (λ b. has_pairs rounds section && b) f.kept_is.committed_is ∙ committed-pairs rounds section in
    record {
      pairs_are = c.has_pairs_after.ensures ∙ ap (λ s. is_active s || (kept.has_pairs && kept.is_committed)) f.section_is ∙ ap (λ b. is_active_in ask.sdp section || b) committed;
      committed_is = c.is_committed.ensures ∙ committed;
      legs_are = two-sides config rounds ask [] [] section
          (record { has_pairs = c.has_pairs_after.result; is_committed = c.is_committed.result; a = c.leg_after.result; b = c.leg_after-2.result })
          (c.leg_after.ensures.next config rounds ask section f t m) (c.leg_after-2.ensures.next config rounds ask section f t m);
    }

pub returns-clause-shape : goal.returns-clause-shape
returns-clause-shape c =
    let kept = c.args.self.now.kept in
    section-after kept.has_pairs kept.is_committed (is_active c.args.self.now.section) _ _ _ _ _ _
    c.has_pairs_after.ensures c.is_committed.ensures c.leg_after.ensures.shape c.leg_after-2.ensures.shape
