use Rattle.std.proofs.Common.{◌≡◌, ◌<◌, ℕ, length, None, slice_index_or}
use Rattle.sdp_edit.specs.ChosenLines.{section_lines, IsFirstOf, IsAny}
use Rattle.offer_answer.proofs.chosen_lines.ChosenLines.of_offer.Given as goal

-- the sections so far have their first usable line
abbrev pub invariant-loop-section : goal.invariant-loop-section
invariant-loop-section l = record {
  full : length l.lines ≡ 8;
  done : (k : ℕ) → k < l.section → IsFirstOf IsAny (section_lines k l.fn.sdp) (slice_index_or l.lines k None);
}
