use Rattle.std.proofs.Common.{◌≡◌, ℕ, ◌+◌, ◌-◌, ◌<◌, ◌≤◌, ◌++◌, map}
use Rattle.histories.specs.Words.{numbers}
use Rattle.sdp_edit.specs.EditedText.{KeysHaveTags}
use Rattle.sdp_edit.specs.Widths.{IsSectionWithin}
use Rattle.offer_answer.specs.Edits.{section_written, sections_written, longest_host, widest_at}
use Rattle.offer_answer.proofs.offer_text.push_offered.Given as goal

-- the sections, with those that are left, are all
abbrev pub invariant-loop-index : goal.invariant-loop-index
invariant-loop-index l = record {
  list : l.sections.list ++ map (section_written l.config l.next) (numbers l.index (l.next.last.count - l.index))
      ≡ l.initial.sections.list ++ sections_written l.config l.next;
  room : l.next.last.count ≤ l.sections.spare + l.index;
  within : (k : ℕ) → k < l.index → IsSectionWithin (section_written l.config l.next k) (widest_at (longest_host l.config) l.next.last k);
  tags : (k : ℕ) → k < l.index → KeysHaveTags (section_written l.config l.next k).crypto;
}
