use Rattle.std.proofs.Common.{◌≡◌, ℕ, ◌+◌, ◌-◌, ◌<◌, ◌≤◌, ◌++◌, map}
use Rattle.histories.specs.Words.{numbers}
use Rattle.sdp_edit.specs.EditedText.{KeysHaveTags}
use Rattle.offer_answer.specs.Edits.{widest_at, widest_sections}
use Rattle.offer_answer.proofs.offer_text.push_widest.Given as goal

-- the sections, with those that are left, are all
abbrev pub invariant-loop-index : goal.invariant-loop-index
invariant-loop-index l = record {
  list : l.sections.list ++ map (widest_at l.host l.last) (numbers l.index (l.last.count - l.index))
      ≡ l.initial.sections.list ++ widest_sections l.host l.last;
  room : l.last.count ≤ l.sections.spare + l.index;
  tags : (k : ℕ) → k < l.index → KeysHaveTags (widest_at l.host l.last k).crypto;
}
