use Rattle.std.proofs.Common.{◌≡◌, ◌<◌, ℕ, List, length, None, slice_index_or}
use Rattle.relay_outside.specs.declared.settings.Config.{Config}
use Rattle.sdp_edit.specs.ChosenLines.{section_lines, IsFirstOf, IsOffered}
use Rattle.offer_answer.specs.Rounds.{Round}
use Rattle.offer_answer.specs.Keys.{last_lines}
use Rattle.offer_answer.specs.Dialogs.{DialogFor}
use Rattle.offer_answer.proofs.dialog.Dialog.hear.Given as goal

-- the sections so far have their first line that was offered
abbrev pub invariant-loop-section : goal.invariant-loop-section
invariant-loop-section l = record {
  full : length l.lines ≡ 8;
  done : (config : Config) (rounds : List Round) → DialogFor config l.fn.self rounds →
      (k : ℕ) → k < l.section → IsFirstOf (IsOffered (last_lines rounds k)) (section_lines k l.fn.sdp) (slice_index_or l.lines k None);
}
