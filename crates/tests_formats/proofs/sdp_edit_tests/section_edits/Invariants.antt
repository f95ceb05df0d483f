use Rattle.std.proofs.Common.{◌+◌, ◌≤◌, length}
use Rattle.sdp_edit.specs.EditedText.{HaveTags}
use Rattle.tests_formats.proofs.sdp_edit_tests.section_edits.Given as goal

abbrev pub invariant-loop-case : goal.invariant-loop-case
invariant-loop-case g l = HaveTags l.edits.list × (length l.cases ≤ l.edits.spare + l.case-index)
