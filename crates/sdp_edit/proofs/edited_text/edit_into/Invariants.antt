use Rattle.std.proofs.Common.{◌≡◌, ◌+◌, ◌≤◌, ◌++◌, length}
use Rattle.sdp_edit.specs.Places.{line_place}
use Rattle.sdp_edit.specs.EditedText.{edited}
use Rattle.sdp_edit.proofs.Behind.{behind, rest_of}
use Rattle.sdp_edit.proofs.edited_text.edit_into.Given as goal

abbrev pub invariant-loop-index : goal.invariant-loop-index
invariant-loop-index l =
    (l.place ≡ line_place (behind l.sdp l.index))
    × (l.out.list ++ rest_of l.edit l.sdp l.index ≡ l.initial.out.list ++ edited l.sdp l.edit)
    × (length (rest_of l.edit l.sdp l.index) ≤ l.out.spare)
    × (l.initial.out.spare + length (rest_of l.edit l.sdp l.index) ≤ l.out.spare + length (edited l.sdp l.edit))
