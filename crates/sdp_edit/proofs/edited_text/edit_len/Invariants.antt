use Rattle.std.proofs.Common.{◌≡◌, ◌+◌, ◌*◌, ◌≤◌, length, take}
use Rattle.sdp_text.specs.Lines.{size_of}
use Rattle.sdp_edit.specs.Places.{line_place}
use Rattle.sdp_edit.specs.EditedText.{edited}
use Rattle.sdp_edit.proofs.Behind.{behind, rest_of}
use Rattle.sdp_edit.proofs.edited_text.edit_len.Given as goal

abbrev pub invariant-loop-index : goal.invariant-loop-index
invariant-loop-index l =
    (l.place ≡ line_place (behind l.sdp l.index))
    × (l.length + length (rest_of l.edit l.sdp l.index) ≡ length (edited l.sdp l.edit))
    × (l.length ≤ 300 * size_of (take l.index l.sdp))
