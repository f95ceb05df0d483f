use Rattle.std.proofs.Common.{drop, Option}
use Rattle.sdes_lines.specs.declared.crypto_line.CryptoLine.{CryptoLine}
use Rattle.sdp_edit.specs.Places.{up_to_media}
use Rattle.sdp_edit.specs.ChosenLines.{section_lines, IsFirstOf, IsAny}
use Rattle.sdp_edit.proofs.chosen_line.choose.Given as goal

abbrev pub invariant-loop-index : goal.invariant-loop-index
invariant-loop-index l =
    ((r : Option CryptoLine) → IsFirstOf IsAny (up_to_media (drop l.index l.sdp)) r → IsFirstOf IsAny (section_lines l.fn.section l.fn.sdp) r)
    × ((r : Option CryptoLine) → IsFirstOf IsAny (section_lines l.fn.section l.fn.sdp) r → IsFirstOf IsAny (up_to_media (drop l.index l.sdp)) r)
