use Rattle.std.proofs.Common.{drop}
use Rattle.sdp_edit.specs.ChosenLines.{IsOffered}
use Rattle.sdp_edit.proofs.chosen_line.is_offered.Given as goal

abbrev pub invariant-loop-line : goal.invariant-loop-line
invariant-loop-line l =
    (IsOffered (drop l.line-index l.offered) l.key → IsOffered l.offered l.key)
    × (IsOffered l.offered l.key → IsOffered (drop l.line-index l.offered) l.key)
