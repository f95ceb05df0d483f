use Rattle.std.proofs.Common.{◌≡◌, drop}
use Rattle.sdp_edit.specs.ChosenLines.{section_lines}
use Rattle.sdp_edit.proofs.chosen_line.section_start.Given as goal

abbrev pub invariant-loop-index : goal.invariant-loop-index
invariant-loop-index l = section_lines l.left (drop l.index l.sdp) ≡ section_lines l.fn.section l.fn.sdp
