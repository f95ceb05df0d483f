use Rattle.std.proofs.Common.{◌≡◌, ◌≤◌, length, drop}
use Rattle.sdp_text.specs.Parts.{served_fault}
use Rattle.sdp_text.proofs.part.served_fault.Given as goal

abbrev pub invariant-loop-i : goal.invariant-loop-i
invariant-loop-i l = record {
  within : l.i ≤ length l.parts;
  fault : l.fault ≡ served_fault (drop l.i l.parts);
}

abbrev pub decreases-loop-i : goal.decreases-loop-i
decreases-loop-i l = l.i
