use Rattle.std.proofs.Common.{◌≡◌, drop, find}
use Rattle.sdp_text.specs.Parts.{is_unplaced}
use Rattle.sdp_text.proofs.part.unplaced_fault.Given as goal

abbrev pub invariant-loop-part : goal.invariant-loop-part
invariant-loop-part l = find is_unplaced l.parts ≡ find is_unplaced (drop l.part-index l.parts)
