use Rattle.std.proofs.Common.{All, take}
use Rattle.state_reads.specs.Bounds.{LegRanges}
use Rattle.state_reads.proofs.ranges.legs_fit.Given as goal

abbrev pub invariant-loop-leg : goal.invariant-loop-leg
invariant-loop-leg l = All LegRanges (take l.leg-index l.legs)
