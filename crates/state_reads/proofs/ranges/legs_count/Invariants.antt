use Rattle.std.proofs.Common.{All, take}
use Rattle.state_reads.specs.Bounds.{LegCounts}
use Rattle.state_reads.proofs.ranges.legs_count.Given as goal

abbrev pub invariant-loop-leg : goal.invariant-loop-leg
invariant-loop-leg l = All LegCounts (take l.leg-index l.legs)
