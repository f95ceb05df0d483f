use Rattle.std.proofs.Common.{All, take}
use Rattle.state_reads.specs.Bounds.{IsCountBelow}
use Rattle.state_reads.proofs.ranges.are_counts.Given as goal

abbrev pub invariant-loop-generation : goal.invariant-loop-generation
invariant-loop-generation l = All IsCountBelow (take l.generation-index l.generations)
