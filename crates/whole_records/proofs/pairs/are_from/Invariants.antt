use Rattle.std.proofs.Common.{take}
use Rattle.port_pool.specs.Pools.{AreFrom}
use Rattle.whole_records.proofs.pairs.are_from.Given as goal

abbrev pub invariant-loop-pair : goal.invariant-loop-pair
invariant-loop-pair l = AreFrom l.first (take l.pair-index l.pairs)
