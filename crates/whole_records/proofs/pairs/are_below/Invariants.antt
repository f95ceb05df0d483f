use Rattle.std.proofs.Common.{ℕ, ◌<◌, take}
use Rattle.histories.specs.Words.{In}
use Rattle.whole_records.proofs.pairs.are_below.Given as goal

abbrev pub invariant-loop-pair : goal.invariant-loop-pair
invariant-loop-pair l = (pair : ℕ) → In pair (take l.pair-index l.pairs) → pair < l.limit
