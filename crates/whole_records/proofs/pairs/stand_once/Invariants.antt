use Rattle.std.proofs.Common.{◌≡◌, ℕ, false, get_or, length, take}
use Rattle.histories.specs.Words.{has}
use Rattle.port_pool.specs.Pools.{AreFree}
use Rattle.whole_records.proofs.pairs.stand_once.Given as goal

abbrev pub invariant-pairs : goal.invariant-pairs
invariant-pairs l = record {
  free : AreFree l.count (take l.it-index l.pairs);
  size : length l.marks.items ≡ l.count;
  marked : (k : ℕ) → get_or l.marks.items k false ≡ has (take l.it-index l.pairs) k;
}
