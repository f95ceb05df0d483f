use Rattle.std.proofs.Common.{◌≡◌, ℕ, false, get_or, length, take}
use Rattle.histories.specs.Words.{has}
use Rattle.port_pool.specs.Pools.{AreFree, AreFrom}
use Rattle.port_pool.proofs.saved_pool.are_free.Given as goal

abbrev pub invariant-pairs : goal.invariant-pairs
invariant-pairs l = record {
  free : AreFree l.end (take l.it-index l.pairs);
  later : AreFrom l.first (take l.it-index l.pairs);
  size : length l.marks.items ≡ l.end;
  marked : (k : ℕ) → get_or l.marks.items k false ≡ has (take l.it-index l.pairs) k;
}
