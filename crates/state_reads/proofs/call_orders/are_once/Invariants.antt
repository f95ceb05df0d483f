use Rattle.std.proofs.Common.{◌≡◌, ℕ, false, get_or, length, take}
use Rattle.histories.specs.Words.{has}
use Rattle.port_pool.specs.Pools.{AreFree, AreFrom}
use Rattle.state_reads.proofs.call_orders.are_once.Given as goal

abbrev pub invariant-cells : goal.invariant-cells
invariant-cells l = record {
  free : AreFree l.end (take l.it-index l.cells);
  later : AreFrom 1 (take l.it-index l.cells);
  size : length l.marks.items ≡ l.end;
  marked : (k : ℕ) → get_or l.marks.items k false ≡ has (take l.it-index l.cells) k;
}
