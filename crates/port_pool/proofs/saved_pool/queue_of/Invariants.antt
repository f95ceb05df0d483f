use Rattle.std.proofs.Common.{◌≡◌, take}
use Rattle.std.specs.VecDeque.{deque_len, deque_capacity}
use Rattle.port_pool.proofs.saved_pool.queue_of.Given as goal

abbrev pub invariant-pairs : goal.invariant-pairs
invariant-pairs l = record {
  so_far : l.queue.items ≡ take l.pair-index l.pairs;
  many : deque_len l.queue ≡ l.pair-index;
  room : deque_capacity l.queue ≡ l.room;
}
