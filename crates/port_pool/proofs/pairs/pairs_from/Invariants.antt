use Rattle.std.proofs.Common.{◌≡◌}
use Rattle.std.specs.VecDeque.{deque_len, deque_capacity}
use Rattle.histories.specs.Words.{numbers}
use Rattle.port_pool.proofs.pairs.pairs_from.Given as goal

abbrev pub invariant-loop-place : goal.invariant-loop-place
invariant-loop-place l = record {
  upwards : l.pairs.items ≡ numbers l.first l.place;
  many : deque_len l.pairs ≡ l.place;
  room : deque_capacity l.pairs ≡ l.count;
}
