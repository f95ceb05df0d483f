use Rattle.std.proofs.Common.{◌≤◌, ◌-◌, vec_len}
use Rattle.turn_bench.proofs.locks.make_locks.Given as goal

abbrev pub invariant-loop-locks : goal.invariant-loop-locks
invariant-loop-locks g l = vec_len l.locks ≤ l.count

abbrev pub decreases-loop-locks : goal.decreases-loop-locks
decreases-loop-locks g l = l.count - vec_len l.locks
