use Rattle.std.proofs.Common.{◌≤◌, ◌-◌, vec_len}
use Rattle.turn_bench.proofs.turns.make_states.Given as goal

abbrev pub invariant-loop-states : goal.invariant-loop-states
invariant-loop-states g l = vec_len l.states ≤ l.count

abbrev pub decreases-loop-states : goal.decreases-loop-states
decreases-loop-states g l = l.count - vec_len l.states
