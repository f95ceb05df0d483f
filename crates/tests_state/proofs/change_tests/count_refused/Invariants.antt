use Rattle.std.proofs.Common.{◌≤◌}
use Rattle.tests_state.proofs.change_tests.count_refused.Given as goal

abbrev pub invariant-loop-number : goal.invariant-loop-number
invariant-loop-number g l = l.refused ≤ l.number-counter
