use Rattle.std.proofs.Common.{◌≡◌}
use Rattle.tests_replay.proofs.replay_devices_tests.are_sent.Given as goal

abbrev pub invariant-loop-done : goal.invariant-loop-done
invariant-loop-done g l = (g.O.OutEnd.log l.end).at ≡ (g.O.OutEnd.log l.fn.end).at
