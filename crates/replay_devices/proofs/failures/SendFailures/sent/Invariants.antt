use Rattle.std.proofs.Common.{◌≡◌, ◌++◌, take, drop}
use Rattle.std.specs.Prelude.{map}
use Rattle.replay_devices.specs.Failures.{after_send_at}
use Rattle.replay_devices.proofs.failures.SendFailures.sent.Given as goal

abbrev pub invariant-loop-failure : goal.invariant-loop-failure
invariant-loop-failure l = l.failure-items ≡ map (after_send_at l.fn.at) (take l.failure-index l.fn.self) ++ drop l.failure-index l.fn.self
