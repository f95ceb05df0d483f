use Rattle.std.proofs.Common.{take}
use Rattle.replay_devices.specs.Ports.{IsNextFailing}
use Rattle.replay_devices.proofs.ends.next_failing.Given as goal

abbrev pub invariant-loop-step : goal.invariant-loop-step
invariant-loop-step l = IsNextFailing l.port l.sends (take l.step-index l.window) l.least
