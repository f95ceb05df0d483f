use Rattle.std.proofs.Common.{◌≡◌, ◌-◌, ◌++◌, take, drop}
use Rattle.std.specs.Prelude.{map}
use Rattle.replay_devices.proofs.countdowns.Countdowns.count_call.Given as goal

abbrev pub invariant-loop-number : goal.invariant-loop-number
invariant-loop-number l = l.number-items ≡ map (λ n. n - 1) (take l.number-index l.fn.self.list) ++ drop l.number-index l.fn.self.list
