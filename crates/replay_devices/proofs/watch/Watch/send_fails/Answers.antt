use Rattle.std.proofs.Common.{◌∙◌, sym, ap, ℕ, List}
use Rattle.relay_outside.specs.declared.address.Family.{Family}
use Rattle.port_pool.specs.Ports.{pair_family}
use Rattle.call_cell.specs.declared.outcome.LocalPort.{LocalPort}
use Rattle.replay_devices.specs.declared.failures.SendFailure.{SendFailure}
use Rattle.replay_devices.specs.Failures.{any_next_at}
use Rattle.replay_devices.specs.Watch.{WatchState, sends_to_fail}
use Rattle.replay_devices.proofs.Failing.{sends_fail}
use Rattle.replay_devices.proofs.watch.Watch.send_fails.Goals as goal

pub returns : goal.returns
returns c config seed past pair half family at s =
    c.next_fails.ensures
    ∙ ap (λ (fs : List SendFailure). any_next_at c.args.at fs) (ap (λ (w : WatchState). w.sends) c.self.view_is ∙ s.sends_are)
    ∙ ap (λ (f : Family). any_next_at (let a : LocalPort = record { family = f; port = c.args.at.port } in a) (sends_to_fail config past)) (sym family)
    ∙ ap (λ (port : ℕ). any_next_at (let a : LocalPort = record { family = pair_family config pair; port = port } in a) (sends_to_fail config past)) (sym at)
    ∙ sends_fail config pair half past
