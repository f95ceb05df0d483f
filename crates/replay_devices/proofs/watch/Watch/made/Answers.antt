use Rattle.std.proofs.Common.{sym, subst, ℕ}
use Rattle.std.specs.Prelude.{OnOk}
use Rattle.relay_outside.specs.declared.settings.Config.{Config}
use Rattle.relay_script.specs.declared.step.Step as coded
use Rattle.relay_script.specs.Steps.{step_meaning}
use Rattle.replay_devices.specs.Devices.{Made}
use Rattle.replay_devices.specs.Watch.{Notes, step_of}
use Rattle.replay_devices.proofs.watch.Watch.made.Goals as goal

pub returns-in-Fail : goal.returns-in-Fail
returns-in-Fail c =
    subst (λ (s : coded.Step). OnOk c.ask.result ((config : Config) (seed : ℕ) → Notes config seed c.args.self.now c.ask.new.self (Made (step_of (step_meaning s))))) (sym c.in-Fail.is) c.ask.ensures
