use Rattle.std.proofs.Common.{subst}
use Rattle.relay_script.specs.declared.event.Printed as coded
use Rattle.relay_script.specs.EventLines.{event_of}
use Rattle.replay_devices.specs.Watch.{WatchStandsFor}
use Rattle.replay_steps.specs.Steps.{replied}
use Rattle.replay_steps.proofs.Controls.{same_ok}
use Rattle.replay_steps.proofs.step.note_reply.Goals as goal

pub returns-in-Ok : goal.returns-in-Ok
returns-in-Ok c e is config seed past s =
    subst (λ (x : coded.Printed). WatchStandsFor config seed (replied (event_of x) past) c.note_event.new.watch) (same_ok c.args.event.now c.in-Ok.event e c.in-Ok.is is) (c.note_event.ensures config seed past s)
