use Rattle.std.proofs.Common.{sym, subst, List, map}
use Rattle.relay_outside.specs.DeviceLogs.{Gained}
use Rattle.relay_outside.specs.declared.settings.Config.{Config}
use Rattle.replay_devices.specs.Scripts.{ReadsScript}
use Rattle.relay_script.specs.declared.step.Step as coded
use Rattle.relay_script.specs.Steps.{step_meaning}
use Rattle.replay_devices.specs.declared.script.Ending.{Ending}
use Rattle.replay_steps.specs.Output.{Wrote, DidPlay}
use Rattle.replay_steps.proofs.Writings.{replays}
use Rattle.replay_steps.proofs.whole_replay.replay.Goals as goal

pub returns-clause-replayed : goal.returns-clause-replayed
returns-clause-replayed g c =
    let config = c.args.config.now in
    let seed = c.args.seed in
    let steps = map step_meaning c.steps-3.result.now in
    let how = c.ending.result in
    let first = c.in-Ok-begin.ensures in
    let read = g.S.LineSource.log c.args.source.now in
    let read_now = g.S.LineSource.log c.read_script.new.source in
    let wrote = g.O.LineSink.log c.args.out.now in
    let wrote_now = g.O.LineSink.log c.play.new.out in
    replays config seed steps how c.play.result read read_now wrote wrote_now
    (subst (λ (xs : List coded.Step). Gained read read_now (ReadsScript (map step_meaning xs) how)) (sym c.steps-3.ensures)
    (subst (λ (e : Ending). Gained read read_now (ReadsScript (map step_meaning c.in-Ok.script.steps) e)) (sym c.ending.ensures) c.in-Ok.ensures.reads))
    (subst (λ (k : Config). Wrote wrote wrote_now (DidPlay k seed steps how c.play.result)) first.config_is (c.play.ensures.log seed (first.watch c.in-Ok-begin.replayer.server.config)))
