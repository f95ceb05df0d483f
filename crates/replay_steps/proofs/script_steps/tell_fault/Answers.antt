use Rattle.std.proofs.Common.{◌∙◌, refl, ap, Err}
use Rattle.relay_script.specs.EventLines.{ScriptFault}
use Rattle.replay_steps.specs.Output.{DidTell}
use Rattle.replay_steps.proofs.Writings.{not_written}
use Rattle.replay_steps.proofs.script_steps.tell_fault.Goals as goal

pub returns-clause-log : goal.returns-clause-log
returns-clause-log g c =
    not_written g.O.LineSink.log (ScriptFault c.args.line) c.args.out.now c.write_event.new.out (DidTell c.args.line) c.in-Err.fault c.write_ended.result c.write_ended.ensures
    (λ q. c.write_event.ensures.memory (c.in-Err.is ∙ ap Err q)) (λ q. c.write_event.ensures.failed (c.in-Err.is ∙ ap Err q)) refl refl
