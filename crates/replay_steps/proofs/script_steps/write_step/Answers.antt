use Rattle.std.proofs.Common.{◌∙◌, refl, sym, ap, subst, Some, None, Err}
use Rattle.relay_script.specs.EventLines.{event_of}
use Rattle.replay_steps.specs.declared.ended.Ended.{Ended}
use Rattle.replay_steps.specs.declared.step.Stepped.{Stepped}
use Rattle.replay_steps.specs.declared.step.Stepped.TheVariants as stepped
use Rattle.replay_steps.specs.Output.{Wrote, written, DidStep}
use Rattle.replay_steps.proofs.Writings.{wrote_one, not_written}
use Rattle.replay_steps.proofs.script_steps.write_step.Goals as goal

pub returns-in-Ok-clause-log : goal.returns-in-Ok-clause-log
returns-in-Ok-clause-log g c =
    let e = c.in-Prints.event in
    let was = g.O.LineSink.log c.args.out.now in
    let is = g.O.LineSink.log c.write_event.new.out in
    subst (λ (did : Stepped). Wrote was is (DidStep did c.args.line None)) (sym c.in-Prints.is)
    (wrote_one was is (written (event_of e)) (DidStep (stepped.Prints e) c.args.line None) c.in-Ok.ensures.written refl)

pub returns-in-Prints-clause-log : goal.returns-in-Prints-clause-log
returns-in-Prints-clause-log g c =
    let e = c.in-Prints.event in
    let was = g.O.LineSink.log c.args.out.now in
    let is = g.O.LineSink.log c.write_event.new.out in
    subst (λ (did : Stepped). Wrote was is (DidStep did c.args.line (Some c.write_ended.result))) (sym c.in-Prints.is)
    (not_written g.O.LineSink.log (event_of e) c.args.out.now c.write_event.new.out (λ (end : Ended). DidStep (stepped.Prints e) c.args.line (Some end)) c.in-Err.fault c.write_ended.result
    c.write_ended.ensures (λ q. c.write_event.ensures.memory (c.in-Err.is ∙ ap Err q)) (λ q. c.write_event.ensures.failed (c.in-Err.is ∙ ap Err q)) refl refl)
