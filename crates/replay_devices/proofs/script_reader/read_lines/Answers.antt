use Rattle.std.proofs.Common.{◌≡◌, ◌∙◌, ap, subst, ℕ, ◌+◌, length, arith}
use Rattle.std.proofs.lemmas.List.{length_push}
use Rattle.std.proofs.lemmas.Result.{err_from_is_err_and}
use Rattle.replay_devices.specs.LineReads.{OneRead}
use Rattle.replay_devices.specs.Scripts.{ReadsEnding}
use Rattle.replay_devices.proofs.Gaining.{step_read, ending_read, ending_found, line_read, step_lost}
use Rattle.replay_devices.proofs.script_reader.read_lines.Goals as goal

pub returns-in_err-keep_step-in-Step-clause-front : goal.returns-in_err-keep_step-in-Step-clause-front
returns-in_err-keep_step-in-Step-clause-front g c =
    let one = rw c.in-Step.is at c.in_ok-step.ensures.read in
    let p = err_from_is_err_and c.from_residual-in_err-keep_step-in-Step.result c.from_residual-in_err-keep_step-in-Step.ensures.1 in
    rw p.1
    (step_lost (g.S.LineSource.log c.args.source.now) (g.S.LineSource.log c.loop-line.source) (g.S.LineSource.log c.read_step.new.source)
    c.loop-line.steps.items c.in-Step.step (omega arith) c.loop-line.invariant.reads one)

pub returns-in-Ending-clause-reads : goal.returns-in-Ending-clause-reads
returns-in-Ending-clause-reads g c =
    let one = rw c.in-Ending.is at c.in_ok-step.ensures.read in
    ending_found (g.S.LineSource.log c.args.source.now) (g.S.LineSource.log c.loop-line.source) (g.S.LineSource.log c.read_step.new.source)
    c.loop-line.steps.items c.in-Ending.ending (omega arith) c.loop-line.invariant.reads one

pub returns-in_err-step-clause-front : goal.returns-in_err-step-clause-front
returns-in_err-step-clause-front g c =
    let p = err_from_is_err_and c.from_residual.result c.from_residual.ensures.1 in
    rw p.1
    (line_read (g.S.LineSource.log c.args.source.now) (g.S.LineSource.log c.loop-line.source) (g.S.LineSource.log c.read_step.new.source)
    c.loop-line.steps.items (omega arith) c.loop-line.invariant.reads c.in_err-step.ensures.read)

pub loop-line-preserved : goal.loop-line-preserved
loop-line-preserved g c =
    let one = rw c.in-Step.is at c.in_ok-step.ensures.read in
    record {
      reads = step_read (g.S.LineSource.log c.args.source.now) (g.S.LineSource.log c.loop-line.source) (g.S.LineSource.log c.read_step.new.source)
          c.loop-line.steps.items c.keep_step.new.steps.items c.in-Step.step c.in_ok-keep_step-in-Step.ensures c.loop-line.invariant.reads one;
      count = ap length c.in_ok-keep_step-in-Step.ensures ∙ length_push c.loop-line.steps.items c.in-Step.step ∙ ap (λ (n : ℕ). n + 1) c.loop-line.invariant.count;
      later = omega arith;
    }

pub returns-clause-reads : goal.returns-clause-reads
returns-clause-reads g c =
    let all : 50000 ≡ length c.loop-line.steps.items = omega arith in
    let last = subst (λ (n : ℕ). OneRead (g.S.LineSource.log c.loop-line.source) (g.S.LineSource.log c.read_past-ending.new.source) (ReadsEnding n c.read_past-ending.result)) all c.read_past-ending.ensures.read in
    ending_read (g.S.LineSource.log c.args.source.now) (g.S.LineSource.log c.loop-line.source) (g.S.LineSource.log c.read_past-ending.new.source)
    c.loop-line.steps.items c.read_past-ending.result (omega arith) c.loop-line.invariant.reads last
