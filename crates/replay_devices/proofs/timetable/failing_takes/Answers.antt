use Rattle.std.proofs.Common.{rules, List, [], ◌∷◌, ◌++◌, ◌≡◌, ◌∙◌, ap, take, reverse}
use Rattle.relay_script.specs.declared.step.Step.{Step}
use Rattle.replay_devices.specs.Ports.{take_fails_behind}
use Rattle.replay_devices.proofs.Counting.{passed, one_passed, one_settled}
use Rattle.replay_devices.proofs.timetable.failing_takes.Goals as goal

pub loop-step-preserved : goal.loop-step-preserved
loop-step-preserved c = record {
  lines = search rules;
  done =
      let pushed : c.push.new.self.items ≡ c.loop-step.failing.items ++ c.next_fails.result ∷ [] = search rules in
      rw pushed
      (one_settled c.loop-step.failing.items c.args.steps.now c.loop-step.step-index c.next_fails.result c.loop-step.invariant.lines c.loop-step.invariant.done
      (c.next_fails.ensures ∙ c.loop-step.invariant.to_come 0));
  to_come = λ later.
      rw c.in_ok-pass.ensures
      (passed c.step-item.result (reverse (take c.loop-step.step-index c.args.steps.now)) c.loop-step.takes.list c.loop-step.invariant.to_come later
      ∙ ap (λ (past : List Step). take_fails_behind past later) (one_passed c.args.steps.now c.loop-step.step-index c.step-item.result c.loop-step-test.true c.step-item.is));
}
