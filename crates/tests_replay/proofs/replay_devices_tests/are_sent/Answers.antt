use Rattle.std.proofs.Common.{◌∙◌}
use Rattle.tests_replay.proofs.replay_devices_tests.are_sent.Goals as goal

pub loop-done-preserved : goal.loop-done-preserved
loop-done-preserved g c = c.send-sent.ensures.log.same ∙ c.loop-done.invariant
