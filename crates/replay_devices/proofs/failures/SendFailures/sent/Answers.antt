use Rattle.std.proofs.Common.{rules}
use Rattle.std.proofs.lemmas.List.Edits.{map_over_more}
use Rattle.replay_devices.specs.Failures.{after_send_at}
use Rattle.replay_devices.proofs.failures.SendFailures.sent.Goals as goal

pub loop-failure-preserved : goal.loop-failure-preserved
loop-failure-preserved c = rw c.sent.ensures (map_over_more (after_send_at c.args.at) _ _ _ _ (search rules) c.loop-failure.invariant (search rules))
