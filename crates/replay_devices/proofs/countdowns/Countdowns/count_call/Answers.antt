use Rattle.std.proofs.Common.{ℕ, ◌-◌, rules}
use Rattle.std.proofs.lemmas.List.Edits.{map_over_more}
use Rattle.replay_devices.proofs.countdowns.Countdowns.count_call.Goals as goal

pub loop-number-preserved : goal.loop-number-preserved
loop-number-preserved c = rw c.saturating_sub.ensures (map_over_more (λ (n : ℕ). n - 1) _ _ _ _ (search rules) c.loop-number.invariant (search rules))
