use Rattle.replay_devices.proofs.Places.{key_used}
use Rattle.replay_devices.proofs.keys.ReplayKeys.use_line_key.Goals as goal

pub returns-clause-unused : goal.returns-clause-unused
returns-clause-unused c = rw (c.key_of.ensures, ← c.self.view_is) (key_used c.self.inside.steps.now c.self.inside.next c.self.inside.step c.in-Some.place _ (rw c.between-lines.ensures at c.in-Some.ensures) (rw c.between-lines.ensures at c.index-lines-place.is))
