use Rattle.relay_runs.proofs.Swept.{each_unswept}
use Rattle.relay_runs.proofs.media_thread.MediaThread.sweep_pair.Goals as goal

pub returns-else-thread_of-self-clause-each : goal.returns-else-thread_of-self-clause-each
returns-else-thread_of-self-clause-each g c = each_unswept (g.C.Clock.range c.args.media.now.clock.now) (g.G.Gate.passed c.args.media.now.gate.now) c.args.self.now.lanes.items

pub returns-in_default-clause-each : goal.returns-in_default-clause-each
returns-in_default-clause-each g c = each_unswept (g.C.Clock.range c.args.media.now.clock.now) (g.G.Gate.passed c.args.media.now.gate.now) c.args.self.now.lanes.items
