use Rattle.relay_runs.proofs.Swept.{each_swept, each_unswept}
use Rattle.relay_runs.proofs.media_thread.MediaThread.sweep_next.Goals as goal

pub loop-init : goal.loop-init
loop-init g c = record { each = each_unswept (g.C.Clock.range c.args.media.now.clock.now) (g.G.Gate.passed c.args.media.now.gate.now) c.args.self.now.lanes.items; table = c.requires }

pub loop-preserved : goal.loop-preserved
loop-preserved g c = record { each = each_swept (g.C.Clock.range c.args.media.now.clock.now) (g.G.Gate.passed c.args.media.now.gate.now) 0 0 _ _ _ c.loop.invariant.each c.sweep_at.ensures.each; table = c.sweep_at.ensures.table }
