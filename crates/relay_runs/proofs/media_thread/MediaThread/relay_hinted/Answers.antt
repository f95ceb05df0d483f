use Rattle.relay_runs.proofs.Swept.{each_swept, each_unswept}
use Rattle.relay_runs.proofs.media_thread.MediaThread.relay_hinted.Goals as goal

pub loop-init : goal.loop-init
loop-init g c = record { each = each_unswept (g.C.Clock.range c.args.media.now.clock.now) (g.G.Gate.passed c.args.media.now.gate.now) c.args.self.now.lanes.items; table = c.requires }

pub loop-pair-preserved : goal.loop-pair-preserved
loop-pair-preserved g c = record { each = each_swept (g.C.Clock.range c.args.media.now.clock.now) (g.G.Gate.passed c.args.media.now.gate.now) 0 0 _ _ _ c.loop-pair.invariant.each c.sweep_pair.ensures.each; table = c.sweep_pair.ensures.table }

pub loop-preserved : goal.loop-preserved
loop-preserved g c = record { each = each_swept (g.C.Clock.range c.args.media.now.clock.now) (g.G.Gate.passed c.args.media.now.gate.now) 0 0 _ _ _ c.loop-pair.invariant.each c.sweep_next.ensures.each; table = c.sweep_next.ensures.table }
