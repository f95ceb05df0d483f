use Rattle.std.proofs.Common.{arith}
use Rattle.relay_runs.proofs.Swept.{each_swept, each_unswept, each_fewer}
use Rattle.relay_runs.proofs.media_thread.MediaThread.relay_due.Goals as goal

pub loop-init : goal.loop-init
loop-init g c = record { each = each_unswept (g.C.Clock.range c.args.media.now.clock.now) (g.G.Gate.passed c.args.media.now.gate.now) c.args.self.now.lanes.items; table = c.requires }

pub loop-preserved : goal.loop-preserved
loop-preserved g c = record {
  each = each_swept (g.C.Clock.range c.args.media.now.clock.now) (g.G.Gate.passed c.args.media.now.gate.now) 0 0 _ _ _ c.loop.invariant.each (each_fewer (g.C.Clock.range c.args.media.now.clock.now) (g.G.Gate.passed c.args.media.now.gate.now) 1 0 _ _ (omega arith) c.sweep_all.ensures.each);
  table = c.sweep_all.ensures.table;
}
