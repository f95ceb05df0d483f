use Rattle.std.proofs.Common.{arith}
use Rattle.relay_runs.proofs.Swept.{swept_one}
use Rattle.relay_runs.proofs.lanes.OwnLane.sweep.Goals as goal

pub returns : goal.returns
returns g c =
    swept_one (g.C.Clock.range c.args.media.now.clock.now) (g.G.Gate.passed c.args.media.now.gate.now) c.args.self.now _ c.sweep-more.result c.sweep-more.ensures.same c.sweep-more.ensures.swept
    c.sweep-more.ensures.list c.sweep-more.ensures.gated c.add.ensures (omega arith)
