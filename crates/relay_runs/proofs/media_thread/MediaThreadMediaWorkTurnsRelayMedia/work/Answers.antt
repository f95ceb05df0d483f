use Rattle.std.proofs.Common.{arith, subst}
use Rattle.relay_runs.specs.Threads.{Swept, Each, GoesOn, lanes_took}
use Rattle.relay_runs.proofs.Dues.{each_taken}
use Rattle.relay_runs.proofs.Swept.{each_swept}
use Rattle.relay_runs.proofs.media_thread.MediaThreadMediaWorkTurnsRelayMedia.work.Goals as goal
use Rattle.relay_runs.proofs.media_thread.MediaThreadMediaWorkTurnsRelayMedia.work.Goals.{in-Halted, in-Taken}

pub returns-clause-did : goal.returns-clause-did
returns-clause-did g c =
    elim c.match-self.branch [
      | in-Halted w ↦ each_swept (g.C.Clock.range c.args.media.now.clock.now) (g.G.Gate.passed c.args.media.now.gate.now) 0 1 _ _ _ w.relay_hinted.ensures.each
          (subst (λ thread. Each (Swept 1 (g.C.Clock.range c.args.media.now.clock.now) (g.G.Gate.passed c.args.media.now.gate.now)) thread.lanes.items c.sweep_all.new.self.lanes.items) w.self-is c.sweep_all.ensures.each)
      | in-Taken w ↦ each_swept (g.C.Clock.range c.args.media.now.clock.now) (g.G.Gate.passed c.args.media.now.gate.now) 0 1 _ _ _ w.relay_due.ensures.each
          (subst (λ thread. Each (Swept 1 (g.C.Clock.range c.args.media.now.clock.now) (g.G.Gate.passed c.args.media.now.gate.now)) thread.lanes.items c.sweep_all.new.self.lanes.items) w.self-is c.sweep_all.ensures.each)
    ]

pub returns-clause-over : goal.returns-clause-over
returns-clause-over g c goes =
    elim c.match-self.branch [
      | in-Halted w ↦ w.relay_hinted.ensures.over
      | in-Taken w ↦
          let more = each_taken 1 (g.C.Clock.range c.args.media.now.clock.now) (g.G.Gate.passed c.args.media.now.gate.now) _ _
          (subst (λ thread. Each (Swept 1 (g.C.Clock.range c.args.media.now.clock.now) (g.G.Gate.passed c.args.media.now.gate.now)) thread.lanes.items c.sweep_all.new.self.lanes.items) w.self-is c.sweep_all.ensures.each) in
          let less = subst (λ u. GoesOn u (lanes_took c.sweep_all.new.self.lanes.items)) w.in-Taken.is goes in
          w.relay_due.ensures.over (omega (arith, more, less))
    ]
