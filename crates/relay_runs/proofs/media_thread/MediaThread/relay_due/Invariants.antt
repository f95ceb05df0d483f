use Rattle.relay_runs.specs.Threads.{AreOfTable, Swept, Each}
use Rattle.relay_runs.proofs.media_thread.MediaThread.relay_due.Given as goal

abbrev pub invariant-loop : goal.invariant-loop
invariant-loop g l = record {
  each : Each (Swept 0 (g.C.Clock.range l.media.clock.now) (g.G.Gate.passed l.media.gate.now)) l.fn.self.lanes.items l.self.lanes.items;
  table : AreOfTable l.turns l.self.lanes.items;
}
