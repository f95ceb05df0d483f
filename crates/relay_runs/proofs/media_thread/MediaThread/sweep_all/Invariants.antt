use Rattle.std.proofs.Common.{◌≡◌, ◌<◌, ℕ, length, slice_index_or}
use Rattle.relay_runs.specs.Threads.{AreOfTable, Swept, Each}
use Rattle.relay_runs.proofs.media_thread.MediaThread.sweep_all.Given as goal

abbrev pub invariant-loop-at : goal.invariant-loop-at
invariant-loop-at g l = record {
  to_end : l.at-end ≡ length l.fn.self.lanes.items;
  each : Each (Swept 0 (g.C.Clock.range l.media.clock.now) (g.G.Gate.passed l.media.gate.now)) l.fn.self.lanes.items l.self.lanes.items;
  below : (i : ℕ) (d : _) → i < l.at → Swept 1 (g.C.Clock.range l.media.clock.now) (g.G.Gate.passed l.media.gate.now) (slice_index_or l.fn.self.lanes.items i d) (slice_index_or l.self.lanes.items i d);
  table : AreOfTable l.turns l.self.lanes.items;
}
