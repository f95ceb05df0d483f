use Rattle.std.proofs.Common.{◌≡◌, ◌-◌, ◌^◌, min, take}
use Rattle.relay_runs.specs.Threads.{lanes_took}
use Rattle.relay_runs.proofs.media_thread.MediaThread.taken.Given as goal

abbrev pub invariant-loop-own : goal.invariant-loop-own
invariant-loop-own g l = record {
  items : l.own-items ≡ l.self.lanes.items;
  sum : l.taken ≡ min (lanes_took (take l.own-index l.self.lanes.items)) (2 ^ 64 - 1);
}
