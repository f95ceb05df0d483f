use Rattle.std.proofs.Common.{◌≡◌, ◌≤◌, ◌++◌, length, reverse, vec_capacity}
use Rattle.std.specs.Prelude.{vec_len}
use Rattle.relay_runs.specs.Threads.{all_lanes}
use Rattle.relay_runs.proofs.lane_shares.gather_lanes.Given as goal

abbrev pub invariant-loop-thread : goal.invariant-loop-thread
invariant-loop-thread g l = record {
  items : l.lanes.items ++ all_lanes (reverse l.threads.items) ≡ all_lanes l.fn.threads.items;
  room : length (all_lanes l.fn.threads.items) ≤ vec_capacity l.lanes;
}

abbrev pub decreases-loop-thread : goal.decreases-loop-thread
decreases-loop-thread g l = vec_len l.threads
