use Rattle.std.proofs.Common.{◌≡◌, ◌*◌, ◌≤◌, All, Some, length, vec_capacity}
use Rattle.relay_runs.specs.declared.lane_shares.Due.{Due}
use Rattle.relay_runs.specs.Threads.{HasRoomForLanes, due_in, pairs_before}
use Rattle.relay_runs.proofs.lane_shares.thread_room.Given as goal

abbrev pub invariant-loop-number : goal.invariant-loop-number
invariant-loop-number g l = record {
  as_many : length l.threads.items ≡ l.number;
  capacity : l.share.threads ≤ vec_capacity l.threads;
  room : All (λ thread. HasRoomForLanes l.share.lanes thread) l.threads.items;
  due : (all : Due) → l.due ≡ Some all → due_in l.threads.items ≡ pairs_before all.pairs l.share.threads l.number * all.packets;
}
