use Rattle.std.proofs.Common.{◌≡◌, ◌+◌, ◌≤◌, All, length, vec_capacity}
use Rattle.turn_table.specs.Hands.{entries, parts}
use Rattle.board_turns.specs.Between.{IsBetween}
use Rattle.relay_runs.specs.Threads.{AreNumbers, IsFreshLane, all_lanes, due_in, numbers_of}
use Rattle.relay_runs.proofs.lane_shares.make_lanes.Given as goal

abbrev pub invariant-loop-index : goal.invariant-loop-index
invariant-loop-index g l = record {
  as_many : length l.threads.items ≡ length l.fn.threads.items;
  fresh : All (λ thread. All (λ own. IsFreshLane l.config l.turns l.share.lanes own) thread.lanes.items) l.threads.items;
  few : All (λ thread. length thread.lanes.items ≤ l.index) l.threads.items;
  room : All (λ thread. l.share.lanes ≤ vec_capacity thread.lanes) l.threads.items;
  once : AreNumbers l.index (numbers_of (all_lanes l.threads.items));
  long : length (all_lanes l.threads.items) ≡ l.index;
  parts_are : parts l.hand + l.index ≡ parts l.fn.hand;
  list : entries l.hand ≡ entries l.fn.hand;
  between : IsBetween l.config l.turns l.hand;
  due : due_in l.threads.items ≡ due_in l.fn.threads.items;
}
