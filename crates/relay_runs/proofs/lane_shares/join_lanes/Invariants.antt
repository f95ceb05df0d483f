use Rattle.std.proofs.Common.{◌≡◌, ◌+◌, ◌++◌, All, length, reverse}
use Rattle.std.specs.Prelude.{vec_len}
use Rattle.turn_table.specs.Hands.{IsHandOf, HasNoTurn, view, starts, entries, parts}
use Rattle.media_lane.specs.declared.answers.Totals.{Totals}
use Rattle.relay_runs.specs.Rounds.{all_of}
use Rattle.relay_runs.specs.Threads.{rows_each, MayJoin, AddsEach}
use Rattle.relay_runs.proofs.lane_shares.join_lanes.Given as goal

abbrev pub invariant-loop-own : goal.invariant-loop-own
invariant-loop-own g l = record {
  table : IsHandOf l.turns l.hand;
  idle : HasNoTurn l.hand;
  starts_are : starts l.hand ≡ starts l.fn.hand;
  main_is : (view l.hand).main ≡ (view l.fn.hand).main;
  others : All (λ own. MayJoin l.turns own) l.lanes.items;
  parts_are : parts l.hand + length l.lanes.items ≡ parts l.fn.hand + length l.fn.lanes.items;
  list : entries l.hand ++ all_of (rows_each (reverse l.lanes.items)) ≡ entries l.fn.hand ++ all_of (rows_each l.fn.lanes.items);
  totals_are : (t : Totals) → AddsEach (reverse l.lanes.items) l.totals t → AddsEach l.fn.lanes.items l.fn.totals t;
}

abbrev pub decreases-loop-own : goal.decreases-loop-own
decreases-loop-own g l = vec_len l.lanes
