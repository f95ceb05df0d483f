use Rattle.std.proofs.Common.{◌-◌, drop, length}
use Rattle.call_board.specs.SavedBoards.{IdsApart}
use Rattle.state_reads.specs.Calls.{saved_ids}
use Rattle.state_reads.proofs.call_orders.ids_apart.Given as goal

abbrev pub invariant-calls : goal.invariant-calls
invariant-calls l = record {
  whole : IdsApart (saved_ids (drop l.at l.calls)) → IdsApart (saved_ids l.calls);
  rest : IdsApart (saved_ids l.calls) → IdsApart (saved_ids (drop l.at l.calls));
}

abbrev pub decreases-calls : goal.decreases-calls
decreases-calls l = length l.calls - l.at
