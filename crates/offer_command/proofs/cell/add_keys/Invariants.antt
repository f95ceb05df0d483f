use Rattle.std.proofs.Common.{◌≡◌, ◌+◌, ◌++◌, ℕ, List, take}
use Rattle.port_pool.specs.Signals.{NewKey}
use Rattle.offer_answer.specs.Rounds.{Demand}
use Rattle.offer_answer.specs.Offers.{PlanFor}
use Rattle.call_board.specs.Pairs.{drawn_keys_from}
use Rattle.call_cell.specs.Preparations.{PrepareFor, key_room}
use Rattle.offer_command.specs.PreparedLegs.{SameLegs}
use Rattle.offer_command.proofs.cell.add_keys.Given as goal

abbrev pub invariant-loop-index : goal.invariant-loop-index
invariant-loop-index g l = record {
  stands : (asked : Demand) (keys : List NewKey) (dropped : List ℕ) → PlanFor l.plan asked → PrepareFor l.initial.prepare keys dropped
      → PrepareFor l.prepare (keys ++ drawn_keys_from l.first_key (take l.index l.keys) asked.keys) dropped;
  legs : SameLegs l.initial.prepare l.prepare;
  key_room : key_room l.prepare + l.index ≡ key_room l.initial.prepare;
}
