use Rattle.std.proofs.Common.{[], List, filter}
use Rattle.histories.specs.Words.{has, numbers}
use Rattle.port_pool.specs.Signals.{NewKey}
use Rattle.offer_answer.specs.Rounds.{Demand}
use Rattle.offer_answer.specs.Offers.{PlanFor}
use Rattle.call_cell.specs.Preparations.{PrepareFor}
use Rattle.offer_command.specs.PreparedLegs.{SameLegs}
use Rattle.offer_command.proofs.cell.add_drops.Given as goal

abbrev pub invariant-loop-section : goal.invariant-loop-section
invariant-loop-section g l = record {
  stands : (asked : Demand) (keys : List NewKey) → PlanFor l.plan asked → PrepareFor l.initial.prepare keys [] → PrepareFor l.prepare keys (filter (has asked.dropped) (numbers 0 l.section));
  legs : SameLegs l.initial.prepare l.prepare;
}
