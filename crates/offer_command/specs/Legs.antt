-- The new legs of an offer, in the order of leases.
use Rattle.std.specs.Prelude.{◌≡◌, ℕ, List}
use Rattle.port_pool.specs.declared.holder.Holder.{Holder}
use Rattle.port_pool.specs.declared.pairs.Lease.{Lease}
use Rattle.offer_answer.specs.Rounds.{Demand}
use Rattle.offer_answer.specs.Offers.{PlanFor}
use Rattle.offer_answer.specs.declared.plan.Plan.{Plan}
use Rattle.call_board.specs.Acts.{Call}
use Rattle.call_board.specs.Whole.{holders_of_new_legs}

-- whatever the plan demands: the legs of a call with this number and this cell, a lease for each leg that is demanded, in order
abbrev pub LegsFor : Plan → (call cell : ℕ) → List Lease → List Holder → Type 0
LegsFor plan call cell leases legs =
    (asked : Demand) (of : Call) → PlanFor plan asked → of.number ≡ call → of.cell ≡ cell → legs ≡ holders_of_new_legs of leases asked.pairs
