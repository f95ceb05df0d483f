-- The legs that go from a cell, and what the end of its call does.
use Rattle.std.specs.Prelude.{◌≡◌, List, ◌∷◌, filter_map, Option, Some, None}
use Rattle.relay_outside.specs.declared.settings.Config.{Config}
use Rattle.port_pool.specs.declared.pairs.Lease.{Lease}
use Rattle.call_cell.specs.declared.leg.Leg.{Leg}
use Rattle.call_cell.specs.declared.cell.Cell.{Cell}
use Rattle.call_cell.specs.Cells.{CellEntry, End}
use Rattle.call_cell.specs.Demands.{FitsCell}
use Rattle.call_cell.specs.CellHistories.{CellFor, cell_last_moment}

-- a lease with the ends, where there are some
abbrev pub parts_with : {O : Type 0} → Lease → Option (O × O) → Option (Lease × O × O)
parts_with lease None = None
parts_with lease (Some ends) = Some (lease, ends.0, ends.1)

-- the lease and the out ends of a leg, where it has these
abbrev pub parts_of : {O : Type 0} → Leg O → Option (Lease × O × O)
parts_of leg = parts_with leg.lease leg.sending.ends

-- the end of a call, which is handed no moment
abbrev pub ended_after : List CellEntry → CellEntry
ended_after h = record { moment = cell_last_moment h; event = End }

-- the call ends after that history: the cell stands for it with the end, and all its legs went, as they were, in lease order
pub record CellEnds {O : Type 0} (config : Config) (old new : Cell O) (h : List CellEntry) (gone : List (Lease × O × O)) : Type 0 where
  pub fits : FitsCell config h (ended_after h)
  pub stands : CellFor config new (ended_after h ∷ h)
  pub went : gone ≡ filter_map (λ (leg : Leg O). parts_of leg) old.legs.items
