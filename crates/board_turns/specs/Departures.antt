-- Which leases and ends went from a cell: those of the legs that left it.
use Rattle.std.specs.Prelude.{◌≡◌, ℕ, Bool, true, List, filter, map}
use Rattle.std.specs.List.{AllZip}
use Rattle.relay_outside.specs.declared.settings.Config.{Config}
use Rattle.histories.specs.Words.{In, has}
use Rattle.turn_table.specs.declared.hands.Hand.{Hand}
use Rattle.turn_table.specs.Hands.{starts}
use Rattle.port_pool.specs.Ports.{pair_family, pair_port}
use Rattle.port_pool.specs.declared.pairs.Lease.{Lease}
use Rattle.port_pool.specs.declared.holder.Holder.{Holder}
use Rattle.port_pool.specs.declared.signal.SectionSignal.{SectionSignal}
use Rattle.port_pool.specs.Signals.{is_rejected}
use Rattle.call_cell.specs.Cells.{legs, since_end}
use Rattle.call_cell.specs.Shapes.{CellLegShape, CellShape}
use Rattle.relay_core.specs.Entries.{Entry, cell_history}
use Rattle.relay_core.specs.KeptAfter.{cell_shape_after}
use Rattle.relay_core.specs.Records.{Made}
use Rattle.relay_core.specs.Turns.{IsAbove, made_by}
use Rattle.relay_core.specs.declared.part.Part.{Part}

-- the lease is the leg's
pub record IsLeaseOf {O : Type 0} (config : Config) (went : Lease × O × O) (leg : Holder) : Type 0 where
  pub pair : went.0.pair ≡ leg.pair
  pub generation : went.0.generation ≡ leg.generation
  pub port : went.0.rtp_port ≡ pair_port config leg.pair
  pub family : went.0.family ≡ pair_family config leg.pair

-- the leases are those of these legs, in order
abbrev pub AreLeasesOf : {O : Type 0} → Config → List (Lease × O × O) → List Holder → Type 0
AreLeasesOf {O} config gone those = AllZip (IsLeaseOf {O = O} config) gone those

-- the legs that the cell has, by the list
abbrev pub legs_in : List Entry → (cell n : ℕ) → List Holder
legs_in l cell n = legs (since_end (cell_history l cell n))

-- all legs of the cell went
abbrev pub AllRemoved : {O : Type 0} → Config → List Entry → ℕ → List (Lease × O × O) → Type 0
AllRemoved config l cell gone = (n : ℕ) → IsAbove l cell n → AreLeasesOf config gone (legs_in l cell n)

-- the legs of the dropped sections went
abbrev pub DroppedRemoved : {O : Type 0} → Config → List Entry → ℕ → List ℕ → List (Lease × O × O) → Type 0
DroppedRemoved config l cell dropped gone = (n : ℕ) → IsAbove l cell n → AreLeasesOf config gone (filter (λ leg. has dropped leg.section) (legs_in l cell n))

-- the legs of the rejected sections went
abbrev pub RejectedRemoved : {O : Type 0} → Config → List Entry → ℕ → List SectionSignal → List (Lease × O × O) → Type 0
RejectedRemoved config l cell signal gone = (n : ℕ) → IsAbove l cell n → AreLeasesOf config gone (filter (λ leg. is_rejected signal leg.section) (legs_in l cell n))

-- By what a cell keeps, whatever its history.

-- what the cell at a place keeps
abbrev pub cell_kept : {M I O T : Type 0} {g : _} → Config → Hand M (Part I O) Made T g → (place : ℕ) → CellShape
cell_kept config hand place = cell_shape_after config (starts hand) (made_by hand) place

-- each leg has its out ends
abbrev pub AllHaveEnds : CellShape → Type 0
AllHaveEnds shape = (leg : CellLegShape) → In leg shape.legs → leg.has_ends ≡ true

-- the leases of those legs that pass, in lease order
abbrev pub leases_going : (goes : Holder → Bool) → CellShape → List Lease
leases_going goes shape = map (λ (leg : CellLegShape). leg.lease) (filter (λ (leg : CellLegShape). goes leg.holder) shape.legs)
