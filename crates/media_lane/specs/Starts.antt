-- What the places of a lane's table begin as.
use mathlib.Core.HLevel.{Unit-prop}
use Rattle.std.specs.Prelude.{◌≡◌, ◌≤◌, ◌<◌, ◌+◌, ℕ, List, length, Some, slice_get}
use Rattle.std.proofs.Props.{props}
use Rattle.relay_outside.specs.declared.settings.Config.{Config}
use Rattle.port_pool.specs.Ports.{pair_count}
use Rattle.port_pool.specs.declared.holder.Holder.{Holder}
use Rattle.port_pool.specs.declared.boxes.PairBox.{PairBox}
use Rattle.port_pool.specs.PairBoxes.{holder_in, cells_of}
use Rattle.relay_core.specs.declared.part.Part.{Part}
use Rattle.relay_core.specs.declared.part.Part.TheVariants as part
use Rattle.relay_core.specs.PlaceHistories.{IsCellPart}
use Rattle.relay_core.specs.FirstPlaces.{AreParts}

-- a box of a table with `cells` cells, closed or held by a leg of one of them
pub record HasCells {I : Type 0} (cells : ℕ) (box : PairBox I) : Type 0 where
  pub cells_are : cells_of box ≡ cells
  pub held_by : (leg : Holder) → holder_in box ≡ Some leg → (1 ≤ leg.cell) × (leg.cell ≤ cells)

module _ {I O : Type 0} where
  abbrev pub IsBoxOf : ℕ → Part I O → Type 0
  IsBoxOf cells (part.Pair box) = HasCells cells box
  IsBoxOf cells _ = ⊥

  abbrev pub IsPairPart : Part I O → Type 0
  IsPairPart (part.Pair box) = Unit {0}
  IsPairPart _ = ⊥

  -- As many places as the parts of this configuration, and each of its kind: after the board's a cell for each call that may be live,
  -- and then the box of each port pair. What happened at them before is left open.
  pub record HasLaneStarts (config : Config) (starts : List (Part I O)) : Type 0 where
    pub as_many : length starts ≡ config.max_sessions + 1 + pair_count config
    pub cells : (k : ℕ) (x : Part I O) → slice_get starts k ≡ Some x → 1 ≤ k → k ≤ config.max_sessions → IsCellPart x
    pub boxes : (k : ℕ) (x : Part I O) → slice_get starts k ≡ Some x → config.max_sessions < k → IsBoxOf config.max_sessions x

  -- These are facts, of which there is one proof at most.

  pub cell_part_prop : (x : Part I O) → IsProp (IsCellPart x)
  cell_part_prop (part.Board board) = λ p q. absurd p
  cell_part_prop (part.Cell cell) = Unit-prop
  cell_part_prop (part.Pair box) = λ p q. absurd p

  pub box_of_prop : (cells : ℕ) (x : Part I O) → ((box : PairBox I) → IsProp (HasCells cells box)) → IsProp (IsBoxOf cells x)
  box_of_prop cells (part.Board board) prop = λ p q. absurd p
  box_of_prop cells (part.Cell cell) prop = λ p q. absurd p
  box_of_prop cells (part.Pair box) prop = prop box

-- the parts of each configuration begin as lanes need them
abbrev pub PartsBeginLanes : Type 0 → Type 0 → Type 0
PartsBeginLanes I O = (config : Config) (parts : List (Part I O)) → AreParts config parts → HasLaneStarts config parts

pub ruleset starts_props = (props, cell_part_prop, box_of_prop)
