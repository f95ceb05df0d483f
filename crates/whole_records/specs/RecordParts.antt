-- What is asked of the parts of the records.
use Rattle.std.specs.Prelude.{◌≡◌, ◌<◌, ◌++◌, ℕ, Bool, true, false, List, filter, length, slice_index_or}
use Rattle.relay_outside.specs.declared.settings.Config.{Config}
use Rattle.histories.specs.Words.{In, has}
use Rattle.port_pool.specs.declared.holder.Side.{Side}
use Rattle.port_pool.specs.Pools.{Pairs, AreFree, AreFrom}
use Rattle.port_pool.specs.Ports.{pair_count, first_port, range_pairs}
use Rattle.offer_answer.specs.Shapes.{DialogShape, LegShape, SectionShape}
use Rattle.call_cell.specs.Shapes.{CellLegShape, CellShape, ended_shape}
use Rattle.call_cell.specs.declared.saved.LegSaved.{LegSaved}
use Rattle.call_cell.specs.declared.saved.CellSaved.{CellSaved}
use Rattle.call_board.specs.declared.saved_board.CallSaved.{CallSaved}
use Rattle.call_shapes.specs.Agreement.{IsLegOf, LegAgrees, CallAgrees, SideAgrees, SectionAgrees, side_of_shape, stands_on}
use Rattle.whole_records.specs.SavedShapes.{saved_dialog_shape, saved_leg_shape, saved_leg_shapes, saved_cell_shape, saved_cell_at}

-- Legs.

-- the leg is one of this cell and call, and has the generation of the last lease of its pair
pub record IsLeased (config : Config) (generations : List ℕ) (cell call : ℕ) (leg : CellLegShape) : Type 0 where
  pub is_of : IsLegOf config cell call leg
  pub is_last : slice_index_or generations leg.holder.pair 0 ≡ leg.holder.generation

abbrev pub LegsAreLeased : Config → List ℕ → (cell call : ℕ) → List LegSaved → Type 0
LegsAreLeased config generations cell call legs = (leg : LegSaved) → In leg legs → IsLeased config generations cell call (saved_leg_shape leg)

-- the dialog keeps of the leg what the cell does, committed or not
pub record KeepsLeg (config : Config) (kept : LegShape) (committed : Bool) (leg : CellLegShape) : Type 0 where
  pub agrees : LegAgrees config kept leg
  pub is_committed : leg.is_committed ≡ committed

-- Sections.

-- the dialog and the legs agree on one side of a section
abbrev pub SideHolds : Config → SectionShape → List LegSaved → (section : ℕ) → Side → Type 0
SideHolds config kept legs section side =
    SideAgrees config kept.has_pairs kept.is_committed (side_of_shape kept side) (filter (stands_on section side) (saved_leg_shapes legs))

-- on both sides of each section
abbrev pub SectionsHold : Config → DialogShape → List LegSaved → Type 0
SectionsHold config dialog legs = (section : ℕ) (side : Side) → section < 8 → SectionAgrees config dialog (saved_leg_shapes legs) section side

-- the section is among so many offered ones, where it has pairs, and among so many committed ones, where it is committed
abbrev pub IsAmong : SectionShape → ℕ → (offered committed : ℕ) → Type 0
IsAmong kept section offered committed = (kept.has_pairs ≡ true → section < offered) × (kept.is_committed ≡ true → section < committed)

-- Calls.

-- the call and its cell agree, and the legs there are leased last
pub record CellHolds (config : Config) (generations : List ℕ) (call : CallSaved) (cell : CellShape) : Type 0 where
  pub agrees : CallAgrees config call.cell call.number (saved_dialog_shape call.dialog) cell
  pub last : (leg : CellLegShape) → In leg cell.legs → slice_index_or generations leg.holder.pair 0 ≡ leg.holder.generation

abbrev pub CallsHold : Config → List ℕ → List CallSaved → List CellSaved → Type 0
CallsHold config generations calls cells = (call : CallSaved) → In call calls → CellHolds config generations call (saved_cell_at config cells call.cell)

-- the cells without a mark hold no call
abbrev pub OthersAreEmpty : Config → List Bool → List CellSaved → Type 0
OthersAreEmpty config marks cells = (k : ℕ) (d : CellSaved) → k < length cells → slice_index_or marks k false ≡ false →
    saved_cell_shape (slice_index_or cells k d) ≡ ended_shape config

-- Pairs.

-- each number below the count stands there just once, and no other does
pub record StandOnce (count : ℕ) (pairs : List ℕ) : Type 0 where
  pub free : AreFree count pairs
  pub all : (pair : ℕ) → pair < count → has pairs pair ≡ true

-- the pool has the ports of the configuration, and in each queue stand pairs of its family
pub record HasRange (config : Config) (pool : Pairs) : Type 0 where
  pub first_is : pool.first_port ≡ first_port config
  pub per_is : pool.per_family ≡ range_pairs config
  pub count_is : length pool.generations ≡ pair_count config
  pub low : (pair : ℕ) → In pair pool.free4 → pair < pool.per_family
  pub later : AreFrom pool.per_family pool.free6

-- and each pair of the range stands just once, in a queue or among the held ones
pub record PairsStand (config : Config) (pool : Pairs) (held : List ℕ) : Type 0 where
  pub range : HasRange config pool
  pub once : StandOnce (pair_count config) (pool.free4 ++ pool.free6 ++ held)
