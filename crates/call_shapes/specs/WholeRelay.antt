-- Which states of all places go together, whatever their histories: a node may begin with these.
use Rattle.std.specs.Prelude.{◌≡◌, ◌<◌, ◌≤◌, ◌==◌, ◌+◌, ◌++◌, ℕ, Bool, false, List, [], ◌∷◌, map, length, count_by, Option, filter, slice_index_or}
use Rattle.std.specs.List.{flat_map}
use Rattle.relay_outside.specs.declared.settings.Config.{Config}
use Rattle.relay_outside.specs.Settings.{AreFamilies}
use Rattle.histories.specs.Words.{In, has, first}
use Rattle.port_pool.specs.declared.holder.Holder.{Holder}
use Rattle.port_pool.specs.Pools.{Pairs, generation, AreFree, AreFrom}
use Rattle.port_pool.specs.Ports.{pair_count, first_port, range_pairs}
use Rattle.call_cell.specs.Shapes.{CellLegShape, CellShape, ended_shape}
use Rattle.call_board.specs.Shapes.{LiveShape, BoardShape}
use Rattle.call_shapes.specs.Agreement.{CallAgrees}

-- The pool.

-- the pool has the ports of the configuration, and each of its pairs is just once free or one of these, which have the generations of
-- their last leases
pub record PoolHolds (config : Config) (pool : Pairs) (held : List Holder) : Type 0 where
  pub first_is : pool.first_port ≡ first_port config
  pub per_is : pool.per_family ≡ range_pairs config
  pub count_is : length pool.generations ≡ pair_count config
  pub families4 : AreFree pool.per_family pool.free4
  pub families6 : AreFrom pool.per_family pool.free6
  pub below : AreFree (length pool.generations) pool.free6
  pub once : (pair : ℕ) → pair < pair_count config → count_by (λ p. p == pair) (pool.free4 ++ pool.free6 ++ map (λ (leg : Holder). leg.pair) held) ≡ 1
  pub generations : (leg : Holder) → In leg held → (leg.pair < pair_count config) × (generation pool leg.pair ≡ leg.generation)

-- The calls.

-- the numbers of the calls rise from this one on, and stay below the other
abbrev pub ShapesRise : ℕ → List LiveShape → (below : ℕ) → Type 0
ShapesRise from [] below = from ≤ below
ShapesRise from (call ∷ calls) below = (from ≤ call.number) × ShapesRise (call.number + 1) calls below

abbrev pub cells_of_calls : List LiveShape → List ℕ
cells_of_calls calls = map (λ (call : LiveShape). call.cell) calls

-- the marks say of each cell, from 1, whether it is one of these
pub record AreMarked (count : ℕ) (taken : List Bool) (cells : List ℕ) : Type 0 where
  pub count_is : length taken ≡ count
  pub marks : (k : ℕ) (d : Bool) → k < length taken → slice_index_or taken k d ≡ has cells (k + 1)

-- the legs of all calls, by call and in lease order
abbrev pub held_legs : (ℕ → CellShape) → List LiveShape → List Holder
held_legs cells calls = flat_map (λ (call : LiveShape). map (λ (leg : CellLegShape). leg.holder) (cells call.cell).legs) calls

-- the leg that holds a pair
abbrev pub holder_among : List Holder → (pair : ℕ) → Option Holder
holder_among legs pair = first (filter (λ (leg : Holder). leg.pair == pair) legs)

-- What the board, the cells and the boxes keep goes together: each live call has a cell of its own, which holds it; the other cells are
-- empty; each pair is just once free or held by a leg; and the box of a pair is open just where a leg holds the pair, and for that leg.
pub record AreWhole (config : Config) (board : BoardShape) (cells : ℕ → CellShape) (holders : ℕ → Option Holder) : Type 0 where
  pub families : AreFamilies config
  pub config_is : board.config ≡ config
  pub numbers : ShapesRise 0 board.calls board.begun
  pub apart : AreFree (config.max_sessions + 1) (cells_of_calls board.calls)
  pub low : AreFrom 1 (cells_of_calls board.calls)
  pub marked : AreMarked config.max_sessions board.taken (cells_of_calls board.calls)
  pub calls : (call : LiveShape) → In call board.calls → CallAgrees config call.cell call.number call.dialog (cells call.cell)
  pub empty : (k : ℕ) → 1 ≤ k → k ≤ config.max_sessions → has (cells_of_calls board.calls) k ≡ false → cells k ≡ ended_shape config
  pub pool : PoolHolds config board.pool (held_legs cells board.calls)
  pub held : (pair : ℕ) → pair < pair_count config → holders pair ≡ holder_among (held_legs cells board.calls) pair
