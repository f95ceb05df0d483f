-- When the records of a node go together, which reads them to go on with its calls.
use Rattle.std.specs.Prelude.{◌≡◌, ◌≤◌, ℕ, false, List, length}
use Rattle.relay_outside.specs.declared.settings.Config.{Config}
use Rattle.histories.specs.Words.{In, has}
use Rattle.port_pool.specs.SavedPools.{saved_pairs}
use Rattle.port_pool.specs.declared.holder.Holder.{Holder}
use Rattle.port_pool.specs.declared.saved_pool.PoolSaved.{PoolSaved}
use Rattle.call_cell.specs.Shapes.{ended_shape}
use Rattle.call_cell.specs.declared.saved.CellSaved.{CellSaved}
use Rattle.call_board.specs.Shapes.{LiveShape}
use Rattle.call_board.specs.declared.saved_board.CallSaved.{CallSaved}
use Rattle.call_shapes.specs.Agreement.{CallAgrees}
use Rattle.call_shapes.specs.WholeRelay.{PoolHolds, cells_of_calls, held_legs}
use Rattle.whole_records.specs.SavedShapes.{saved_live_shapes, saved_cell_at}

-- the legs of all calls that are saved so, by call and in lease order
abbrev pub saved_held_legs : Config → List CallSaved → List CellSaved → List Holder
saved_held_legs config calls cells = held_legs (saved_cell_at config cells) (saved_live_shapes calls)

-- There are as many cells as the configuration has. Of each call its cell holds that call and has the configuration; each leg there names cell
-- and call, is of a section, has a pair of the range, and its lease is the one that the range and the leg give for that pair; of each section
-- and side dialog and cell agree in the pair, in the numbers and suites of the keys and in what is committed; and the sections with pairs are
-- among those of the last offer. Each other cell has the configuration, and no call and no legs. And each pair of the range stands just once, in
-- the queue of its family or as a leg of one call's cell, which has the generation that the pool tells for the pair.
pub record RecordsAgree (config : Config) (pool : PoolSaved) (calls : List CallSaved) (cells : List CellSaved) : Type 0 where
  pub count_is : length cells ≡ config.max_sessions
  pub agree : (call : LiveShape) → In call (saved_live_shapes calls) → CallAgrees config call.cell call.number call.dialog (saved_cell_at config cells call.cell)
  pub empty : (k : ℕ) → 1 ≤ k → k ≤ config.max_sessions → has (cells_of_calls (saved_live_shapes calls)) k ≡ false → saved_cell_at config cells k ≡ ended_shape config
  pub pairs_hold : PoolHolds config (saved_pairs pool) (saved_held_legs config calls cells)
