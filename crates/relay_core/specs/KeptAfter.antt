-- What the board, the cells and the boxes keep after a hand's list, by what they kept before it, whatever their histories.
use Rattle.std.specs.Prelude.{◌≡◌, ◌==◌, ◌&&◌, ◌+◌, ℕ, Bool, List, [], ◌∷◌, filter, map, Option, Some, None, if◌then◌else◌, slice_get}
use Rattle.relay_outside.specs.declared.settings.Config.{Config}
use Rattle.histories.specs.Words.{first, greatest}
use Rattle.turn_table.specs.declared.machine.Entry as table
use Rattle.turn_table.specs.declared.hands.Hand.{Hand}
use Rattle.turn_table.specs.Hands.{starts, entries}
use Rattle.port_pool.specs.declared.holder.Holder.{Holder}
use Rattle.call_cell.specs.Shapes.{CellShape}
use Rattle.call_board.specs.Shapes.{BoardShape}
use Rattle.call_shapes.specs.Events.{shape_after_event, shape_by, holder_by}
use Rattle.call_shapes.specs.Turns.{RelayShape, IsWholeRelay}
use Rattle.relay_core.specs.declared.part.Part.{Part}
use Rattle.relay_core.specs.Entries.{Event, Board, Cell, Box, Entry, front, cell_history, box_history, box_of}
use Rattle.relay_core.specs.PartShapes.{board_shape_in}
use Rattle.relay_core.specs.Records.{Made}
use Rattle.relay_core.specs.ReturnedPairs.{is_boards}
use Rattle.relay_core.specs.Scripts.{Owed}
use Rattle.relay_core.specs.WholeParts.{cell_shape_at, box_holder_at}
use Rattle.relay_core.specs.Turns.{made_by}

module _ {I O : Type 0} where
  -- what the cell at a place keeps, and the leg that the box of a pair is open for
  abbrev pub cell_shape_after : Config → List (Part I O) → List Entry → (place : ℕ) → CellShape
  cell_shape_after config parts l place = shape_by (cell_history l place (front l place)) (cell_shape_at config parts place)

  abbrev pub holder_after : Config → List (Part I O) → List Entry → (pair : ℕ) → Option Holder
  holder_after config parts l pair = holder_by (box_history l (box_of config pair) (front l (box_of config pair))) (box_holder_at config parts pair)

  -- with this of the board
  abbrev pub relay_after : Config → List (Part I O) → List Entry → BoardShape → RelayShape
  relay_after config parts l shape = record { board = shape; cells = cell_shape_after config parts l; holders = holder_after config parts l }

-- The board.

module _ {T : Type 0} where
  -- the board's rows, and of these that with the greatest number
  abbrev pub is_of_board : table.Entry Made T → Bool
  is_of_board row = (row.place == 0) && is_boards row.event.event

  abbrev pub board_front : List (table.Entry Made T) → ℕ
  board_front rows = greatest (map (λ row. row.number + 1) (filter is_of_board rows))

  abbrev pub last_of_board : List (table.Entry Made T) → Option (table.Entry Made T)
  last_of_board rows = first (filter (λ row. is_of_board row && (row.number + 1 == board_front rows)) rows)

module _ {I O T : Type 0} where
  -- what the board keeps: it is recorded in its last row, and before the first one it is what the board kept at first
  abbrev pub board_shape_after : List (Part I O) → List (table.Entry Made T) → Option BoardShape
  board_shape_after parts rows = elim (last_of_board rows) [ None ↦ elim (slice_get parts 0) [ None ↦ None | Some x ↦ board_shape_in x ] | Some row ↦ row.event.kept ]

-- All of it.

module _ {M I O T : Type 0} {g : _} where
  -- in a turn of the board, with what the board keeps then
  abbrev pub IsWholeWith : Config → Hand M (Part I O) Made T g → BoardShape → Type 0
  IsWholeWith config hand shape = IsWholeRelay config (relay_after config (starts hand) (made_by hand) shape)

  -- between the board's turns
  pub record IsWholeNow (config : Config) (hand : Hand M (Part I O) Made T g) : Type 0 where
    pub shape : BoardShape
    pub kept : board_shape_after (starts hand) (entries hand) ≡ Some shape
    pub whole : IsWholeWith config hand shape

-- What an event at a place makes of the cells, and of the boxes.

abbrev pub cell_by_event : Event → CellShape → CellShape
cell_by_event (Cell event) shape = shape_after_event event shape
cell_by_event (Board event) shape = shape
cell_by_event (Box event) shape = shape

abbrev pub box_by_event : Event → Option Holder → Option Holder
box_by_event (Box event) held = holder_by (event ∷ []) held
box_by_event (Board event) held = held
box_by_event (Cell event) held = held

abbrev pub cells_after_one : Owed → (ℕ → CellShape) → ℕ → CellShape
cells_after_one w cells place = if w.place == place then cell_by_event w.event (cells place) else cells place

abbrev pub holders_after_one : Config → Owed → (ℕ → Option Holder) → ℕ → Option Holder
holders_after_one config w holders pair = if w.place == box_of config pair then box_by_event w.event (holders pair) else holders pair

-- several in order
abbrev pub cells_after : List Owed → (ℕ → CellShape) → ℕ → CellShape
cells_after [] cells = cells
cells_after (w ∷ ws) cells = cells_after ws (cells_after_one w cells)

abbrev pub holders_after : Config → List Owed → (ℕ → Option Holder) → ℕ → Option Holder
holders_after config [] holders = holders
holders_after config (w ∷ ws) holders = holders_after config ws (holders_after_one config w holders)
