-- The entries of all places, in one list, and the history of each place.
use Rattle.std.specs.Prelude.{ℕ, zero, suc, ◌+◌, Bool, true, false, ◌&&◌, ◌==◌, List, [], ◌++◌, Option, Some, None, filter, filter_map, map}
use Rattle.relay_outside.specs.declared.settings.Config.{Config}
use Rattle.histories.specs.Words.{greatest}
use Rattle.port_pool.specs.Boxes.{BoxEvent, Take}
use Rattle.call_cell.specs.Cells.{CellEvent, CellEntry, Relay, since_end}
use Rattle.call_board.specs.Acts.{BoardEvent, BoardEntry}

pub data Event : Type 0 where
  Board : BoardEvent → Event
  Cell : CellEvent → Event
  Box : BoxEvent → Event

-- One step of one place: its number among the steps of that place, from 0, and its moment. A nested step, which is made
-- while the board's turn is held, also has the number of that board entry.
pub record Entry : Type 0 where
  pub place : ℕ
  pub number : ℕ
  pub moment : ℕ
  pub board : ℕ
  pub event : Event

-- takes and relays are made by any lane, all other steps of cells and boxes in the board's turn
abbrev pub is_nested_cell : CellEvent → Bool
is_nested_cell (Relay r) = false
is_nested_cell _ = true

abbrev pub is_nested_box : BoxEvent → Bool
is_nested_box (Take half taken) = false
is_nested_box _ = true

abbrev pub is_nested : Event → Bool
is_nested (Board b) = false
is_nested (Cell c) = is_nested_cell c
is_nested (Box b) = is_nested_box b

abbrev pub is_at : ℕ → ℕ → Entry → Bool
is_at place number e = (e.place == place) && (e.number == number)

-- the entry is nested in the board's entry of number n
abbrev pub belongs_to : ℕ → Entry → Bool
belongs_to n e = is_nested e.event && (e.board == n)

-- the entries of the place with numbers below n, the latest first
abbrev pub history : List Entry → ℕ → ℕ → List Entry
history l place zero = []
history l place (suc n) = filter (is_at place n) l ++ history l place n

abbrev pub board_at : ℕ → Event → Option BoardEntry
board_at moment (Board b) = Some (record { moment = moment; event = b })
board_at moment _ = None

abbrev pub cell_at : ℕ → Event → Option CellEntry
cell_at moment (Cell c) = Some (record { moment = moment; event = c })
cell_at moment _ = None

abbrev pub box_in : Event → Option BoxEvent
box_in (Box b) = Some b
box_in _ = None

-- the entry, where it is one of that kind
abbrev pub board_entry : Entry → Option BoardEntry
board_entry e = board_at e.moment e.event

abbrev pub cell_entry : Entry → Option CellEntry
cell_entry e = cell_at e.moment e.event

abbrev pub box_event : Entry → Option BoxEvent
box_event e = box_in e.event

abbrev pub board_history : List Entry → ℕ → List BoardEntry
board_history l n = filter_map board_entry (history l 0 n)

abbrev pub cell_history : List Entry → ℕ → ℕ → List CellEntry
cell_history l place n = filter_map cell_entry (history l place n)

-- the cell's entries since its last End, before the entry
abbrev pub cell_before : List Entry → Entry → List CellEntry
cell_before l e = since_end (cell_history l e.place e.number)

abbrev pub box_history : List Entry → ℕ → ℕ → List BoxEvent
box_history l place n = filter_map box_event (history l place n)

-- the number after the last one of the place
abbrev pub front : List Entry → ℕ → ℕ
front l place = greatest (map (λ e. e.number + 1) (filter (λ e. e.place == place) l))

-- Place 0 is the board, places 1 to the limit of sessions are the cells, then each pair has its box.
abbrev pub box_of : Config → ℕ → ℕ
box_of config pair = config.max_sessions + 1 + pair
