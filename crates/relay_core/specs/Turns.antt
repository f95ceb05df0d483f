-- What a hand's list gains: the nested entries of a turn of the board one after the other, then the board's own entry; and the
-- takes and relays of lanes.
use Rattle.std.specs.Prelude.{◌≡◌, ℕ, ◌<◌, List, [], ◌∷◌, ◌++◌, Some, map, filter, length}
use Rattle.relay_outside.specs.declared.settings.Config.{Config}
use Rattle.turn_table.specs.declared.machine.Entry as table
use Rattle.turn_table.specs.Histories as table_lists
use Rattle.turn_table.specs.declared.hands.Hand.{Hand}
use Rattle.turn_table.specs.Hands.{entries}
use Rattle.histories.specs.Words.{In, Before}
use Rattle.port_pool.specs.Boxes.{Take}
use Rattle.call_cell.specs.Cells.{Relay, Relayed}
use Rattle.call_board.specs.Acts.{BoardEntry}
use Rattle.call_board.specs.Fits.{FitsBoard}
use Rattle.relay_core.specs.Entries.{Event, Cell, Box, Entry, is_at, board_entry, board_history}
use Rattle.relay_core.specs.Scripts.{Owed, owed_by, script}
use Rattle.relay_core.specs.Legal.{IsReceived}
use Rattle.relay_core.specs.Records.{Made, list_of}

-- each entry of the list has one number of its place
abbrev pub Numbered : List Entry → Type 0
Numbered l = (e : Entry) → In e l → length (filter (is_at e.place e.number) l) ≡ 1

-- the number is above all of the list's at that place
abbrev pub IsAbove : List Entry → ℕ → ℕ → Type 0
IsAbove l place number = (e : Entry) → In e l → e.place ≡ place → e.number < number

-- The board's turns.

-- each entry is above all that its place had when it came
abbrev pub Rising : List Entry → List Entry → Type 0
Rising l [] = Unit {0}
Rising l (e ∷ es) = IsAbove l e.place e.number × Rising (l ++ e ∷ []) es

-- The list gains these entries, which meet these events in order and belong to the board's entry of that number
pub record GainedOwed (l : List Entry) (number : ℕ) (events : List Owed) (ns : List Entry) : Type 0 where
  pub owes : map owed_by ns ≡ events
  pub of_board : (e : Entry) → In e ns → e.board ≡ number
  pub rising : Rising l ns

-- The nested entries of a turn of the board, and the board's own entry, for the list before it
pub record IsTurn (config : Config) (l ns : List Entry) (b : Entry) : Type 0 where
  pub entry : BoardEntry
  pub is : board_entry b ≡ Some entry
  pub at_board : b.place ≡ 0
  -- the board's entry is above all that the list has of the board, and fits what they leave
  pub at_front : IsAbove l 0 b.number
  pub fits : FitsBoard config (board_history l b.number) entry
  -- the nested entries are its script, in order
  pub owes : map owed_by ns ≡ script config (board_history l b.number) entry
  pub of_board : (e : Entry) → In e ns → e.board ≡ b.number
  -- each is above all that its place has
  pub above : (e : Entry) → In e ns → IsAbove l e.place e.number
  pub once : Numbered ns
  pub in_order : (e f : Entry) → In e ns → In f ns → e.place ≡ f.place → e.number < f.number → Before e f ns

-- the longer list
abbrev pub with_turn : List Entry → List Entry → Entry → List Entry
with_turn l ns b = (l ++ ns) ++ b ∷ []

-- The steps of lanes.

-- a take or a relay
abbrev pub IsOfLane : Event → Type 0
IsOfLane (Cell (Relay r)) = Unit {0}
IsOfLane (Box (Take half taken)) = Unit {0}
IsOfLane _ = ⊥

-- each relay of the list is of a take that stands before it, and no two are of one take
pub record IsReceiving (config : Config) (l : List Entry) : Type 0 where
  pub received : (e : Entry) (x : Relayed) → In e l → e.event ≡ Cell (Relay x) → IsReceived config l e x.packet
  pub once : (e f : Entry) (x y : Relayed) → In e l → In f l → e.event ≡ Cell (Relay x) → f.event ≡ Cell (Relay y) →
      x.packet.holder.pair ≡ y.packet.holder.pair → x.packet.take ≡ y.packet.take → e ≡ f

-- What a hand made.
module _ {M S T : Type 0} {g : _} where
  -- the hand's list, as entries of the relay
  abbrev pub made_by : Hand M S Made T g → List Entry
  made_by hand = list_of (entries hand)

  -- The hand's list gained entries that meet these events in order, belong to the board's entry of that number, and were handed
  -- that moment
  pub record GainsNested (number moment : ℕ) (events : List Owed) (old new : Hand M S Made T g) : Type 0 where
    pub rows : List (table.Entry Made T)
    pub list_is : entries new ≡ entries old ++ rows
    pub gained : GainedOwed (made_by old) number events (list_of rows)
    pub handed : (row : table.Entry Made T) → table_lists.IsMemberOf row rows → row.event.handed ≡ moment
