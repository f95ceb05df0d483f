-- When a list of entries is legal.
use Rattle.std.specs.Prelude.{◌≡◌, ℕ, ◌<◌, ◌≤◌, ◌⊎◌, Bool, true, false, ◌==◌, List, map, length, Some, filter, count_by, max}
use Rattle.relay_outside.specs.declared.settings.Config.{Config}
use Rattle.histories.specs.Words.{In, Before, greatest}
use Rattle.port_pool.specs.Boxes.{Take, Datagram, FitsBox}
use Rattle.call_cell.specs.Cells.{Prepare, Commit, Relay, Expire, Relayed, Receipt}
use Rattle.call_cell.specs.Demands.{FitsCell}
use Rattle.call_board.specs.Acts.{BoardEntry, Turn, Tick}
use Rattle.call_board.specs.Fits.{FitsBoard}
use Rattle.relay_core.specs.Entries.{Event, Board, Cell, Box, Entry, is_nested, is_at, belongs_to, history, board_entry, board_history, cell_history, box_history, box_of}
use Rattle.relay_core.specs.Scripts.{owed_by, script}

-- the event is the one that the history of its place demands there and then
abbrev pub FitsEvent : Config → List Entry → (place number moment : ℕ) → Event → Type 0
FitsEvent config l place number moment (Board b) =
    (place ≡ 0) × FitsBoard config (board_history l number) (record { moment = moment; event = b })
FitsEvent config l place number moment (Cell c) =
    FitsCell config (cell_history l place number) (record { moment = moment; event = c })
FitsEvent config l place number moment (Box b) = FitsBox (box_history l place number) b

abbrev pub Fits : Config → List Entry → Entry → Type 0
Fits config l e = FitsEvent config l e.place e.number e.moment e.event

-- the board's events stand at its place, those of cells and of boxes at theirs
abbrev pub StandsAt : Config → (place : ℕ) → Event → Type 0
StandsAt config place (Board b) = place ≡ 0
StandsAt config place (Cell c) = (1 ≤ place) × (place ≤ config.max_sessions)
StandsAt config place (Box b) = config.max_sessions < place

-- the relay's packet is what that take gave, to the leg that held the box at that take, and it is relayed in that leg's cell
pub record IsReceived (config : Config) (l : List Entry) (e : Entry) (p : Receipt) : Type 0 where
  pub taking : Entry
  pub is_there : Before taking e l
  pub at_box : taking.place ≡ box_of config p.holder.pair
  pub with_number : taking.number ≡ p.take
  pub gave : taking.event ≡ Box (Take p.half (Datagram p.holder p.source p.bytes))
  pub in_its_cell : e.place ≡ p.holder.cell

-- the events that are handed a moment of their own, and those that are handed their board entry's
abbrev pub is_handed_own : Event → Bool
is_handed_own (Board (Turn c)) = true
is_handed_own (Board (Tick calls)) = true
is_handed_own (Cell (Relay x)) = true
is_handed_own _ = false

abbrev pub is_handed_boards : Event → Bool
is_handed_boards (Cell (Prepare call legs keys dropped)) = true
is_handed_boards (Cell (Commit signal)) = true
is_handed_boards (Cell (Expire due)) = true
is_handed_boards _ = false

-- the last moment of the entry's place before it, at first 0
abbrev pub last_moment : List Entry → Entry → ℕ
last_moment l e = greatest (map (λ f. f.moment) (history l e.place e.number))

-- an entry's moment is the greater of the handed one and the last one of its place
pub record IsTimed (l : List Entry) (e : Entry) : Type 0 where
  pub never_falls : last_moment l e ≤ e.moment
  pub of_board : (b : Entry) → In b l → b.place ≡ 0 → b.number ≡ e.board → is_handed_boards e.event ≡ true → e.moment ≡ max b.moment (last_moment l e)
  pub else_last : is_handed_own e.event ≡ false → is_handed_boards e.event ≡ false → e.moment ≡ last_moment l e

-- What holds of a list that has the board's entries and the nested ones, whatever entries of lanes it has
pub record Orderly (config : Config) (l : List Entry) : Type 0 where
  -- an entry is named by its place and its number
  pub numbered : (e : Entry) → In e l → length (filter (is_at e.place e.number) l) ≡ 1
  -- each board entry is the one that the board's history demands
  pub board_fits : (b : Entry) (e : BoardEntry) → In b l → board_entry b ≡ Some e → (b.place ≡ 0) × FitsBoard config (board_history l b.number) e
  -- the nested entries of a board entry are its script, in order
  pub scripted : (b : Entry) (e : BoardEntry) → In b l → b.place ≡ 0 → board_entry b ≡ Some e →
      map owed_by (filter (belongs_to b.number) l) ≡ script config (board_history l b.number) e
  -- each nested entry belongs to a board entry
  pub nested : (e : Entry) → In e l → is_nested e.event ≡ true →
      (b : Entry) × In b l × (b.place ≡ 0) × (b.number ≡ e.board) × ((x : BoardEntry) × (board_entry b ≡ Some x))
  -- at each place the nested entries stand in the order of the board's entries, and of one board entry in their order in the list
  pub ordered : (e f : Entry) → In e l → In f l → is_nested e.event ≡ true → is_nested f.event ≡ true → e.place ≡ f.place → e.number < f.number →
      (e.board < f.board) ⊎ ((e.board ≡ f.board) × Before e f l)

-- What holds of a list of all entries of all places
pub record Legal (config : Config) (l : List Entry) : Type 0 where
  pub orderly : Orderly config l
  pub open orderly use *
  -- at each place the numbers run from 0
  pub counted : (e : Entry) → In e l → e.number < count_by (λ f. f.place == e.place) l
  -- each entry is the one that the history of its place demands
  pub fits : (e : Entry) → In e l → Fits config l e
  pub timed : (e : Entry) → In e l → IsTimed l e
  -- at a place of its kind
  pub placed : (e : Entry) → In e l → StandsAt config e.place e.event
  -- each relay is of a receipt, and of no other relay's
  pub received : (e : Entry) (x : Relayed) → In e l → e.event ≡ Cell (Relay x) → IsReceived config l e x.packet
  pub once : (e f : Entry) (x y : Relayed) → In e l → In f l → e.event ≡ Cell (Relay x) → f.event ≡ Cell (Relay y) →
      x.packet.holder.pair ≡ y.packet.holder.pair → x.packet.take ≡ y.packet.take → e ≡ f
