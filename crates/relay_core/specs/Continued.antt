-- Lists that go on from another's: a node that read what another one had left makes its list after that one's.
use Rattle.std.specs.Prelude.{◌≡◌, ◌≤◌, ◌+◌, ℕ, List, ◌++◌, length, map, filter_map, Some, slice_get}
use Rattle.relay_outside.specs.declared.settings.Config.{Config}
use Rattle.relay_outside.specs.Settings.{AreFamilies}
use Rattle.turn_table.specs.declared.machine.Entry as table
use Rattle.histories.specs.Words.{In}
use Rattle.port_pool.specs.Ports.{pair_count}
use Rattle.port_pool.specs.PairBoxes.{BoxFor, cells_of}
use Rattle.call_cell.specs.Cells.{CellEvent, Relay, Relayed}
use Rattle.call_cell.specs.CellHistories.{CellFor}
use Rattle.call_board.specs.Boards.{BoardFor}
use Rattle.relay_core.specs.declared.part.Part.{Part}
use Rattle.relay_core.specs.declared.part.Part.TheVariants as part
use Rattle.relay_core.specs.Entries.{Event, Cell, Entry, board_entry, cell_entry, box_event, history, front, box_of}
use Rattle.relay_core.specs.Legal.{Orderly, Legal}
use Rattle.relay_core.specs.Records.{Made, list_of}
use Rattle.relay_core.specs.Steps.{with_take}
use Rattle.relay_core.specs.ReturnedPairs.{AreReturned}
use Rattle.relay_core.specs.NestedMoments.{IsHanded}
use Rattle.relay_core.specs.Turns.{Numbered, IsReceiving}
use Rattle.relay_core.specs.Joins.{IsAtPlace, TakesOwnPairs}

-- The numbers of a list's entries count on from those of an earlier list, place by place.

-- a relay of a take that stands after all that the earlier list has of its box
abbrev pub later_relayed : Config → List Entry → Relayed → Relayed
later_relayed config before x =
    record { packet = with_take (x.packet.take + front before (box_of config x.packet.holder.pair)) x.packet; sent_ok = x.sent_ok; deed = x.deed }

abbrev pub later_in_cell : Config → List Entry → CellEvent → CellEvent
later_in_cell config before (Relay x) = Relay (later_relayed config before x)
later_in_cell config before event = event

abbrev pub later_event : Config → List Entry → Event → Event
later_event config before (Cell c) = Cell (later_in_cell config before c)
later_event config before event = event

-- the entry after all that the earlier list has of its place, and nested in an entry after all that it has of the board
abbrev pub later : Config → List Entry → Entry → Entry
later config before e = record {
  place = e.place;
  number = e.number + front before e.place;
  moment = e.moment;
  board = e.board + front before 0;
  event = later_event config before e.event;
}

-- the earlier list, and after it this one
abbrev pub continued : Config → (before : List Entry) → List Entry → List Entry
continued config before l = before ++ map (later config before) l

-- each relay of the later list is of a take that stands after all that the earlier list has of its box, and so of none of those
abbrev pub TakesLater : Config → (before : List Entry) → List Entry → Type 0
TakesLater config before l =
    (e : Entry) (x : Relayed) → In e (map (later config before) l) → e.event ≡ Cell (Relay x) → front before (box_of config x.packet.holder.pair) ≤ x.packet.take

-- What a list leaves.

module _ {I O : Type 0} where
  -- the state is what this history of its place leaves
  abbrev pub IsLeftAt : Config → Part I O → List Entry → Type 0
  IsLeftAt config (part.Board board) h = BoardFor config board (filter_map board_entry h)
  IsLeftAt config (part.Cell cell) h = CellFor config cell (filter_map cell_entry h)
  IsLeftAt config (part.Pair box) h = BoxFor box (filter_map box_event h) × (cells_of box ≡ config.max_sessions)

  -- The list is legal, each interface has an address of its family, and the places hold what the list leaves there
  pub record AreLeftBy (config : Config) (before : List Entry) (parts : List (Part I O)) : Type 0 where
    pub legal : Legal config before
    pub families : AreFamilies config
    pub count_is : length parts ≡ config.max_sessions + 1 + pair_count config
    pub are_left : (k : ℕ) (x : Part I O) → slice_get parts k ≡ Some x → IsAtPlace config k x × IsLeftAt config x (history before k (front before k))

module _ {T : Type 0} where
  -- What is known of the rows of the main hand, followed by those of lanes, where the places began with what that list had left: together
  -- with it they are orderly
  pub record IsSoundAfter (config : Config) (before : List Entry) (rows : List (table.Entry Made T)) : Type 0 where
    pub orderly : Numbered (list_of rows) → Orderly config (continued config before (list_of rows))
    pub handed : Numbered (list_of rows) → IsHanded rows
    pub returned : Numbered (list_of rows) → AreReturned config rows
    pub receiving : Numbered (list_of rows) → TakesOwnPairs config (list_of rows) → IsReceiving config (list_of rows)
