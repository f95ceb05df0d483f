-- For which history of its place a state stands.
use Rattle.std.specs.Prelude.{◌≡◌, ℕ, List, [], ◌∷◌, map, filter, filter_map, Option, Some, None}
use Rattle.relay_outside.specs.declared.address.Addr.{Addr}
use Rattle.relay_outside.specs.declared.ports.InCall.{InCall}
use Rattle.relay_outside.specs.declared.ports.OutCall.{OutCall}
use Rattle.relay_outside.specs.declared.settings.Config.{Config}
use Rattle.relay_outside.specs.DeviceLogs.{EndLog}
use Rattle.rtp_packet.specs.declared.head.Half.TheVariants.{Rtp}
use Rattle.histories.specs.Words.{In}
use Rattle.call_cell.specs.declared.leg.Leg.{Leg}
use Rattle.port_pool.specs.Boxes.{BoxEvent, FitsBox}
use Rattle.port_pool.specs.PairBoxes.{BoxFor, at_of, cells_of, ends_in, holder_in}
use Rattle.port_pool.specs.Ports.{AreOfPair, port_address}
use Rattle.port_pool.specs.declared.pairs.Lease.{Lease}
use Rattle.call_cell.specs.declared.cell.Cell as cell
use Rattle.port_pool.specs.declared.holder.Holder.{Holder}
use Rattle.call_cell.specs.Cells.{CellEntry}
pub use Rattle.call_cell.specs.Numbers.{BringsNewKeys}
use Rattle.call_cell.specs.Good.{FittingCell}
use Rattle.call_cell.specs.CellHistories.{CellFor}
use Rattle.call_board.specs.Acts.{BoardEntry}
use Rattle.call_board.specs.Boards.{BoardFor}
use Rattle.call_board.specs.Fits.{IsFitting}
use Rattle.relay_core.specs.declared.part.Part.{Part}
use Rattle.relay_core.specs.declared.part.Part.TheVariants as part
use Rattle.relay_core.specs.Entries.{Entry, is_nested_cell, board_entry, cell_entry, box_event}
use Rattle.relay_core.specs.Records.{logged_cell}

abbrev pub logged_entry : CellEntry → CellEntry
logged_entry e = record { moment = e.moment; event = logged_cell e.event }

-- each event of a box's history is one that those before it allow
abbrev pub FittingBox : List BoxEvent → Type 0
FittingBox [] = Unit {0}
FittingBox (e ∷ h) = FitsBox h e × FittingBox h

-- A cell stands for a history that is recorded so, and whose each entry is one that those before it demand
pub record CellStands {O : Type 0} (config : Config) (cell : cell.Cell O) (recorded : List CellEntry) : Type 0 where
  pub history : List CellEntry
  pub is_recorded : map logged_entry history ≡ recorded
  pub fitting : FittingCell config history
  pub stands : CellFor config cell history

module _ {I O : Type 0} where
  -- the state stands for what is recorded of its place, the latest first
  abbrev pub Stands : Config → Part I O → List Entry → Type 0
  Stands config (part.Board board) h = IsFitting config (filter_map board_entry h) × BoardFor config board (filter_map board_entry h)
  Stands config (part.Cell cell) h = CellStands config cell (filter_map cell_entry h)
  Stands config (part.Pair box) h = FittingBox (filter_map box_event h) × BoxFor box (filter_map box_event h)

  -- the kinds of places
  abbrev pub IsBoardPart : Part I O → Type 0
  IsBoardPart (part.Board board) = Unit {0}
  IsBoardPart _ = ⊥

  abbrev pub IsCellPart : Part I O → Type 0
  IsCellPart (part.Cell cell) = Unit {0}
  IsCellPart _ = ⊥

  -- a box of a table with `cells` cells
  abbrev pub IsBoxPart : ℕ → Part I O → Type 0
  IsBoxPart cells (part.Pair box) = cells_of box ≡ cells
  IsBoxPart cells _ = ⊥

-- the ends of a box or of a leg, where there are some, were opened for its ports
abbrev pub AreHome : {E C : Type 0} → (E → EndLog C) → Addr → Option (E × E) → Type 0
AreHome log at None = Unit {0}
AreHome log at (Some ends) = AreOfPair log at ends.0 ends.1

-- the out ends of each of these legs were opened for the ports of the leg's pair
abbrev pub LegsHome : {O : Type 0} → (O → EndLog OutCall) → Config → List (Leg O) → Type 0
LegsHome {O} log config those = (leg : Leg O) → In leg those → AreHome log (port_address config leg.holder.pair Rtp) leg.sending.ends

-- the same of legs that went from a cell, by their leases
abbrev pub GoneHome : {O : Type 0} → (O → EndLog OutCall) → Config → List (Lease × O × O) → Type 0
GoneHome {O} log config gone = (leg : Lease × O × O) → In leg gone → AreOfPair log (port_address config leg.0.pair Rtp) leg.1 leg.2

module _ {I O : Type 0} where
  -- the state is the box of a pair, and its ends were opened for the pair's ports
  abbrev pub BoxHome : (I → EndLog InCall) → Config → (pair : ℕ) → Part I O → Type 0
  BoxHome log config pair (part.Pair box) = (at_of box ≡ port_address config pair Rtp) × AreHome log (at_of box) (ends_in box)
  BoxHome log config pair _ = ⊥

  -- the state is a cell, and its legs have the out ends that were opened for their pairs
  abbrev pub CellHome : (O → EndLog OutCall) → Config → Part I O → Type 0
  CellHome log config (part.Cell cell) = LegsHome log config cell.legs.items
  CellHome log config _ = ⊥

-- the entries of a cell but for relays
abbrev pub nested_of : List CellEntry → List CellEntry
nested_of h = filter (λ e. is_nested_cell e.event) h

module _ {I O : Type 0} where
  -- the state is a board that stands for this history
  abbrev pub BoardIs : Config → Part I O → List BoardEntry → Type 0
  BoardIs config (part.Board board) h = IsFitting config h × BoardFor config board h
  BoardIs config _ h = ⊥

  -- the state is a box with this holder, of a table with `cells` cells
  abbrev pub BoxIs : ℕ → Part I O → Option Holder → Type 0
  BoxIs cells (part.Pair box) held = (holder_in box ≡ held) × (cells_of box ≡ cells)
  BoxIs cells _ held = ⊥

  -- the state is a cell that stands for a history whose nested entries these are
  abbrev pub CellIs : Config → Part I O → List CellEntry → Type 0
  CellIs config (part.Cell cell) nested = (h : List CellEntry) × (nested_of h ≡ nested) × CellFor config cell h
  CellIs config _ nested = ⊥
