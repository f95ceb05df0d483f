-- Which steps of the board, the cells and the boxes their events are: what their calls say for every history that the old state stands
-- for, of the board for every one by which the step closes the legs of the pairs that it records.
use Rattle.std.specs.Prelude.{◌≡◌, ℕ, Bool, true, List, [], ◌∷◌, Option, Some, None, map, filter_map}
use Rattle.relay_outside.specs.declared.ports.InCall.{InCall}
use Rattle.relay_outside.specs.declared.ports.OutCall.{OutCall}
use Rattle.relay_outside.specs.declared.address.Addr.{Addr}
use Rattle.relay_outside.specs.declared.settings.Config.{Config}
use Rattle.rtp_packet.specs.declared.head.Half.TheVariants.{Rtp, Rtcp}
use Rattle.relay_outside.specs.DeviceLogs.{EndLog, IsOpenedFor}
use Rattle.histories.specs.Words.{In, has}
use Rattle.port_pool.specs.declared.pairs.Lease.{Lease}
use Rattle.port_pool.specs.declared.holder.Holder.{Holder}
use Rattle.port_pool.specs.declared.boxes.PairBox.{PairBox}
use Rattle.port_pool.specs.declared.signal.SectionSignal.{SectionSignal}
use Rattle.port_pool.specs.declared.reports.LegReport.{LegReport}
use Rattle.port_pool.specs.Signals.{NewKey, is_rejected}
use Rattle.port_pool.specs.Boxes.{BoxEvent, Open, Take, Close, FitsBox}
use Rattle.port_pool.specs.PairBoxes.{BoxFor, ends_in, at_of, cells_of}
use Rattle.port_pool.specs.Ports.{port_address, rtcp_address}
use Rattle.port_pool.specs.Takes.{EndsTaken}
use Rattle.call_cell.specs.declared.leg.Leg.{Leg}
use Rattle.call_cell.specs.declared.prepare.Prepare as prepared
use Rattle.call_cell.specs.declared.cell.Cell as cell
use Rattle.call_cell.specs.Cells.{CellEvent, CellEntry, Prepare, Commit, Relay, Expire, Read, End, Receipt, Relayed, since_end, key_numbered}
use Rattle.call_cell.specs.CellHistories.{CellFor, CellRelays}
use Rattle.call_cell.specs.CellHistories as cells
use Rattle.call_cell.specs.Preparations.{CellPrepares, added}
use Rattle.call_cell.specs.Commits.{CellCommits}
use Rattle.call_cell.specs.Expiries.{CellExpires}
use Rattle.call_cell.specs.LegReports.{CellReads}
use Rattle.call_cell.specs.CellEnds.{CellEnds, parts_of}
use Rattle.call_cell.specs.Shapes.{IsSmall, LegsGo, FormsStay, KeepsPorts, CountsRoseByOne, cell_shape, cell_leg_shapes}
use Rattle.call_board.specs.declared.board.Board as board
use Rattle.call_board.specs.Acts.{BoardEvent, BoardEntry}
use Rattle.call_board.specs.Boards.{BoardFor}
use Rattle.call_board.specs.Views.{board_last_moment}
use Rattle.call_board.specs.Fits.{FitsBoard, IsFitting}
use Rattle.call_board.specs.Futures.{closed_pairs}
use Rattle.call_board.specs.Shapes.{board_shape}
use Rattle.call_shapes.specs.Events.{shape_after_event}
use Rattle.relay_core.specs.declared.part.Part.{Part}
use Rattle.relay_core.specs.declared.part.Part.TheVariants as part
use Rattle.relay_core.specs.Entries.{Event, Board, Cell, Box, is_nested_cell, is_nested_box}
use Rattle.relay_core.specs.Records.{LegLeft, Left, Made, logged_relay, moment_of}

-- The board.

abbrev pub board_made : Made → BoardEvent → BoardEntry
board_made made event = record { moment = made.moment; event = event }

-- the entry is the one that the history demands, and the new board stands for the history with it
pub record BoardStep (config : Config) (h : List BoardEntry) (made : Made) (event : BoardEvent) (new : board.Board) : Type 0 where
  pub moment_is : made.moment ≡ moment_of (Board event) made.handed (board_last_moment h)
  pub fits : FitsBoard config h (board_made made event)
  pub stands : BoardFor config new (board_made made event ∷ h)

-- what the board keeps then is recorded; and the step is one for each history that the old board stands for, and after which the entry
-- closes the legs of the recorded pairs in the recorded order
pub record BoardStepped (old : board.Board) (made : Made) (event : BoardEvent) (new : board.Board) : Type 0 where
  pub kept : made.kept ≡ Some (board_shape new)
  pub steps : (h : List BoardEntry) → IsFitting old.config h → BoardFor old.config old h → closed_pairs h (board_made made event) ≡ made.returned
      → BoardStep old.config h made event new

abbrev pub BoardSteps : board.Board → Made → Event → board.Board → Type 0
BoardSteps old made (Board event) new = BoardStepped old made event new
BoardSteps old made (Cell event) new = ⊥
BoardSteps old made (Box event) new = ⊥

-- A box.

-- the box has these ends now, which were opened for the pair whose port for RTP has this address, and not called since
pub record GetsEnds {I : Type 0} (log : I → EndLog InCall) (at : Addr) (new : Option (I × I)) : Type 0 where
  pub rtp : I
  pub rtcp : I
  pub are_in : new ≡ Some (rtp, rtcp)
  pub rtp_is_new : IsOpenedFor at (log rtp)
  pub rtcp_is_new : IsOpenedFor (rtcp_address at) (log rtcp)

-- what leaves are these ends; from a box that is shut there is none
abbrev pub LeavesEnds : {I : Type 0} → (I → EndLog InCall) → Option (I × I) → Left → Type 0
LeavesEnds log None left = (left.rtp ≡ Some []) × (left.rtcp ≡ Some [])
LeavesEnds log (Some ends) left = (left.rtp ≡ (log ends.0).calls) × (left.rtcp ≡ (log ends.1).calls)

-- what an event does to the ends of a box of the pair whose port for RTP has this address
abbrev pub BoxEnds : {I : Type 0} → (I → EndLog InCall) → (I → ℕ) → Addr → BoxEvent → Left → Option (I × I) → Option (I × I) → Type 0
BoxEnds log faults at (Open leg) left old new = (old ≡ None) × GetsEnds log at new
BoxEnds log faults at (Take half taken) left old new = EndsTaken log faults half old new taken
BoxEnds log faults at Close left old new = (new ≡ None) × LeavesEnds log old left

pub record BoxStep {I : Type 0} (log : I → EndLog InCall) (faults : I → ℕ) (old : PairBox I) (made : Made) (event : BoxEvent) (new : PairBox I) : Type 0 where
  pub moment_is : made.moment ≡ 0
  pub cells_are : cells_of new ≡ cells_of old
  pub at_is : at_of new ≡ at_of old
  pub ends : BoxEnds log faults (at_of old) event made.left (ends_in old) (ends_in new)
  pub stands : (h : List BoxEvent) → BoxFor old h → FitsBox h event × BoxFor new (event ∷ h)

abbrev pub BoxSteps : {I : Type 0} → (I → EndLog InCall) → (I → ℕ) → PairBox I → Made → Event → PairBox I → Type 0
BoxSteps log faults old made (Box event) new = BoxStep log faults old made event new
BoxSteps log faults old made (Cell event) new = ⊥
BoxSteps log faults old made (Board event) new = ⊥

-- A cell.

-- no key that the entries since the last End brought has the number of one of these
abbrev pub AreNew : List CellEntry → List NewKey → Type 0
AreNew h keys = (key : NewKey) → In key keys → key_numbered (since_end h) key.number ≡ None

-- the moment that is recorded is that of the entry
abbrev pub HasMoment : Made → CellEvent → List CellEntry → Type 0
HasMoment made event h = made.moment ≡ moment_of (Cell event) made.handed (cells.cell_last_moment h)

-- a receipt whose take has that number
abbrev pub with_take : ℕ → Receipt → Receipt
with_take take p = record { take = take; half = p.half; source = p.source; bytes = p.bytes; holder = p.holder }

-- What a step makes of the cell's shape, and of its legs' out ends and counts, is said of each cell, of some steps where the cell is
-- small, and that its legs stay and go whole of each cell (`forms`); all else for every history that the cell stands for.

-- a relay of this packet with this outcome, whichever number its take has, and whatever the buffer holds after it
pub record CellRelayed {O : Type 0} (log : O → EndLog OutCall) (faults : O → ℕ) (old : cell.Cell O) (made : Made) (x : Relayed) (new : cell.Cell O) : Type 0 where
  pub is_told : x ≡ logged_relay x.packet x.deed.outcome
  pub shape : cell_shape new ≡ cell_shape old
  pub counts : CountsRoseByOne old.legs.items new.legs.items
  pub legs : KeepsPorts log old.legs.items new.legs.items
  pub buffer : List ℕ
  pub steps : (config : Config) (h : List CellEntry) (take : ℕ) → CellFor config old h
      → HasMoment made (Relay x) h × CellRelays log faults config old new h (with_take take x.packet) made.handed buffer x.deed.outcome

-- legs that go, by what their out ends tell
abbrev pub legs_left : {O : Type 0} → (O → EndLog OutCall) → List (Lease × O × O) → List LegLeft
legs_left log gone = map (λ leg. record { lease = leg.0; rtp = (log leg.1).calls; rtcp = (log leg.2).calls }) gone

-- the leg has its out ends, which were opened for the ports of its pair, and not called since
pub record IsOpened {O : Type 0} (log : O → EndLog OutCall) (config : Config) (leg : Leg O) : Type 0 where
  pub ends : O × O
  pub ends_are : leg.sending.ends ≡ Some ends
  pub rtp : IsOpenedFor (port_address config leg.holder.pair Rtp) (log ends.0)
  pub rtcp : IsOpenedFor (port_address config leg.holder.pair Rtcp) (log ends.1)

-- the same of all that an offer adds
abbrev pub AreOpened : {O : Type 0} → (O → EndLog OutCall) → Config → prepared.Prepare O → Type 0
AreOpened {O} log config signal = (leg : Leg O) → In leg signal.legs.items → IsOpened log config leg

pub record CellPrepared {O : Type 0} (log : O → EndLog OutCall) (old : cell.Cell O) (made : Made) (call : ℕ) (legs : List Holder) (keys : List NewKey) (dropped : List ℕ) (new : cell.Cell O) : Type 0 where
  pub signal : prepared.Prepare O
  pub legs_are : added signal ≡ legs
  pub shape : cell_shape new ≡ shape_after_event (Prepare call legs keys dropped) (cell_shape old)
  pub opened : AreOpened log old.config signal
  pub gone : List (Lease × O × O)
  pub left_are : made.left.legs ≡ legs_left log gone
  pub moves : IsSmall (cell_leg_shapes old.legs.items) → LegsGo (λ leg. has dropped leg.section) signal.legs.items old.legs.items new.legs.items gone
  pub steps : (config : Config) (h : List CellEntry) → CellFor config old h → AreNew h keys
      → HasMoment made (Prepare call legs keys dropped) h × CellPrepares config old new h signal call keys dropped made.handed gone
  pub forms : FormsStay signal.legs.items old.legs.items new.legs.items gone

pub record CellCommitted {O : Type 0} (log : O → EndLog OutCall) (old : cell.Cell O) (made : Made) (signal : List SectionSignal) (new : cell.Cell O) : Type 0 where
  pub shape : cell_shape new ≡ shape_after_event (Commit signal) (cell_shape old)
  pub gone : List (Lease × O × O)
  pub left_are : made.left.legs ≡ legs_left log gone
  pub moves : IsSmall (cell_leg_shapes old.legs.items) → LegsGo (λ leg. is_rejected signal leg.section) [] old.legs.items new.legs.items gone
  pub steps : (config : Config) (h : List CellEntry) → CellFor config old h
      → HasMoment made (Commit signal) h × CellCommits config old new h signal made.handed gone
  pub forms : FormsStay [] old.legs.items new.legs.items gone

pub record CellEnded {O : Type 0} (log : O → EndLog OutCall) (old : cell.Cell O) (made : Made) (new : cell.Cell O) : Type 0 where
  pub shape : cell_shape new ≡ shape_after_event End (cell_shape old)
  pub gone : List (Lease × O × O)
  pub left_are : made.left.legs ≡ legs_left log gone
  pub none : IsSmall (cell_leg_shapes old.legs.items) → new.legs.items ≡ []
  pub went : IsSmall (cell_leg_shapes old.legs.items) → gone ≡ filter_map (λ (leg : Leg O). parts_of leg) old.legs.items
  pub steps : (config : Config) (h : List CellEntry) → CellFor config old h → HasMoment made End h × CellEnds config old new h gone
  pub forms : FormsStay [] old.legs.items new.legs.items gone

-- the cell was asked whether its call is due
pub record CellAsked {O : Type 0} (old : cell.Cell O) (made : Made) (due : Bool) (new : cell.Cell O) : Type 0 where
  pub shape : cell_shape new ≡ cell_shape old
  pub legs : new.legs ≡ old.legs
  pub steps : (config : Config) (h : List CellEntry) → CellFor config old h → HasMoment made (Expire due) h × CellExpires config old new h made.handed due

-- the cell told of its legs, and nothing changed
pub record CellRead {O : Type 0} (old : cell.Cell O) (made : Made) (all_reports : List LegReport) (new : cell.Cell O) : Type 0 where
  pub same : new ≡ old
  pub steps : (config : Config) (h : List CellEntry) → CellFor config old h → HasMoment made (Read all_reports) h × CellReads config old h all_reports

abbrev pub CellStepsBy : {O : Type 0} → (O → EndLog OutCall) → (O → ℕ) → cell.Cell O → Made → CellEvent → cell.Cell O → Type 0
CellStepsBy log faults old made (Prepare call legs keys dropped) new = CellPrepared log old made call legs keys dropped new
CellStepsBy log faults old made (Commit signal) new = CellCommitted log old made signal new
CellStepsBy log faults old made (Relay x) new = CellRelayed log faults old made x new
CellStepsBy log faults old made (Expire due) new = CellAsked old made due new
CellStepsBy log faults old made (Read reports) new = CellRead old made reports new
CellStepsBy log faults old made End new = CellEnded log old made new

abbrev pub CellSteps : {O : Type 0} → (O → EndLog OutCall) → (O → ℕ) → cell.Cell O → Made → Event → cell.Cell O → Type 0
CellSteps log faults old made (Cell event) new = CellStepsBy log faults old made event new
CellSteps log faults old made (Board event) new = ⊥
CellSteps log faults old made (Box event) new = ⊥

-- Any place: a board stays a board, a cell a cell, and a box a box.
module _ {I O : Type 0} (in_told : I → EndLog InCall) (in_faults : I → ℕ) (out_told : O → EndLog OutCall) (out_faults : O → ℕ) where
  abbrev pub Relates : Part I O → Made → Part I O → Type 0
  Relates (part.Board old) made (part.Board new) = BoardSteps old made made.event new
  Relates (part.Cell old) made (part.Cell new) = CellSteps out_told out_faults old made made.event new
  Relates (part.Pair old) made (part.Pair new) = BoxSteps in_told in_faults old made made.event new
  Relates _ made _ = ⊥

-- takes and relays are made by any hand, all other steps by the main hand
abbrev pub is_reserved : Event → Bool
is_reserved (Board event) = true
is_reserved (Cell event) = is_nested_cell event
is_reserved (Box event) = is_nested_box event

abbrev pub IsReserved : Made → Type 0
IsReserved made = is_reserved made.event ≡ true
