-- Replays that are alike between two steps, and what one more step is then to have in common.
use Rattle.std.specs.Prelude.{◌≡◌, ℕ, Bool, true, false, List, [], ◌∷◌, ◌++◌, None, map}
use Rattle.relay_outside.specs.declared.settings.Config.{Config}
use Rattle.histories.specs.Words.{In}
use Rattle.ng_reply.specs.declared.code.ErrorCode.TheVariants.{E17}
use Rattle.port_pool.specs.declared.reports.LegReport.{LegReport}
use Rattle.port_pool.specs.Boxes.{holder}
use Rattle.call_cell.specs.Cells.{CellEntry, Read, since_end}
use Rattle.call_cell.specs.Demands.{reports}
use Rattle.call_cell.specs.Good.{FittingCell}
use Rattle.call_board.specs.Acts.{Control, BoardEvent, OutOfMemory, Turn, Tick, Stop, BoardEntry}
use Rattle.call_board.specs.Pairs.{Once}
use Rattle.call_board.specs.Replies.{fault_datagram}
use Rattle.relay_core.specs.Entries.{Entry, Board, Cell, box_of, cell_history, box_history}
use Rattle.relay_core.specs.PlaceHistories.{logged_entry}
use Rattle.relay_core.specs.Turns.{IsAbove}
use Rattle.board_turns.specs.Between.{board_of}
use Rattle.relay_script.specs.EventLines.{Printed, Reply, ReplyFault, printed_line}
use Rattle.relay_script.specs.Steps.{Step}
use Rattle.relay_outside.specs.declared.address.Addr.{Addr}
use Rattle.relay_outside.specs.declared.lines.WriteCall.{WriteCall}
use Rattle.relay_outside.specs.declared.lines.WriteCall.TheVariants.{Write}
use Rattle.replay_devices.specs.declared.script.Ending.{Ending}
use Rattle.replay_steps.specs.declared.ended.Ended.{Ended}
use Rattle.replay_steps.specs.declared.ended.Ended.TheVariants as ended
use Rattle.replay_steps.specs.Steps.{Course, Packet, Stops}
use Rattle.replay_steps.specs.Output.{DidWrite}

-- a datagram's turn without what is recorded of its body and of crypto lines: where nobody read the one, or chose the others, that is
-- anything, and decides nothing
abbrev pub bare_event : BoardEvent → BoardEvent
bare_event (Turn c) = Turn (record c { pairs = None; chosen = [] })
bare_event (Tick calls) = Tick calls
bare_event (Stop calls) = Stop calls

abbrev pub bare : BoardEntry → BoardEntry
bare e = record { moment = e.moment; event = bare_event e.event }

-- The board has the same history, but for what is recorded of bodies and of crypto lines, each cell has the same too, as far as the lists
-- record it, and each box has the same holder. The numbers of their entries may differ
pub record AlikeLists (config : Config) (l k : List Entry) : Type 0 where
  pub board : map bare (board_of l) ≡ map bare (board_of k)
  pub cells : (place m n : ℕ) → IsAbove l place m → IsAbove k place n → cell_history l place m ≡ cell_history k place n
  pub boxes : (pair m n : ℕ) → IsAbove l (box_of config pair) m → IsAbove k (box_of config pair) n
      → holder (box_history l (box_of config pair) m) ≡ holder (box_history k (box_of config pair) n)

-- Two replays between two steps, with lists that are alike: the same packets are held, each under its number, which is no other's; as many
-- numbers were given out, the clock has the same moment, and the same happened
pub record Alike (config : Config) (r s : Course) : Type 0 where
  pub lists : AlikeLists config r.entries s.entries
  pub held : r.held ≡ s.held
  pub once : Once (map (λ (h : ℕ × Packet). h.0) r.held)
  pub received : r.received ≡ s.received
  pub clock : r.clock ≡ s.clock
  pub past : r.past ≡ s.past

-- no turn of the list answers that memory ran out (E17)
abbrev pub NeverOutOfMemory : List Entry → Type 0
NeverOutOfMemory l = (e : Entry) (c : Control) → In e l → e.event ≡ Board (Turn c) → c.act ≡ OutOfMemory → ⊥

-- what is told of a cell's call is what the whole history of the cell demands. Of the relays in it the list records the outcomes
pub record IsReport (config : Config) (l : List Entry) (e : Entry) (all_reports : List LegReport) : Type 0 where
  pub history : List CellEntry
  pub recorded : map logged_entry history ≡ cell_history l e.place e.number
  pub fitting : FittingCell config history
  pub told_is : all_reports ≡ reports config (since_end history)

-- each report of the list is one
abbrev pub TellsReports : Config → List Entry → Type 0
TellsReports config l = (e : Entry) (all_reports : List LegReport) → In e l → e.event ≡ Cell (Read all_reports) → IsReport config l e all_reports

-- a packet that is held, but for the number of its take
abbrev pub but_for_take : ℕ × Packet → ℕ × Packet
but_for_take h = (h.0, (h.1.0, record h.1.1 { take = 0 }))

-- Of two replays that made a step: they printed the same, the clock has the same moment, the same happened, and as many packets were received;
-- the same packets are held under the same numbers
pub record GoesAlike (first second : List Printed) (left right : Course) : Type 0 where
  pub prints : first ≡ second
  pub held : map but_for_take left.held ≡ map but_for_take right.held
  pub received : left.received ≡ right.received
  pub clock : left.clock ≡ right.clock
  pub past : left.past ≡ right.past

-- Texts.

-- a replay ended so, and all that it had to write was written: it finished, the script could not be read further, or a line was at fault
abbrev pub IsWrittenOut : Ended → Type 0
IsWrittenOut ended.Finished = Unit {0}
IsWrittenOut ended.ScriptRead = Unit {0}
IsWrittenOut ended.ScriptFault = Unit {0}
IsWrittenOut ended.PrintFault = ⊥
IsWrittenOut ended.OutOfMemory = ⊥
IsWrittenOut ended.DeviceFault = ⊥

-- This is written by a replay of these steps, with this ending of the reading and this end of its own, as the contract of a replay says it;
-- and no turn ran out of memory
pub record WritesOut (config : Config) (seed : ℕ) (steps : List Step) (how : Ending) (end : Ended) (writes : List WriteCall) : Type 0 where
  pub entries : List Entry
  pub wrote : DidWrite config seed steps how end entries writes
  pub stopped : Stops config entries
  pub fed : NeverOutOfMemory entries

-- the line of this event was written, or its write failed
abbrev pub HasLine : Printed → List WriteCall → Type 0
HasLine event writes = (done : Bool) × In (Write (printed_line event ++ 10 ∷ []) done) writes

-- No reply is E17, want of memory, as far as the text shows, and it shows each: no line is that of a reply with this error, or of one that could
-- not be sent
pub record NoReplyIsE17 (writes : List WriteCall) : Type 0 where
  pub none_says_so : (to : Addr) (cookie body : List ℕ) → HasLine (Reply to (fault_datagram cookie body E17)) writes → ⊥
  pub each_is_shown : HasLine ReplyFault writes → ⊥

-- both ended the same way, and wrote the same
pub record SaysTheSame (one other : Ended) (first second : List WriteCall) : Type 0 where
  pub end : one ≡ other
  pub writes : first ≡ second

-- the first text broke off in a line of the other: up to there they are the same, and the write of this line failed
pub record BreaksOff (first second : List WriteCall) : Type 0 where
  pub front : List WriteCall
  pub line : List ℕ
  pub rest : List WriteCall
  pub first_is : first ≡ front ++ Write line false ∷ []
  pub second_is : second ≡ front ++ Write line true ∷ rest
