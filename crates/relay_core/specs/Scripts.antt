-- The nested entries that an entry of the board owes, in order.
use Rattle.std.specs.Prelude.{ℕ, Bool, List, [], ◌∷◌, ◌++◌, map, Option, Some, None, Result, Ok, if◌then◌else◌}
use Rattle.std.specs.List.{flat_map}
use Rattle.relay_outside.specs.declared.settings.Config.{Config}
use Rattle.ng_command.specs.Meanings.{Said, Query}
use Rattle.ng_reply.specs.declared.code.ErrorCode.{ErrorCode}
use Rattle.histories.specs.Words.{has}
use Rattle.port_pool.specs.declared.holder.Holder.{Holder}
use Rattle.port_pool.specs.declared.reports.LegReport.{LegReport}
use Rattle.port_pool.specs.Boxes.{Open, Close}
use Rattle.call_cell.specs.Cells.{CellEvent, Prepare, Commit, Expire, Read, End}
use Rattle.call_board.specs.Acts as act
use Rattle.call_board.specs.Acts.{Call, Act, Control, BoardEvent, Turn, Tick, Stop, BoardEntry}
use Rattle.call_board.specs.Calls.{live, find_call, is_due_at}
use Rattle.call_board.specs.Pairs.{closed_of}
use Rattle.call_board.specs.Requests.{asked}
use Rattle.relay_core.specs.Entries.{Event, Cell, Box, Entry, box_of}

-- an event that is owed at a place
pub record Owed : Type 0 where
  pub place : ℕ
  pub event : Event

abbrev pub owed_by : Entry → Owed
owed_by e = record { place = e.place; event = e.event }

abbrev pub open_owed : Config → Holder → Owed
open_owed config leg = record { place = box_of config leg.pair; event = Box (Open leg) }

abbrev pub closing : Config → Holder → Owed
closing config leg = record { place = box_of config leg.pair; event = Box Close }

abbrev pub in_cell : Call → CellEvent → Owed
in_cell c event = record { place = c.cell; event = Cell event }

-- the closes that the entry owes for one call
abbrev pub closings : Config → List BoardEntry → BoardEntry → Call → List Owed
closings config h e c = map (closing config) (closed_of h e c)

-- the end of a call and its closes
abbrev pub ending : Config → List BoardEntry → BoardEntry → Call → List Owed
ending config h e c = in_cell c End ∷ closings config h e c

-- a call that is asked whether it has timed out, and ends where it has
abbrev pub asking : Config → List BoardEntry → BoardEntry → Call → (timed_out : Bool) → List Owed
asking config h e c timed_out = in_cell c (Expire timed_out) ∷ (if timed_out then ending config h e c else [])

-- a tick ends each call that is ending and due, and asks the others; those that end are among these
abbrev pub expiring : Config → List BoardEntry → BoardEntry → List Call → Call → List Owed
expiring config h e calls c =
    if is_due_at h c.number e.moment then ending config h e c else asking config h e c (has (map (λ d. d.number) calls) c.number)

abbrev pub reading : Option Call → Option (List LegReport) → List Owed
reading None report = []
reading (Some c) None = []
reading (Some c) (Some report) = in_cell c (Read report) ∷ []

-- a query that ran out of memory may have read its call
abbrev pub reading_out_of_memory : List BoardEntry → Control → Result Said ErrorCode → List Owed
reading_out_of_memory h c (Ok (Query id)) = reading (find_call h id) c.given.report
reading_out_of_memory h c _ = []

abbrev pub script_of_act : Config → List BoardEntry → BoardEntry → Control → Act → List Owed
script_of_act config h e c act.Repeated = []
script_of_act config h e c act.OutOfMemory = reading_out_of_memory h c (asked config c.too_long c.pairs)
script_of_act config h e c (act.Failed code) = []
script_of_act config h e c (act.Undone code leases draws) = []
script_of_act config h e c (act.Offered o) =
    map (open_owed config) o.legs ++ in_cell o.of (Prepare o.of.number o.legs o.keys o.dropped) ∷ closings config h e o.of
script_of_act config h e c (act.Answered a) = in_cell a.of (Commit a.signal) ∷ closings config h e a.of
script_of_act config h e c (act.Deleted of) = ending config h e of
script_of_act config h e c (act.Queried of) = reading (Some of) c.given.report
script_of_act config h e c (act.Delayed of seconds) = []
script_of_act config h e c act.Told = []

abbrev pub script_of : Config → List BoardEntry → BoardEntry → BoardEvent → List Owed
script_of config h e (Turn c) = script_of_act config h e c c.act
script_of config h e (Tick calls) = flat_map (expiring config h e calls) (live h)
script_of config h e (Stop calls) = flat_map (ending config h e) calls

-- the nested entries that a board entry owes after that history, in order
abbrev pub script : Config → List BoardEntry → BoardEntry → List Owed
script config h e = script_of config h e e.event
