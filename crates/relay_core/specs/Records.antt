-- What the table of places records of a step, and the lists of entries that hands make.
use Rattle.std.specs.Prelude.{ℕ, ◌||◌, max, List, [], Option, Some, None, map, if◌then◌else◌}
use Rattle.relay_outside.specs.declared.ports.InCall.{InCall}
use Rattle.relay_outside.specs.declared.ports.OutCall.{OutCall}
use Rattle.turn_table.specs.declared.machine.Entry as table
use Rattle.port_pool.specs.declared.pairs.Lease.{Lease}
use Rattle.call_cell.specs.declared.outcome.Outcome.{Outcome}
use Rattle.call_cell.specs.Cells.{CellEvent, Relay, Receipt, Relayed, Deed}
use Rattle.call_cell.specs.LegHistories.{sent_ok}
use Rattle.call_board.specs.Shapes.{BoardShape}
use Rattle.relay_core.specs.Entries.{Event, Cell, Entry}
use Rattle.relay_core.specs.Legal.{is_handed_own, is_handed_boards}

-- A leg that goes from a cell: its lease, and what its out ends tell, that for RTP and that for RTCP
pub record LegLeft : Type 0 where
  pub lease : Lease
  pub rtp : Option (List OutCall)
  pub rtcp : Option (List OutCall)

-- What leaves a place by a step, by what its ends tell: the in ends of a box that is shut, that for RTP and that for RTCP, and the legs that
-- go from a cell, in lease order
pub record Left : Type 0 where
  pub rtp : Option (List InCall)
  pub rtcp : Option (List InCall)
  pub legs : List LegLeft

abbrev pub nothing_left : Left
nothing_left = record { rtp = Some []; rtcp = Some []; legs = [] }

-- A step as the table records it: the moment that it was handed, its moment, the number of the board entry that it belongs to, of a
-- step of the board the pairs of the legs that it closes, in order, whose order its state does not tell, its event, what leaves its
-- place, and of a step of the board what the board keeps after it. Of a relay the outcome is recorded: what its packet was, and what it noted, protected and sent, follows from the history of its cell.
pub record Made : Type 0 where
  pub handed : ℕ
  pub moment : ℕ
  pub board : ℕ
  pub returned : List ℕ
  pub event : Event
  pub left : Left
  pub kept : Option BoardShape

-- a relay by its packet and its outcome; nothing else of what it did is recorded
abbrev pub logged_deed : Receipt → Outcome → Deed
logged_deed p outcome = record { outcome = outcome; kind = p.half; noted = None; shield = None; sending = None }

abbrev pub logged_relay : Receipt → Outcome → Relayed
logged_relay p outcome = record { packet = p; sent_ok = sent_ok outcome; deed = logged_deed p outcome }

-- what is recorded of a cell's event
abbrev pub logged_cell : CellEvent → CellEvent
logged_cell (Relay x) = Relay (logged_relay x.packet x.deed.outcome)
logged_cell event = event

-- what is recorded of an event
abbrev pub logged_event : Event → Event
logged_event (Cell c) = Cell (logged_cell c)
logged_event event = event

abbrev pub as_logged : Entry → Entry
as_logged e = record { place = e.place; number = e.number; moment = e.moment; board = e.board; event = logged_event e.event }

-- the moment of an event that was handed this moment, where the last one of its place was that
abbrev pub moment_of : Event → ℕ → ℕ → ℕ
moment_of event handed last = if is_handed_own event || is_handed_boards event then max handed last else last

module _ {T : Type 0} where
  -- a row of the table as an entry
  abbrev pub entry_of : table.Entry Made T → Entry
  entry_of row = record { place = row.place; number = row.number; moment = row.event.moment; board = row.event.board; event = row.event.event }

  -- the entries of a hand
  abbrev pub list_of : List (table.Entry Made T) → List Entry
  list_of rows = map entry_of rows
