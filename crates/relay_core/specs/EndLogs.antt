-- What the ends of ports told when they left their places, by the rows of a list, and what the histories of these places say that they took.
use Rattle.std.specs.Prelude.{◌≡◌, ◌<◌, ℕ, Bool, true, false, ◌&&◌, ◌==◌, List, [], ◌∷◌, ◌++◌, Option, Some, None, filter, if◌then◌else◌}
use Rattle.std.specs.List.{AllZip, list_any}
use Rattle.std.specs.Option.{option_map}
use Rattle.relay_outside.specs.declared.ports.InCall.{InCall}
use Rattle.relay_outside.specs.declared.ports.InCall.TheVariants as into
use Rattle.relay_outside.specs.declared.ports.OutCall.{OutCall}
use Rattle.relay_outside.specs.declared.ports.OutCall.TheVariants as out
use Rattle.relay_outside.specs.declared.settings.Config.{Config}
use Rattle.relay_outside.specs.Ports.{joined}
use Rattle.relay_outside.specs.DeviceLogs.{WhereLogged}
use Rattle.rtp_packet.specs.declared.head.Half.{Half}
use Rattle.rtp_packet.specs.declared.head.Half.TheVariants.{Rtp, Rtcp}
use Rattle.turn_table.specs.declared.machine.Entry as table
use Rattle.turn_table.specs.Histories as table_lists
use Rattle.srtp_sources.specs.Notes.{is_half}
use Rattle.histories.specs.Words.{In, Before}
use Rattle.port_pool.specs.Boxes.{BoxEvent, Take, Close, holder}
use Rattle.port_pool.specs.Takes.{given_of}
use Rattle.port_pool.specs.Ports.{pair_count}
use Rattle.port_pool.specs.declared.holder.Holder.{Holder}
use Rattle.port_pool.specs.Signals.{same_leg}
use Rattle.call_cell.specs.Cells.{CellEvent, CellEntry, Sending, Prepare, Commit, Relay, End, legs, legs_of, takes_away, since_end}
use Rattle.call_cell.specs.Deeds.{found, opposite_of, is_leaving}
use Rattle.relay_core.specs.Entries.{Event, Cell, Box, Entry, is_nested, cell_history, box_history, box_of, front}
use Rattle.relay_core.specs.Records.{LegLeft, Left, Made, list_of}

-- By the rows.

-- the event shuts a box
abbrev pub is_closing : Event → Bool
is_closing (Box Close) = true
is_closing _ = false

-- legs may go from a cell by the event
abbrev pub is_parting : Event → Bool
is_parting (Cell (Prepare call legs keys dropped)) = true
is_parting (Cell (Commit signal)) = true
is_parting (Cell End) = true
is_parting _ = false

abbrev pub in_left : Half → Left → Option (List InCall)
in_left Rtp left = left.rtp
in_left Rtcp left = left.rtcp

abbrev pub out_left : Half → LegLeft → Option (List OutCall)
out_left Rtp leg = leg.rtp
out_left Rtcp leg = leg.rtcp

-- what the out ends of a pair's half told of these legs, joined in their order
abbrev pub legs_logged : List LegLeft → (pair : ℕ) → Half → Option (List OutCall)
legs_logged [] pair half = Some []
legs_logged (leg ∷ legs) pair half = if leg.lease.pair == pair then joined (out_left half leg) (legs_logged legs pair half) else legs_logged legs pair half

module _ {T : Type 0} where
  -- what the in ends of a half of the box at a place told when it was shut, joined in the order of the rows
  abbrev pub ins_logged : List (table.Entry Made T) → (place : ℕ) → Half → Option (List InCall)
  ins_logged [] place half = Some []
  ins_logged (row ∷ rows) place half =
      if is_closing row.event.event && (row.place == place) then joined (in_left half row.event.left) (ins_logged rows place half) else ins_logged rows place half

  -- what the out ends of a pair's half told when their legs went, joined in the order of the rows
  abbrev pub outs_logged : List (table.Entry Made T) → (pair : ℕ) → Half → Option (List OutCall)
  outs_logged [] pair half = Some []
  outs_logged (row ∷ rows) pair half =
      if is_parting row.event.event then joined (legs_logged row.event.left.legs pair half) (outs_logged rows pair half) else outs_logged rows pair half

-- By the histories of the boxes.

-- the call of an end that an event of a box makes: none of that of the other half, and none of a box that is shut
abbrev pub taken_by : Half → BoxEvent → Option InCall
taken_by half (Take other taken) = if is_half half other then option_map (into.Take 2001) (given_of taken) else None
taken_by half _ = None

abbrev pub with_call : {C : Type 0} → List C → Option C → List C
with_call calls None = calls
with_call calls (Some call) = calls ++ call ∷ []

-- the calls of a half's ends, in order
abbrev pub takes_of : Half → List BoxEvent → List InCall
takes_of half [] = []
takes_of half (event ∷ h) = with_call (takes_of half h) (taken_by half event)

-- of the list, by the place of a box
abbrev pub takes_at : List Entry → (place : ℕ) → Half → List InCall
takes_at l place half = takes_of half (box_history l place (front l place))

-- nested entries of one place stand in the order of their numbers
abbrev pub InOrder : List Entry → Type 0
InOrder l = (e f : Entry) → In e l → In f l → is_nested e.event ≡ true → is_nested f.event ≡ true → e.place ≡ f.place → e.number < f.number → Before e f l

module _ {T : Type 0} where
  -- what the in ends of a box told that was shut again at the last is what the list has of their takes
  abbrev pub InsAreTold : Config → List (table.Entry Made T) → Type 0
  InsAreTold config rows =
      (pair : ℕ) (half : Half) → pair < pair_count config → holder (box_history (list_of rows) (box_of config pair) (front (list_of rows) (box_of config pair))) ≡ None
      → WhereLogged (ins_logged rows (box_of config pair) half) (λ calls. calls ≡ takes_at (list_of rows) (box_of config pair) half)

-- By the histories of the cells, of which these are the entries since the last end of a call.

-- the call of the out end of a half that a send makes, with this result
abbrev pub out_call_of : Half → Bool → Option Sending → Option OutCall
out_call_of half ok None = None
out_call_of half ok (Some sending) = if is_half half sending.half then Some (out.Send sending.to sending.bytes ok) else None

-- the call of the out end of a leg's half that an event after those entries makes: that of a relay which leaves by the leg
abbrev pub sent_by : Holder → Half → List CellEntry → CellEvent → Option OutCall
sent_by leg half h (Relay x) = if is_leaving (opposite_of h (found h x.packet)) leg then out_call_of half x.sent_ok x.deed.sending else None
sent_by leg half h _ = None

-- the calls of the out end of a leg's half since the leg was added, in order
abbrev pub sends_since : Holder → Half → List CellEntry → List OutCall
sends_since leg half [] = []
sends_since leg half (e ∷ h) = if list_any (same_leg leg) (legs_of e.event) then [] else with_call (sends_since leg half h) (sent_by leg half h e.event)

-- the legs that go by an event after those entries, in order
abbrev pub legs_going : List CellEntry → CellEvent → List Holder
legs_going h End = legs h
legs_going h event = filter (λ leg. takes_away event leg.section) (legs h)

-- a leg that went, with what its out ends told
pub record HasLogged (h : List CellEntry) (left : LegLeft) (leg : Holder) : Type 0 where
  pub pair : left.lease.pair ≡ leg.pair
  pub generation : left.lease.generation ≡ leg.generation
  pub sends : (half : Half) → WhereLogged (out_left half left) (λ calls. calls ≡ sends_since leg half h)

abbrev pub GoesWith : List CellEntry → Event → List LegLeft → Type 0
GoesWith h (Cell event) left = AllZip (HasLogged h) left (legs_going h event)
GoesWith h _ left = Unit {0}

module _ {T : Type 0} where
  -- the out ends of each leg that went from a cell told what the list has of the sends by them
  abbrev pub OutsAreTold : List (table.Entry Made T) → List Entry → Type 0
  OutsAreTold rows l =
      (row : table.Entry Made T) → table_lists.IsMemberOf row rows → is_parting row.event.event ≡ true
      → GoesWith (since_end (cell_history l row.place row.number)) row.event.event row.event.left.legs
