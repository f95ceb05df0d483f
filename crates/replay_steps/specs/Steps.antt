-- What each step of a script does to a relay, by the list of its entries, and what it prints.
use Rattle.std.specs.Prelude.{◌≡◌, ◌⊎◌, ◌+◌, ◌<◌, ◌≤◌, ℕ, Bool, true, false, not, ◌==◌, List, [], ◌∷◌, ◌++◌, Option, Some, None, map, max, length, take}
use Rattle.std.specs.List.{list_any}
use Rattle.ng_frame.specs.Frame.{frame}
use Rattle.histories.specs.Words.{In, has}
use Rattle.relay_outside.specs.declared.address.Addr.{Addr}
use Rattle.relay_outside.specs.declared.keys.KeyCall.{KeyCall}
use Rattle.relay_outside.specs.declared.keys.KeyCall.TheVariants as key
use Rattle.relay_outside.specs.declared.ports.PortCall.{PortCall}
use Rattle.relay_outside.specs.declared.ports.PortCall.TheVariants.{Open, Close}
use Rattle.relay_outside.specs.declared.settings.Config.{Config}
use Rattle.port_pool.specs.Boxes as box
use Rattle.port_pool.specs.Boxes.{Taken, FitsTaken, holder}
use Rattle.call_board.specs.Acts.{Call, BoardEntry}
use Rattle.call_board.specs.Calls.{live}
use Rattle.call_board.specs.Views.{board_last_moment}
use Rattle.call_cell.specs.declared.outcome.Outcome.{Outcome}
use Rattle.call_cell.specs.Cells as cells
use Rattle.call_cell.specs.Cells.{Sending}
use Rattle.call_cell.specs.LegHistories.{sent_ok}
use Rattle.relay_core.specs.Entries.{Entry, board_entry, box_of, box_history}
use Rattle.relay_core.specs.Legal.{Legal}
use Rattle.relay_core.specs.Safe.{Safe}
use Rattle.relay_core.specs.Records.{as_logged}
use Rattle.relay_core.specs.Turns.{IsAbove, IsTurn, with_turn}
use Rattle.board_turns.specs.Between.{board_of}
use Rattle.board_turns.specs.Stops.{stop_entry}
use Rattle.board_turns.specs.Ticks.{EndsRightly, tick_entry}
use Rattle.board_turns.specs.Controls.{RequestRecord, control_of, entry_at, moment_at, entry_pairs}
use Rattle.board_turns.specs.DeviceAnswers.{draws_of}
use Rattle.ng_server.specs.ControlTurns.{is_too_long}
use Rattle.media_ports.specs.Openings.{OpensAt}
use Rattle.media_lane.specs.Steps.{take_entry, deed_after, RelaysBy}
use Rattle.relay_script.specs.Steps as step
use Rattle.relay_script.specs.Steps.{Step}
use Rattle.relay_script.specs.EventLines as event
use Rattle.relay_script.specs.EventLines.{Printed, event_of}
use Rattle.replay_devices.specs.Steps as model
use Rattle.replay_devices.specs.Devices.{Happening, Made, Opened, Drew, Replied, fails, send_answers, after_send, next_key}
use Rattle.replay_devices.specs.Due.{stream_from}
use Rattle.replay_devices.specs.Watch.{step_of}
use Rattle.replay_steps.specs.Arrivals.{End, IsEndAt, IsNoEnd}
use Rattle.replay_steps.specs.Receipts.{NumberedReceipt, ReceiptList, taken_with_pair}
use Rattle.replay_steps.specs.declared.ended.Untold.TheVariants as untold
use Rattle.replay_steps.specs.declared.line_packet.Arrived.{Arrived}
use Rattle.replay_steps.specs.declared.line_packet.Arrived.TheVariants as arrived
use Rattle.replay_steps.specs.declared.step.Stepped.{Stepped}
use Rattle.replay_steps.specs.declared.step.Stepped.TheVariants as stepped

-- a packet, and the pair whose box it was taken from
abbrev pub Packet : Type 0
Packet = ℕ × cells.Receipt

-- Where a replay is between two steps: the entries that were made so far, in order; the packets that are held, each under its
-- number; how many numbers were given out; the moment of the clock; and what happened, by which the lines ask calls of the devices to
-- fail, the latest first
pub record Course : Type 0 where
  pub entries : List Entry
  pub held : List (ℕ × Packet)
  pub received : ℕ
  pub clock : ℕ
  pub past : List Happening

-- before the first step
abbrev pub at_first : Course
at_first = record { entries = []; held = []; received = 0; clock = 0; past = [] }

abbrev pub course_at_moment : ℕ → Course → Course
course_at_moment moment r = record { entries = r.entries; held = r.held; received = r.received; clock = moment; past = r.past }

abbrev pub with_entries : List Entry → Course → Course
with_entries l r = record { entries = l; held = r.held; received = r.received; clock = r.clock; past = r.past }

abbrev pub with_past : List Happening → Course → Course
with_past past r = record { entries = r.entries; held = r.held; received = r.received; clock = r.clock; past = past }

-- one more packet is held, under the next number
abbrev pub holding : Packet → List Entry → Course → Course
holding p l r = record { entries = l; held = r.held ++ (r.received + 1, p) ∷ []; received = r.received + 1; clock = r.clock; past = r.past }

-- just these are held
abbrev pub left_with : List (ℕ × Packet) → List Entry → Course → Course
left_with held l r = record { entries = l; held = held; received = r.received; clock = r.clock; past = r.past }

-- a receipt that is held, as its packet
abbrev pub packet_under : NumberedReceipt → ℕ × Packet
packet_under h = (h.0, taken_with_pair h.1)

-- where a replay is with this list, these receipts and this clock, and with what happened
abbrev pub course_of : List Entry → ReceiptList → (clock : ℕ) → List Happening → Course
course_of l receipts clock past = record { entries = l; held = map packet_under receipts.list; received = receipts.received; clock = clock; past = past }

-- the step of a line was made
abbrev pub course_after : Step → Course → Course
course_after s r = with_past (Made (step_of s) ∷ r.past) r

-- One turn of the board, with this entry.
pub record TurnsBoard (config : Config) (l : List Entry) (e : BoardEntry) (new : List Entry) : Type 0 where
  pub nested : List Entry
  pub last : Entry
  pub list_is : new ≡ with_turn l nested last
  pub turn : IsTurn config l nested last
  pub is : board_entry last ≡ Some e

-- The line `ng`.

-- of a datagram as much as the room for one takes, which is a byte more than one may have
abbrev pub filled : List ℕ → List ℕ
filled bytes = take 16385 bytes

-- what is recorded is the cookie and the body of a datagram from that source
pub record IsRecordFrom (x : RequestRecord) (source : Addr) (bytes : List ℕ) : Type 0 where
  pub source_is : x.source ≡ source
  pub framed : frame bytes ≡ Some (x.cookie, x.body)
  pub length_is : x.too_long ≡ is_too_long bytes

-- the reply goes to the source, or its send fails
abbrev pub Replying : (failing : Bool) → Addr → (reply : List ℕ) → Printed → Type 0
Replying true source reply e = e ≡ event.ReplyFault
Replying false source reply e = e ≡ event.Reply source reply

-- The datagram is replied to in one turn of the board, whose entry and reply are those that the board's history demands at that
-- moment for what is recorded. The port maker's openings in the turn are those that the entry tells, with their results: of the ports of the
-- pairs that it leased, in lease order, pair by pair, that for RTP first. The draws of the key source are those that the entry tells
pub record Answers (config : Config) (clock : ℕ) (l : List Entry) (source : Addr) (bytes : List ℕ) (failing : Bool) (opened : List PortCall) (drawn : List KeyCall) (e : Printed) (new : List Entry) : Type 0 where
  pub heard : RequestRecord
  pub is_heard : IsRecordFrom heard source bytes
  pub turns : TurnsBoard config l (entry_at config (board_of l) (moment_at (board_of l) clock) heard) new
  pub opens : OpensAt config (entry_pairs config (board_of l) (moment_at (board_of l) clock) heard) heard.given.opens opened
  pub draws : drawn ≡ draws_of heard.given
  pub replies : Replying failing source (control_of config (board_of l) (moment_at (board_of l) clock) heard).reply e

-- neither the port maker nor the key source was called, and nothing was done
abbrev pub IsIdle : List PortCall → List KeyCall → List Entry → List Entry → Type 0
IsIdle opened drawn l new = (opened ≡ []) × (drawn ≡ []) × (new ≡ l)

-- what a control turn does, whose take and whose send have to fail or not: the take failed; or the datagram has no frame; or it
-- was replied to
abbrev pub Controls : Config → (clock : ℕ) → List Entry → Addr → List ℕ → (read_fails reply_fails : Bool) → List PortCall → List KeyCall → Printed → List Entry → Type 0
Controls config clock l source bytes true reply_fails opened drawn e new = (e ≡ event.ReadFault) × IsIdle opened drawn l new
Controls config clock l source bytes false reply_fails opened drawn e new =
    ((frame (filled bytes) ≡ None) × (e ≡ event.Silent) × IsIdle opened drawn l new)
    ⊎ Answers config clock l source (filled bytes) reply_fails opened drawn e new

-- each opening, in order, failed just where the lines ask for it; each was of an end of a pair
abbrev pub OpensAsked : Config → List PortCall → (old new : List Happening) → Type 0
OpensAsked config [] old new = new ≡ old
OpensAsked config (Open at done ∷ calls) old new =
    (e : End) × IsEndAt config at.port at.ip e × (done ≡ not (fails model.Opening old)) × OpensAsked config calls (Opened e.0 e.1 done ∷ old) new
OpensAsked config (Close at taken sent ∷ calls) old new = OpensAsked config calls old new

-- each draw, in order, failed just where the lines ask for it, and else gave the oldest unused key of a line `key`, or the next one of
-- the seed's stream where there is none
abbrev pub DrawsAsked : (seed : ℕ) → List KeyCall → (old new : List Happening) → Type 0
DrawsAsked seed [] old new = new ≡ old
DrawsAsked seed (key.Drawn bytes ∷ calls) old new =
    (fails model.Drawing old ≡ false) × (bytes ≡ next_key (stream_from seed) old) × DrawsAsked seed calls (Drew true ∷ old) new
DrawsAsked seed (key.Failed ∷ calls) old new = (fails model.Drawing old ≡ true) × DrawsAsked seed calls (Drew false ∷ old) new

-- a reply was sent, or its send failed
abbrev pub replied : Printed → List Happening → List Happening
replied (event.Reply to bytes) past = Replied true ∷ past
replied event.ReplyFault past = Replied false ∷ past
replied _ past = past

-- Packets.

-- the packet of a line was taken, once, at the end of its port, after all that the list has of the pair's box, for the leg that
-- holds the box
pub record TakesPacket (config : Config) (l : List Entry) (port : ℕ) (source : Addr) (bytes : List ℕ) (p : Packet) (new : List Entry) : Type 0 where
  pub at : IsEndAt config port source.ip (p.0, p.1.half)
  pub source_is : p.1.source ≡ source
  pub bytes_are : p.1.bytes ≡ bytes
  pub at_front : IsAbove l (box_of config p.0) p.1.take
  pub fits : FitsTaken (holder (box_history l (box_of config p.0) p.1.take)) (box.Datagram p.1.holder p.1.source p.1.bytes)
  pub list_is : new ≡ l ++ take_entry config p.0 p.1.half p.1.take (box.Datagram p.1.holder p.1.source p.1.bytes) ∷ []

-- what is printed of the take of a packet that it did not give; an open port gives one that isn't too long
abbrev pub PrintsTaken : Taken → (bytes : List ℕ) → Printed → Type 0
PrintsTaken box.Closed bytes e = e ≡ event.Nothing
PrintsTaken box.Nothing bytes e = ⊥
PrintsTaken (box.Datagram holder source given) bytes e = ⊥
PrintsTaken (box.TooLong source given) bytes e = (2000 < length bytes) × (e ≡ event.TooLong)
PrintsTaken box.Fault bytes e = e ≡ event.TakeFault

-- a take fails just where it has to, at an open port
abbrev pub FailsSo : Taken → (failing : Bool) → Type 0
FailsSo box.Closed failing = Unit {0}
FailsSo box.Nothing failing = ⊥
FailsSo (box.Datagram holder source bytes) failing = failing ≡ false
FailsSo (box.TooLong source bytes) failing = failing ≡ false
FailsSo box.Fault failing = failing ≡ true

-- one take was made at the end of the port, and gave no packet: Closed exactly where the box has no holder
pub record TakesNoPacket (config : Config) (l : List Entry) (port : ℕ) (source : Addr) (bytes : List ℕ) (failing : Bool) (e : Printed) (new : List Entry) : Type 0 where
  pub end : End
  pub at : IsEndAt config port source.ip end
  pub number : ℕ
  pub at_front : IsAbove l (box_of config end.0) number
  pub taken : Taken
  pub fits : FitsTaken (holder (box_history l (box_of config end.0) number)) taken
  pub printed : PrintsTaken taken bytes e
  pub asked : FailsSo taken failing
  pub list_is : new ≡ l ++ take_entry config end.0 end.1 number taken ∷ []

-- no packet was taken: no end has the port, or the one take at it gave none
abbrev pub Misses : Config → List Entry → (port : ℕ) → Addr → (bytes : List ℕ) → (failing : Bool) → Printed → List Entry → Type 0
Misses config l port source bytes failing e new =
    (IsNoEnd config port source.ip × (e ≡ event.Nothing) × (new ≡ l)) ⊎ TakesNoPacket config l port source bytes failing e new

-- the one send of a relay, if it made one, failed just where the lines ask for it
abbrev pub SendsAsked : Config → Outcome → Option Sending → (old new : List Happening) → Type 0
SendsAsked config outcome sending old new = (sent_ok outcome ≡ send_answers config old sending) × (new ≡ after_send old (sent_ok outcome) sending)

-- a packet was relayed, once, at that moment, with the outcome and the bytes that the history of its cell demands, and these are
-- printed; its send failed just where the lines ask for it
pub record RelaysPacket (config : Config) (clock : ℕ) (l : List Entry) (old : List Happening) (p : cells.Receipt) (e : Printed) (new : List Entry) (past : List Happening) : Type 0 where
  pub outcome : Outcome
  pub sent : List ℕ
  pub printed : e ≡ event.Relayed outcome sent
  pub relayed : RelaysBy config l p clock outcome sent new
  pub asked : SendsAsked config outcome (deed_after config relayed.history p outcome).sending old past

-- what was taken is not what the line asks for: another packet, or one that had to fail; none at an open port; one that is too long, though
-- the line's is not, or it had to fail; or a failure that had not to be
abbrev pub TookOther : Taken → Addr → (bytes : List ℕ) → (failing : Bool) → Type 0
TookOther box.Closed source bytes failing = Unit {0}
TookOther box.Nothing source bytes failing = Unit {0}
TookOther (box.Datagram holder from given) source bytes failing = failing ≡ false → from ≡ source → given ≡ bytes → ⊥
TookOther (box.TooLong from given) source bytes failing = failing ≡ false → 2000 < length bytes → ⊥
TookOther box.Fault source bytes failing = failing ≡ false

-- one take was made at the end of the port, and was another than the line asks for
pub record TakesOther (config : Config) (l : List Entry) (port : ℕ) (source : Addr) (bytes : List ℕ) (failing : Bool) (new : List Entry) : Type 0 where
  pub end : End
  pub at : IsEndAt config port source.ip end
  pub number : ℕ
  pub at_front : IsAbove l (box_of config end.0) number
  pub taken : Taken
  pub fits : FitsTaken (holder (box_history l (box_of config end.0) number)) taken
  pub other : TookOther taken source bytes failing
  pub list_is : new ≡ l ++ take_entry config end.0 end.1 number taken ∷ []

-- the same of what an arrival came to, whose take has to fail or not. Without memory nothing is said
abbrev pub Arrives : Config → List Entry → (port : ℕ) → Addr → List ℕ → (failing : Bool) → Arrived → List Entry → Type 0
Arrives config l port source bytes failing (arrived.Packet r) new = (failing ≡ false) × TakesPacket config l port source bytes (taken_with_pair r) new
Arrives config l port source bytes failing (arrived.Printed e) new = Misses config l port source bytes failing (event_of e) new
Arrives config l port source bytes failing (arrived.Untold untold.OutOfMemory) new = Unit {0}
Arrives config l port source bytes failing (arrived.Untold untold.DeviceFault) new = TakesOther config l port source bytes failing new

-- Ticks.

-- A tick at the clock's moment, or at the board's last one, where that is later: one turn of the board, with the entry that ends these calls.
-- A live call is among them just where the tick has to end it, by the whole history of its cell, and how many they are is printed
pub record TicksAt (config : Config) (clock : ℕ) (l : List Entry) (e : Printed) (new : List Entry) : Type 0 where
  pub calls : List Call
  pub turns : TurnsBoard config l (tick_entry (board_of l) clock calls) new
  pub due : (c : Call) → In c (live (board_of l)) → EndsRightly config (board_of l) l (max clock (board_last_moment (board_of l))) c (has (map (λ (d : Call). d.number) calls) c.number)
  pub printed : e ≡ event.Ended (length calls)

-- Steps.

abbrev pub IsQuiet : Course → List Printed → Course → Type 0
IsQuiet r prints new = (prints ≡ []) × (new ≡ r)

-- one event is printed
pub record PrintsOne (prints : List Printed) (P : Printed → Type 0) : Type 0 where
  pub event : Printed
  pub prints_are : prints ≡ event ∷ []
  pub holds : P event

-- a packet is taken, and held under the next number, which is printed
pub record Holds (config : Config) (r : Course) (port : ℕ) (source : Addr) (bytes : List ℕ) (e : Printed) (new : Course) : Type 0 where
  pub packet : Packet
  pub entries : List Entry
  pub asked : fails model.Taking r.past ≡ false
  pub takes : TakesPacket config r.entries port source bytes packet entries
  pub printed : e ≡ event.Took (r.received + 1)
  pub new_is : new ≡ holding packet entries r

-- no packet is taken
pub record HoldsNone (config : Config) (r : Course) (port : ℕ) (source : Addr) (bytes : List ℕ) (e : Printed) (new : Course) : Type 0 where
  pub entries : List Entry
  pub misses : Misses config r.entries port source bytes (fails model.Taking r.past) e entries
  pub new_is : new ≡ with_entries entries r

-- a packet is taken, and relayed at once
pub record Passes (config : Config) (r : Course) (port : ℕ) (source : Addr) (bytes : List ℕ) (e : Printed) (new : Course) : Type 0 where
  pub packet : Packet
  pub between : List Entry
  pub entries : List Entry
  pub asked : fails model.Taking r.past ≡ false
  pub takes : TakesPacket config r.entries port source bytes packet between
  pub past : List Happening
  pub relays : RelaysPacket config r.clock between r.past packet.1 e entries past
  pub new_is : new ≡ with_past past (with_entries entries r)

-- the packet of that number is relayed, and held no more
pub record RelaysHeld (config : Config) (r : Course) (number : ℕ) (e : Printed) (new : Course) : Type 0 where
  pub before : List (ℕ × Packet)
  pub packet : Packet
  pub after : List (ℕ × Packet)
  pub held_is : r.held ≡ before ++ (number, packet) ∷ after
  pub entries : List Entry
  pub past : List Happening
  pub relays : RelaysPacket config r.clock r.entries r.past packet.1 e entries past
  pub new_is : new ≡ with_past past (left_with (before ++ after) entries r)

-- a control turn, which touches no packet that is held; its calls fail just where the lines ask for it
pub record Commands (config : Config) (seed : ℕ) (r : Course) (source : Addr) (bytes : List ℕ) (e : Printed) (new : Course) : Type 0 where
  pub entries : List Entry
  pub opened : List PortCall
  pub drawn : List KeyCall
  pub controls : Controls config r.clock r.entries source bytes (fails model.Reading r.past) (fails model.Replying r.past) opened drawn e entries
  pub between : List Happening
  pub opens : OpensAsked config opened r.past between
  pub past : List Happening
  pub draws : DrawsAsked seed drawn between past
  pub new_is : new ≡ with_past (replied e past) (with_entries entries r)

-- a tick, which touches no packet that is held, and asks no call of the devices that may fail
pub record EndsDueCalls (config : Config) (r : Course) (e : Printed) (new : Course) : Type 0 where
  pub entries : List Entry
  pub ticks : TicksAt config r.clock r.entries e entries
  pub new_is : new ≡ with_entries entries r

-- Makes config seed r step prints new: with the step, made at r, a replay comes to new, and this is printed. That the line was passed is
-- not noted yet
abbrev pub Makes : Config → (seed : ℕ) → Course → Step → List Printed → Course → Type 0
Makes config seed r step.Skip prints new = IsQuiet r prints new
Makes config seed r (step.At moment) prints new = (prints ≡ []) × (new ≡ course_at_moment moment r)
Makes config seed r (step.Key bytes) prints new = IsQuiet r prints new
Makes config seed r (step.Fail kind count) prints new = IsQuiet r prints new
Makes config seed r (step.FailSend port count) prints new = IsQuiet r prints new
Makes config seed r (step.Ng source bytes) prints new = PrintsOne prints (λ e. Commands config seed r source bytes e new)
Makes config seed r (step.Take port source bytes) prints new =
    (length r.held < 64) × PrintsOne prints (λ e. Holds config r port source bytes e new ⊎ HoldsNone config r port source bytes e new)
Makes config seed r (step.Relay number) prints new = PrintsOne prints (λ e. RelaysHeld config r number e new)
Makes config seed r (step.Packet port source bytes) prints new =
    PrintsOne prints (λ e. Passes config r port source bytes e new ⊎ HoldsNone config r port source bytes e new)
Makes config seed r step.Tick prints new = PrintsOne prints (λ e. EndsDueCalls config r e new)

abbrev pub is_under : ℕ → ℕ × Packet → Bool
is_under number h = h.0 == number

-- the step can't be made there: a packet that isn't held is to be relayed, or one more is to be held than may be
abbrev pub IsFaulty : Course → Step → Type 0
IsFaulty r (step.Take port source bytes) = 64 ≤ length r.held
IsFaulty r (step.Relay number) = list_any (is_under number) r.held ≡ false
IsFaulty r _ = ⊥

-- the step calls devices: it takes a datagram or a packet, or relays one
abbrev pub calls_devices : Step → Bool
calls_devices (step.Ng source bytes) = true
calls_devices (step.Take port source bytes) = true
calls_devices (step.Relay number) = true
calls_devices (step.Packet port source bytes) = true
calls_devices _ = false

-- what a step did: it was made, and printed this; or it can't be made, and nothing was done. If it can't be told, nothing is said
abbrev pub OfStep : Config → (seed : ℕ) → Course → Step → Stepped → Course → Type 0
OfStep config seed r s stepped.Quiet new = Makes config seed r s [] new
OfStep config seed r s (stepped.Prints e) new = Makes config seed r s (event_of e ∷ []) new
OfStep config seed r s stepped.Faulty new = IsFaulty r s × (new ≡ r)
OfStep config seed r s (stepped.Untold why) new = Unit {0}

-- Plays config seed steps r prints new: with these steps, each made where the ones before it came to, a replay comes from r to new, and
-- this is printed
abbrev pub Plays : Config → (seed : ℕ) → List Step → Course → List Printed → Course → Type 0
Plays config seed [] r prints new = (prints ≡ []) × (new ≡ r)
Plays config seed (s ∷ steps) r prints new =
    (between : Course) × (first rest : List Printed) × (prints ≡ first ++ rest) × Makes config seed r s first between × Plays config seed steps (course_after s between) rest new

-- A stop after these entries: one more turn of the board, which ends all calls. The entries and those of the stop are what a table
-- records of a list that is legal, and so safe
pub record Stops (config : Config) (l : List Entry) : Type 0 where
  pub all : List Entry
  pub stopped : TurnsBoard config l (stop_entry (board_of l)) (map as_logged all)
  pub legal : Legal config all
  pub safe : Safe config all
