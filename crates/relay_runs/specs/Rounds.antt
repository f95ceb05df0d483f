-- The steps of a run. Those of the main hand, in the order in which they were made: rounds, each a control turn, one more sweep of all pairs, and the
-- stop. Where no thread relays media, a sweep of media follows each control turn too; else each lane made sweeps meanwhile. At the end of a
-- round stands a tick, about once a second.
use Rattle.std.specs.Prelude.{◌≡◌, ◌+◌, ◌<◌, ℕ, zero, suc, Bool, true, false, nat_le, min, List, [], ◌∷◌, ◌++◌, Option, None, Some, is_some, map, filter, length, slice_index_or}
use Rattle.std.specs.Option.{option_map}
use Rattle.relay_outside.specs.declared.settings.Config.{Config}
use Rattle.histories.specs.Words.{In}
use Rattle.port_pool.specs.Ports.{pair_count}
use Rattle.call_board.specs.Acts.{Call, BoardEntry}
use Rattle.relay_core.specs.Entries.{Entry, board_entry}
use Rattle.relay_core.specs.Legal.{Legal}
use Rattle.relay_core.specs.Safe.{Safe}
use Rattle.relay_core.specs.Records.{entry_of, list_of, as_logged}
use Rattle.relay_core.specs.RowMoments.{AreTimed}
use Rattle.relay_core.specs.Turns.{IsTurn}
use Rattle.media_lane.specs.declared.answers.Totals.{Totals}
use Rattle.media_lane.specs.Visits.{Row, Visit, all_rows}
use Rattle.media_lane.specs.SweepLoops.{IsSweep, AreSweeps, visits_of}
use Rattle.board_turns.specs.Between.{board_of}
use Rattle.board_turns.specs.Stops.{stop_entry}
use Rattle.board_turns.specs.Ticks.{tick_entry}
use Rattle.board_turns.specs.Controls.{RequestRecord, entry_at, moment_at}
use Rattle.ng_server.specs.ControlTurns.{is_answered}
use Rattle.ng_server.specs.declared.control_turn.ControlTurn.{ControlTurn}
use Rattle.ng_server.specs.declared.control_turn.ControlTurn.TheVariants as turn
use Rattle.media_lane.specs.Totals.{HasTotals}
use Rattle.relay_runs.specs.declared.status.Status.{Status}
use Rattle.relay_runs.specs.declared.status.Status.TheVariants as status

-- A control turn after which the run goes on: the moment that the timer gave for its take, how it ended, and of a datagram with a frame what
-- is recorded of it, with what the ports and the keys gave; and the calls that the tick after it ended, where a tick was made
pub record ControlRound : Type 0 where
  pub handed : ℕ
  pub answer : ControlTurn
  pub heard : Option RequestRecord
  pub ticked : Option (List Call)

-- the status with which a run ends after a control turn, where it does not go on
abbrev pub status_after : ControlTurn → Option Status
status_after turn.Replied = None
status_after turn.ReplyFault = None
status_after turn.Silent = None
status_after turn.Nothing = None
status_after turn.End = Some status.Ok
status_after turn.ReadFault = Some status.ControlFault

-- the entry that the board's history demands of what is recorded: at the moment that was handed, or at the board's last one, where that is later
abbrev pub entry_due : Config → List BoardEntry → ℕ → Option RequestRecord → Option BoardEntry
entry_due config history now heard = option_map (entry_at config history (moment_at history now)) heard

abbrev pub with_entry : List BoardEntry → Option BoardEntry → List BoardEntry
with_entry history None = history
with_entry history (Some entry) = entry ∷ history

-- a history after what is recorded of a control turn
abbrev pub with_request : Config → List BoardEntry → ControlRound → List BoardEntry
with_request config history r = with_entry history (entry_due config history r.handed r.heard)

-- the entry of the tick of a round after that history, at the moment of its control turn, where a tick was made
abbrev pub tick_of : List BoardEntry → ControlRound → Option BoardEntry
tick_of history r = option_map (tick_entry history r.handed) r.ticked

abbrev pub with_tick : List BoardEntry → ControlRound → List BoardEntry
with_tick history r = with_entry history (tick_of history r)

-- the board's history after these rounds; of both the latest comes first
abbrev pub history_after : Config → List ControlRound → List BoardEntry
history_after config [] = []
history_after config (r ∷ rounds) = with_tick (with_request config (history_after config rounds) r) r

-- the moments that were handed to them, in order
abbrev pub moments : List ControlRound → List ℕ
moments [] = []
moments (r ∷ rounds) = moments rounds ++ r.handed ∷ []

-- When a tick is made.

-- the rounds that have one
abbrev pub with_ticks : List ControlRound → List ControlRound
with_ticks rounds = filter (λ r. is_some r.ticked) rounds

abbrev pub latest : List ControlRound → Option ControlRound
latest [] = None
latest (r ∷ rounds) = Some r

abbrev pub earliest : List ControlRound → Option ControlRound
earliest [] = None
earliest (r ∷ []) = Some r
earliest (r ∷ before ∷ rounds) = earliest (before ∷ rounds)

-- the one, or where there is none the other
abbrev pub first_round_of : Option ControlRound → Option ControlRound → Option ControlRound
first_round_of None other = other
first_round_of (Some r) other = Some r

-- the moment from which the next second counts: that of the last tick, or where there was none that of the first control turn
abbrev pub counted_from : List ControlRound → Option ℕ
counted_from rounds = option_map (λ r. r.handed) (first_round_of (latest (with_ticks rounds)) (earliest rounds))

-- at least a second after that moment
abbrev pub is_second_later : Option ℕ → ℕ → Bool
is_second_later None now = false
is_second_later (Some then) now = nat_le (then + 1000) now

-- whether a tick is due in the round that follows these, by the moment that was handed to its control turn
abbrev pub is_tick_due : List ControlRound → ℕ → Bool
is_tick_due rounds now = is_second_later (counted_from rounds) now

-- A turn of the board after these rows: the nested entries that its entry owes, in their order, and then the entry
pub record IsBoardTurn (config : Config) (before : List Row) (e : BoardEntry) (rows : List Row) : Type 0 where
  pub nested : List Row
  pub last : Row
  pub rows_are : rows ≡ nested ++ last ∷ []
  pub turn : IsTurn config (list_of before) (list_of nested) (entry_of last)
  pub is : board_entry (entry_of last) ≡ Some e

-- the same of a control turn, and of a tick: without an entry there is no turn of the board
abbrev pub MakesEntry : Config → List Row → Option BoardEntry → List Row → Type 0
MakesEntry config before None rows = rows ≡ []
MakesEntry config before (Some e) rows = IsBoardTurn config before e rows

-- The rows of one sweep by the hand of a lane: one take of each half of each of its own pairs, in any order. Right after a take that gave
-- a datagram stands the one relay of it, which was handed a moment of the clock's range
pub record HasSwept (config : Config) (index lanes : ℕ) (range : Option (ℕ × ℕ)) (rows : List Row) : Type 0 where
  pub visits : List Visit
  pub rows_are : rows ≡ all_rows config visits
  pub is_sweep : IsSweep config index lanes range visits

-- What the main hand sweeps, by how many threads relay media: all pairs, where there is none, and else nothing
abbrev pub SweepsAlone : Config → (threads : ℕ) → Option (ℕ × ℕ) → List Row → Type 0
SweepsAlone config zero range rows = HasSwept config 0 1 range rows
SweepsAlone config (suc more) range rows = rows ≡ []

-- a control turn that sent a reply, or failed to send it, took a datagram with a frame, and no other did
abbrev pub HasRequest : ControlTurn → Option RequestRecord → Type 0
HasRequest answer None = is_answered answer ≡ false
HasRequest answer (Some x) = is_answered answer ≡ true

-- the rows of these rounds: a tick is made exactly where it is due, and stands last
abbrev pub AreControlRounds : Config → (threads : ℕ) → Option (ℕ × ℕ) → List ControlRound → List Row → Type 0
AreControlRounds config threads range [] rows = rows ≡ []
AreControlRounds config threads range (r ∷ rounds) rows =
    (before : List Row) × (turn : List Row) × (sweep : List Row) × (tick : List Row) × (rows ≡ ((before ++ turn) ++ sweep) ++ tick)
    × (status_after r.answer ≡ None)
    × HasRequest r.answer r.heard
    × (is_some r.ticked ≡ is_tick_due rounds r.handed)
    × AreControlRounds config threads range rounds before
    × MakesEntry config before (entry_due config (history_after config rounds) r.handed r.heard) turn
    × SweepsAlone config threads range sweep
    × MakesEntry config ((before ++ turn) ++ sweep) (tick_of (with_request config (history_after config rounds) r) r) tick

-- How many lanes relay media where so many threads do: one for each pair, 960 at most
abbrev pub lane_count : Config → (threads : ℕ) → ℕ
lane_count config zero = 0
lane_count config (suc more) = min (pair_count config) 960

-- The rows of one lane of media: those of one sweep or of more, one after the other, of the pairs whose number is the lane's modulo the
-- number of lanes
pub record IsLane (config : Config) (lanes : ℕ) (range : Option (ℕ × ℕ)) (index : ℕ) (rows : List Row) : Type 0 where
  pub sweeps : List (List Visit)
  pub some : 0 < length sweeps
  pub are_sweeps : AreSweeps config index lanes range sweeps
  pub rows_are : rows ≡ all_rows config (visits_of sweeps)

-- the rows of all lanes, lane by lane, in the order of their numbers
pub record AreLanes (config : Config) (lanes : ℕ) (range : Option (ℕ × ℕ)) (beside : List (List Row)) : Type 0 where
  pub as_many : length beside ≡ lanes
  pub are_lanes : (i : ℕ) (d : List Row) → i < lanes → IsLane config lanes range i (slice_index_or beside i d)

abbrev pub all_of : List (List Row) → List Row
all_of [] = []
all_of (rows ∷ more) = rows ++ all_of more

-- each entry of the second list has a greater number than each entry of the first at its place
abbrev pub StandsAfter : List Entry → List Entry → Type 0
StandsAfter before after = (e f : Entry) → In e after → In f before → f.place ≡ e.place → f.number < e.number

-- All steps of a run: those of its rounds, those of each lane meanwhile, of one more sweep of all pairs after them, and of the stop, each step
-- at the moment that its event makes of the one that it was handed. The last sweep stands at each place after all that was done there, and before
-- what the stop does there. With what each relay noted, protected and sent added to its outcome the steps are a list that is legal, and so safe; the
-- board's entries in it are the history and the stop, and these are the counts of its takes and relays
pub record IsWhole (config : Config) (threads : ℕ) (range : Option (ℕ × ℕ)) (rounds : List ControlRound) (totals : Totals) : Type 0 where
  pub in_rounds : List Row
  pub beside : List (List Row)
  pub last_sweep : List Row
  pub stop : List Row
  pub are_rounds : AreControlRounds config threads range rounds in_rounds
  pub are_lanes : AreLanes config (lane_count config threads) range beside
  pub is_sweep : HasSwept config 0 1 range last_sweep
  pub is_stop : IsBoardTurn config ((in_rounds ++ all_of beside) ++ last_sweep) (stop_entry (history_after config rounds)) stop
  pub after_all : StandsAfter (list_of (in_rounds ++ all_of beside)) (list_of last_sweep)
  pub before_stop : StandsAfter (list_of last_sweep) (list_of stop)
  -- all of them, in this order
  pub rows : List Row
  pub rows_are : rows ≡ ((in_rounds ++ all_of beside) ++ last_sweep) ++ stop
  pub timed : AreTimed rows
  pub list : List Entry
  pub told_is : map as_logged list ≡ list_of rows
  pub legal : Legal config list
  pub safe : Safe config list
  pub board_is : board_of list ≡ stop_entry (history_after config rounds) ∷ history_after config rounds
  pub totals_are : HasTotals list totals
