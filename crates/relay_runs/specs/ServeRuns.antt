-- What a run of `serve` took, sent and did, by what its devices tell.
use Rattle.std.specs.Prelude.{◌≡◌, ℕ, ◌+◌, ◌<◌, Bool, true, false, List, [], ◌∷◌, ◌++◌, length, Option, Some, None, count_by, codes, decimal}
use Rattle.relay_outside.specs.declared.keys.KeyCall.{KeyCall}
use Rattle.relay_outside.specs.declared.link.LinkGiven.TheVariants as given
use Rattle.relay_outside.specs.declared.link.LinkCall.{LinkCall}
use Rattle.relay_outside.specs.declared.link.LinkCall.TheVariants as call
use Rattle.relay_outside.specs.declared.ports.PortCall.{PortCall}
use Rattle.relay_outside.specs.declared.settings.Config.{Config}
use Rattle.relay_outside.specs.DeviceLogs.{Gained, Rose}
use Rattle.relay_outside.specs.Link.{datagrams, sent}
use Rattle.histories.specs.Words.{In}
use Rattle.media_ports.specs.Addresses.{pair_addresses}
use Rattle.media_ports.specs.Openings.{OpensWith, OpensThese}
use Rattle.media_ports.specs.Calls as port_calls
use Rattle.call_board.specs.Acts.{BoardEvent, Turn, Tick, Stop, BoardEntry, Given, act}
use Rattle.call_board.specs.Pairs.{leased_by_act}
use Rattle.board_turns.specs.DeviceAnswers.{draws_of}
use Rattle.ng_server.specs.ControlTurns.{DidTurn}
use Rattle.ng_server.specs.declared.control_turn.ControlTurn.{ControlTurn}
use Rattle.ng_server.specs.declared.control_turn.ControlTurn.TheVariants as turn
use Rattle.media_lane.specs.declared.answers.Totals.{Totals}
use Rattle.media_lane.specs.Gates.{AreGated}
use Rattle.relay_runs.specs.declared.status.Status.{Status}
use Rattle.relay_runs.specs.declared.status.Status.TheVariants as status
use Rattle.relay_runs.specs.declared.totals.Counts.{Counts}
use Rattle.relay_runs.specs.Ends.{HasAllSends, AreEnds, OpensSame}
use Rattle.relay_runs.specs.Rounds.{ControlRound, history_after, moments, IsWhole}

-- What the devices told before a run and tell after it, and how many faults of ports and of keys were counted
pub record Outside : Type 0 where
  pub link : Option (List LinkCall)
  pub link_now : Option (List LinkCall)
  pub timer : Option (List ℕ)
  pub timer_now : Option (List ℕ)
  pub opened : Option (List PortCall)
  pub opened_now : Option (List PortCall)
  pub drew : Option (List KeyCall)
  pub drew_now : Option (List KeyCall)
  pub port_faults : ℕ
  pub port_faults_now : ℕ
  pub key_faults : ℕ
  pub key_faults_now : ℕ

-- where a device tells its calls, these were added
abbrev pub Gave : {C : Type 0} → Option (List C) → Option (List C) → List C → Type 0
Gave before after more = Gained before after (λ added. added ≡ more)

-- What the devices returned.

abbrev pub given_in : BoardEvent → Option Given
given_in (Turn c) = Some c.given
given_in (Tick calls) = None
given_in (Stop calls) = None

abbrev pub openings_in : Option Given → List Bool
openings_in None = []
openings_in (Some given) = given.opens

-- the results of the openings of a history, in order
abbrev pub opening_results : List BoardEntry → List Bool
opening_results [] = []
opening_results (entry ∷ history) = opening_results history ++ openings_in (given_in entry.event)

-- the openings of an entry: of the ports of the pairs that it leased, in lease order, pair by pair and that for RTP before that for RTCP,
-- with the results that it tells
abbrev pub opening_calls_in : Config → BoardEntry → List PortCall
opening_calls_in config entry = port_calls.openings (pair_addresses config (leased_by_act (act entry))) (openings_in (given_in entry.event))

-- the openings of a history, in order, each with its address and its answer
abbrev pub opening_calls_of : Config → List BoardEntry → List PortCall
opening_calls_of config [] = []
opening_calls_of config (entry ∷ history) = opening_calls_of config history ++ opening_calls_in config entry

-- the openings among these calls are those of the history, and none of its results is left out
pub record OpensBy (config : Config) (history : List BoardEntry) (calls : List PortCall) : Type 0 where
  pub answered : OpensWith (opening_results history) calls
  pub in_order : OpensThese (opening_calls_of config history) calls

abbrev pub draws_in : Option Given → List KeyCall
draws_in None = []
draws_in (Some given) = draws_of given

-- the draws of a history, in order
abbrev pub draws_made : List BoardEntry → List KeyCall
draws_made [] = []
draws_made (entry ∷ history) = draws_made history ++ draws_in (given_in entry.event)

-- a port could not be opened, or a key not be drawn, only where the count of these faults rose
pub record IsCaused (outside : Outside) (given : Given) : Type 0 where
  pub port_fault : In false given.opens → Rose outside.port_faults outside.port_faults_now
  pub key_fault : given.draw_failed ≡ true → Rose outside.key_faults outside.key_faults_now

-- for each entry what the devices returned has its cause
abbrev pub HaveCauses : Outside → List BoardEntry → Type 0
HaveCauses outside history = (entry : BoardEntry) (given : Given) → In entry history → given_in entry.event ≡ Some given → IsCaused outside given

-- Counts.

abbrev pub run_counts : ℕ → ℕ → ℕ → Counts
run_counts turns datagrams replies = record { turns = turns; datagrams = datagrams; replies = replies }

-- what a control turn counts
abbrev pub turn_counts : ControlTurn → Counts
turn_counts turn.Replied = run_counts 1 1 1
turn_counts turn.ReplyFault = run_counts 1 1 0
turn_counts turn.Silent = run_counts 1 1 0
turn_counts turn.Nothing = run_counts 1 0 0
turn_counts turn.End = run_counts 0 0 0
turn_counts turn.ReadFault = run_counts 0 0 0

abbrev pub sum_of_counts : Counts → Counts → Counts
sum_of_counts a b = run_counts (a.turns + b.turns) (a.datagrams + b.datagrams) (a.replies + b.replies)

-- what the rounds count
abbrev pub counts_in : List ControlRound → Counts
counts_in [] = run_counts 0 0 0
counts_in (r ∷ rounds) = sum_of_counts (counts_in rounds) (turn_counts r.answer)

-- a take that gave a datagram or nothing
abbrev pub is_turn : LinkCall → Bool
is_turn (call.Bind at done) = false
is_turn (call.Take room (given.Datagram from bytes)) = true
is_turn (call.Take room given.Nothing) = true
is_turn (call.Take room given.End) = false
is_turn (call.Take room given.Failed) = false
is_turn (call.Send to bytes done) = false

-- The calls of the link have these counts: of the takes that gave a datagram or nothing, of the datagrams that were taken, and of the sends
-- that returned Ok
pub record Counted (counts : Counts) (calls : List LinkCall) : Type 0 where
  pub turns_are : count_by is_turn calls ≡ counts.turns
  pub datagrams_are : length (datagrams calls) ≡ counts.datagrams
  pub replies_are : length (sent calls) ≡ counts.replies

-- The calls of the link in these rounds, in order: one take in each, and right after one that gave a datagram with a frame the send of the
-- reply that the board's history demands, to its source
abbrev pub AreExchanges : Config → List ControlRound → List LinkCall → Type 0
AreExchanges config [] calls = calls ≡ []
AreExchanges config (r ∷ rounds) calls =
    (before : List LinkCall) × (more : List LinkCall) × (calls ≡ before ++ more) × AreExchanges config rounds before
    × DidTurn config (history_after config rounds) r.handed r.answer r.heard more

-- How the control turns end.

-- the take after the last round that ended them, where one did
abbrev pub last_take : Status → List LinkCall
last_take status.Ok = call.Take 16385 given.End ∷ []
last_take status.ControlFault = call.Take 16385 given.Failed ∷ []
last_take _ = []

-- by the number of rounds, where at most `limit` are made
abbrev pub HasEnded : Status → (limit rounds : ℕ) → Type 0
HasEnded status.Ok limit rounds = rounds < limit
HasEnded status.ControlFault limit rounds = rounds < limit
HasEnded status.TurnsSpent limit rounds = rounds ≡ limit
HasEnded status.OutOfMemory limit rounds = ⊥
HasEnded status.PrintFault limit rounds = ⊥
HasEnded status.Usage limit rounds = ⊥
HasEnded status.ScriptFault limit rounds = ⊥
HasEnded status.ScriptRead limit rounds = ⊥

-- the calls of the link: these first, then those of the rounds, then the take that ended them; with their counts
pub record AreCalls (config : Config) (first : List LinkCall) (rounds : List ControlRound) (ended : Status) (calls : List LinkCall) : Type 0 where
  pub more : List LinkCall
  pub exchanges : AreExchanges config rounds more
  pub calls_are : calls ≡ first ++ more ++ last_take ended
  pub counted : Counted (counts_in rounds) calls

-- What the devices told in these rounds and in the take that ended them, each where it tells: the link its calls; the timer the moments that
-- were handed to the takes; the port maker the openings of the history, each of the port that it is of, and the key source its draws, each
-- with its answer, in order and no others
pub record AreLogged (config : Config) (first : List LinkCall) (rounds : List ControlRound) (last : List ℕ) (ended : Status) (outside : Outside) : Type 0 where
  pub link : Gained outside.link outside.link_now (AreCalls config first rounds ended)
  pub timer : Gave outside.timer outside.timer_now (moments rounds ++ last)
  pub ports : Gained outside.opened outside.opened_now (OpensBy config (history_after config rounds))
  pub keys : Gave outside.drew outside.drew_now (draws_made (history_after config rounds))
  pub causes : HaveCauses outside (history_after config rounds)

-- A run whose control turns ended with this status, and in which the link was called so before them: its rounds, with all its steps, and what
-- the devices told of them, the port maker also of the ends that it was given back. The gate was passed at the cell of each relay among the steps
pub record DidServe (first : List LinkCall) (limit : ℕ) (config : Config) (threads : ℕ) (range : Option (ℕ × ℕ)) (gate : ℕ → Type 0) (outside : Outside) (ended : Status) (counts : Counts) (totals : Totals) : Type 0 where
  pub rounds : List ControlRound
  -- the moment of the take that ended them
  pub last : List ℕ
  pub whole : IsWhole config threads range rounds totals
  pub gated : AreGated gate whole.list
  pub counts_are : counts ≡ counts_in rounds
  pub has_ended : HasEnded ended limit counts.turns
  pub last_is : length last ≡ length (last_take ended)
  pub log : AreLogged config first rounds last ended outside
  pub ends : Gained outside.opened outside.opened_now (AreEnds config whole.list)
  pub all_sent : HasAllSends config whole.list
  pub opens_same : OpensSame outside.opened outside.opened_now

-- The line of totals, for these numbers of turns, datagrams and replies, and these counts of relays by their outcome
abbrev pub totals_line : Counts → Totals → List ℕ
totals_line counts totals =
    codes "turns " ++ decimal counts.turns ++ codes " datagrams " ++ decimal counts.datagrams ++ codes " replies " ++ decimal counts.replies ++ codes " sent "
    ++ decimal totals.sent ++ codes " refused " ++ decimal totals.refused ++ codes " lost " ++ decimal totals.lost ++ 10 ∷ []
