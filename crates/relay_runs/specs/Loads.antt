-- What a run of `load` does.
use Rattle.std.specs.Prelude.{◌≡◌, ◌⊎◌, ◌<◌, ◌≤◌, ℕ, ◌*◌, ◌==◌, true, false, List, [], ◌∷◌, ◌++◌, Option, Some, None, codes, decimal, length, map}
use Rattle.std.specs.List.{list_all}
use Rattle.relay_outside.specs.declared.lines.WriteCall.{WriteCall}
use Rattle.relay_outside.specs.declared.lines.WriteCall.TheVariants as put
use Rattle.relay_outside.specs.declared.keys.KeyCall.{KeyCall}
use Rattle.relay_outside.specs.declared.link.LinkCall.{LinkCall}
use Rattle.relay_outside.specs.declared.ports.PortCall.{PortCall}
use Rattle.relay_outside.specs.declared.settings.Config.{Config}
use Rattle.relay_outside.specs.Link.{sends}
use Rattle.relay_outside.specs.DeviceLogs.{Gained}
use Rattle.outside_real.specs.KeyStream as stream
use Rattle.histories.specs.Words.{In}
use Rattle.port_pool.specs.declared.signal.SectionSignal.{SectionSignal}
use Rattle.call_cell.specs.Cells.{Commit, Relay, Relayed}
use Rattle.relay_core.specs.Entries.{Cell, Entry, is_nested}
use Rattle.relay_core.specs.Legal.{Legal}
use Rattle.relay_core.specs.Records.{list_of, as_logged}
use Rattle.relay_core.specs.Safe.{Safe}
use Rattle.relay_core.specs.RowMoments.{AreTimed}
use Rattle.load_maker.specs.declared.ports.ClosedEnd.{ClosedEnd}
use Rattle.load_maker.specs.Datagrams.{is_success}
use Rattle.load_maker.specs.Links.{LogsLoad}
use Rattle.load_maker.specs.Takes.{AreAllEnds, AreClosed, HasGivenAll}
use Rattle.media_lane.specs.declared.answers.Totals.{Totals}
use Rattle.media_lane.specs.Gates.{AreGated}
use Rattle.media_lane.specs.Totals.{HasTotals}
use Rattle.media_lane.specs.Visits.{Row}
use Rattle.board_turns.specs.Between.{board_of}
use Rattle.board_turns.specs.Stops.{stop_entry}
use Rattle.command_line.specs.declared.settings.LoadSettings.{LoadSettings}
use Rattle.relay_runs.specs.declared.load_end.LoadEnd.{LoadEnd}
use Rattle.relay_runs.specs.declared.load_end.LoadEnd.TheVariants as end
use Rattle.relay_runs.specs.declared.load_end.Shortfall.{Shortfall}
use Rattle.relay_runs.specs.declared.load_end.Shortfall.TheVariants as why
use Rattle.relay_runs.specs.declared.status.Status.{Status}
use Rattle.relay_runs.specs.declared.status.Status.TheVariants as status
use Rattle.relay_runs.specs.declared.totals.Counts.{Counts}
use Rattle.relay_runs.specs.Ends.{HasAllSends, AreEnds, OpensSame}
use Rattle.relay_runs.specs.Statuses.{load_status}
use Rattle.relay_runs.specs.Rounds.{ControlRound, history_after, IsBoardTurn, AreControlRounds, AreLanes, all_of}
use Rattle.relay_runs.specs.ServeRuns.{Outside, Gave, counts_in, last_take, HasEnded, AreLogged}

-- the line of a load, for this number of calls, and these counts of relays by their outcome
abbrev pub load_line : (calls : ℕ) → Totals → List ℕ
load_line calls totals =
    codes "calls " ++ decimal calls ++ codes " sent " ++ decimal totals.sent ++ codes " refused " ++ decimal totals.refused ++ codes " lost "
    ++ decimal totals.lost ++ 10 ∷ []

-- Each relay of the list stands at its cell after all nested entries of the board's turns before that of this number, each Commit among
-- them, and before all of that turn: as their numbers there say
pub record AreBetween (l : List Entry) (stop : ℕ) : Type 0 where
  pub after_commits : (e f : Entry) (x : Relayed) (signal : List SectionSignal) → In e l → In f l → e.event ≡ Cell (Relay x) → f.event ≡ Cell (Commit signal)
      → f.place ≡ e.place → f.number < e.number
  pub after_turns : (e f : Entry) (x : Relayed) → In e l → In f l → e.event ≡ Cell (Relay x) → is_nested f.event ≡ true → f.place ≡ e.place
      → f.board < stop → f.number < e.number
  pub before_stop : (e f : Entry) (x : Relayed) → In e l → In f l → e.event ≡ Cell (Relay x) → is_nested f.event ≡ true → f.place ≡ e.place
      → f.board ≡ stop → e.number < f.number

-- All steps of a load: those of its control turns, then those of each lane, and then those of the stop, each step at the moment that its
-- event makes of the one that it was handed. With what each relay noted, protected and sent added to its outcome they are a list that is
-- legal, and so safe; the board's entries in it are the history and the stop, these are the counts of its takes and relays, and each relay
-- stands at its cell between the control turns and the stop
pub record IsLoadWhole (config : Config) (threads : ℕ) (range : Option (ℕ × ℕ)) (rounds : List ControlRound) (totals : Totals) : Type 0 where
  pub in_rounds : List Row
  pub beside : List (List Row)
  pub stop : List Row
  pub are_rounds : AreControlRounds config threads range rounds in_rounds
  pub are_lanes : AreLanes config threads range beside
  pub is_stop : IsBoardTurn config (in_rounds ++ all_of beside) (stop_entry (history_after config rounds)) stop
  -- all of them, in this order
  pub rows : List Row
  pub rows_are : rows ≡ (in_rounds ++ all_of beside) ++ stop
  pub timed : AreTimed rows
  pub list : List Entry
  pub told_is : map as_logged list ≡ list_of rows
  pub legal : Legal config list
  pub safe : Safe config list
  pub board_is : board_of list ≡ stop_entry (history_after config rounds) ∷ history_after config rounds
  pub totals_are : HasTotals list totals
  pub ordered : AreBetween list is_stop.last.number

-- A load whose control turns ended with this status: its rounds, with all its steps, and what the devices told of them, the port maker also of the
-- ends that it was given back. The gate was passed at the cell of each relay among the steps
pub record DidLoadTurns (limit : ℕ) (config : Config) (threads : ℕ) (range : Option (ℕ × ℕ)) (gate : ℕ → Type 0) (outside : Outside) (ended : Status) (counts : Counts) (totals : Totals) : Type 0 where
  pub rounds : List ControlRound
  -- the moment of the take that ended them
  pub last : List ℕ
  pub whole : IsLoadWhole config threads range rounds totals
  pub gated : AreGated gate whole.list
  pub counts_are : counts ≡ counts_in rounds
  pub has_ended : HasEnded ended limit counts.turns
  pub last_is : length last ≡ length (last_take ended)
  pub log : AreLogged config [] rounds last ended outside
  pub ends : Gained outside.opened outside.opened_now (AreEnds config whole.list)
  pub all_sent : HasAllSends config whole.list
  pub opens_same : OpensSame outside.opened outside.opened_now

-- how many packets the two sides of all calls send
abbrev pub packets_of : LoadSettings → ℕ
packets_of settings = 2 * settings.calls * settings.packets

-- what the first draws from the stream of the seed of these words are told as
abbrev pub first_draws : LoadSettings → ℕ → List KeyCall
first_draws settings count = stream.draws (stream.stream_of settings.seed).seed_words count

-- Devices in memory were driven as `DidLoadTurns` says, with as many threads of media as the words say lanes, and with these counts.
-- What their link took are the datagrams that make the calls, all of them and in order, and each reply was a success; each moment was 0; the keys
-- that were drawn are the first ones of the stream of the seed; and the in ends, which were all given back, gave just the packets that the two
-- sides of the calls send, all of them and in order
pub record RunsLoad (settings : LoadSettings) (gate : ℕ → Type 0) (totals : Totals) : Type 0 where
  pub outside : Outside
  pub counts : Counts
  pub calls : List LinkCall
  pub opened : List PortCall
  pub moments : List ℕ
  pub drawn : ℕ
  pub link : (outside.link ≡ Some []) × (outside.link_now ≡ Some calls)
  pub ports : (outside.opened ≡ Some []) × (outside.opened_now ≡ Some opened)
  pub timer : (outside.timer ≡ Some []) × (outside.timer_now ≡ Some moments)
  pub keys : (outside.drew ≡ Some []) × (outside.drew_now ≡ Some (first_draws settings drawn))
  pub did : DidLoadTurns 1000000 settings.config settings.lanes (Some (0, 0)) gate outside status.Ok counts totals
  pub heard : LogsLoad (2 * settings.calls) true calls
  pub at_zero : list_all (λ moment. moment == 0) moments ≡ true
  pub gave : HasGivenAll settings.config.interface settings.config.port_min settings.calls settings.packets (Some opened)
  pub all_taken : totals.taken ≡ packets_of settings

-- and one line was printed, or the sink did not take it
pub record DidLoad (settings : LoadSettings) (gate : ℕ → Type 0) (wrote wrote_now : Option (List WriteCall)) (answer : Status) : Type 0 where
  pub totals : Totals
  pub runs : RunsLoad settings gate totals
  pub printed : ((answer ≡ status.Ok) × Gave wrote wrote_now (put.Write (load_line settings.calls totals) true ∷ []))
      ⊎ ((answer ≡ status.PrintFault) × Gave wrote wrote_now (put.Write (load_line settings.calls totals) false ∷ []))

-- one of these devices, the link, the ports, the timer and the keys, tells nothing any more
abbrev pub IsUnlogged : Option (List LinkCall) → Option (List PortCall) → Option (List ℕ) → Option (List KeyCall) → Type 0
IsUnlogged link opened moments drew = (link ≡ None) ⊎ (opened ≡ None) ⊎ (moments ≡ None) ⊎ (drew ≡ None)

-- Why a load whose control turns ended with this status printed nothing, by what its link, its ports, its timer and its keys tell of their calls: one
-- of them tells nothing any more; or a reply is no success; or each is one, and the control turns didn't find the link's end; or, where they did, not all
-- datagrams were given, or other packets were taken than those of the calls
abbrev pub IsCutBy : Shortfall → LoadSettings → (link : Option (List LinkCall)) → (opened : Option (List PortCall)) → (moments : Option (List ℕ)) → (drew : Option (List KeyCall)) → Status → Totals → Type 0
IsCutBy why.Untold settings link opened moments drew ended totals = IsUnlogged link opened moments drew
IsCutBy why.ReplyFailed settings link opened moments drew ended totals = (calls : List LinkCall) × (link ≡ Some calls) × (list_all (λ reply. is_success reply.1) (sends calls) ≡ false)
IsCutBy why.TakeFailed settings link opened moments drew ended totals =
    (calls : List LinkCall) × (link ≡ Some calls) × (list_all (λ reply. is_success reply.1) (sends calls) ≡ true) × (ended ≡ status.Ok → ⊥)
IsCutBy why.EndsDiffer settings link opened moments drew ended totals =
    (calls : List LinkCall) × (ports : List PortCall) × (given : ℕ) × (closed : List ClosedEnd) × (link ≡ Some calls) × (opened ≡ Some ports) × (ended ≡ status.Ok)
    × LogsLoad given true calls × AreClosed ports closed
    × (given ≡ 2 * settings.calls → totals.taken ≡ packets_of settings → AreAllEnds settings.config.interface settings.config.port_min settings.calls settings.packets closed → ⊥)

-- Devices in memory, none of which was asked before, were driven as `DidLoadTurns` says, with as many threads of media as the words say lanes. Where the
-- control turns found the link's end, the lanes took as many datagrams as the sides of the calls send, or more. This is why no line was printed
pub record CutsShort (settings : LoadSettings) (gate : ℕ → Type 0) (cause : Shortfall) : Type 0 where
  pub outside : Outside
  pub ended : Status
  pub counts : Counts
  pub totals : Totals
  pub begun : (outside.link ≡ Some []) × (outside.opened ≡ Some []) × (outside.timer ≡ Some []) × (outside.drew ≡ Some [])
  pub did : DidLoadTurns 1000000 settings.config settings.lanes (Some (0, 0)) gate outside ended counts totals
  pub took : ended ≡ status.Ok → packets_of settings ≤ totals.taken
  pub cause_is : IsCutBy cause settings outside.link_now outside.opened_now outside.timer_now outside.drew_now ended totals

-- How a load with these words ended: it is as `DidLoad` says; or memory ran out before it was begun; or it was cut short. In the last two nothing was printed
abbrev pub EndsLoad : LoadSettings → (gate : ℕ → Type 0) → (wrote wrote_now : Option (List WriteCall)) → LoadEnd → Type 0
EndsLoad settings gate wrote wrote_now end.Finished = DidLoad settings gate wrote wrote_now status.Ok
EndsLoad settings gate wrote wrote_now end.PrintFault = DidLoad settings gate wrote wrote_now status.PrintFault
EndsLoad settings gate wrote wrote_now end.NotBegun = Gave wrote wrote_now []
EndsLoad settings gate wrote wrote_now (end.CutShort cause) = Gave wrote wrote_now [] × CutsShort settings gate cause

-- With words of `load`: the status tells how the load ended
abbrev pub Loads : Option LoadSettings → (gate : ℕ → Type 0) → (wrote wrote_now : Option (List WriteCall)) → Status → Type 0
Loads None gate wrote wrote_now answer = Unit {0}
Loads (Some settings) gate wrote wrote_now answer = (ended : LoadEnd) × (answer ≡ load_status ended) × EndsLoad settings gate wrote wrote_now ended

-- how a run of `load` may end
abbrev pub IsLoaded : Status → Type 0
IsLoaded status.Ok = Unit {0}
IsLoaded status.PrintFault = Unit {0}
IsLoaded status.OutOfMemory = Unit {0}
IsLoaded status.Usage = ⊥
IsLoaded status.ControlFault = ⊥
IsLoaded status.ScriptFault = ⊥
IsLoaded status.TurnsSpent = ⊥
IsLoaded status.ScriptRead = ⊥
