-- A run between two rounds, and after its last one.
use Rattle.std.specs.Prelude.{◌≡◌, ◌<◌, ◌≤◌, ◌^◌, ◌++◌, ℕ, List, [], length, Option, Some, None, is_some}
use Rattle.relay_outside.specs.declared.settings.Config.{Config}
use Rattle.relay_outside.specs.declared.ports.PortCall.{PortCall}
use Rattle.relay_outside.specs.DeviceLogs.{Gained, Rose}
use Rattle.turn_table.specs.declared.hands.Turns.{Turns}
use Rattle.turn_table.specs.declared.hands.Hand.{Hand}
use Rattle.turn_table.specs.Hands.{IsSameHand, entries}
use Rattle.call_board.specs.Acts.{Call}
use Rattle.relay_core.specs.declared.part.Part.{Part}
use Rattle.relay_core.specs.Records.{Made, list_of}
use Rattle.relay_core.specs.Turns.{made_by}
use Rattle.media_lane.specs.Visits.{Row}
use Rattle.media_lane.specs.Gates.{AreGated}
use Rattle.board_turns.specs.Between.{board_of, IsBetween, MakesTurn}
use Rattle.board_turns.specs.Ties.{AreTied}
use Rattle.media_lane.specs.Totals.{HasTotals}
use Rattle.board_turns.specs.Ticks.{tick_entry}
use Rattle.ng_server.specs.Servers.{OpensJust, history_of}
use Rattle.relay_runs.specs.declared.status.Status.{Status}
use Rattle.relay_runs.specs.declared.status.Status.TheVariants as status
use Rattle.relay_runs.specs.declared.totals.Counts.{Counts}
use Rattle.relay_runs.specs.declared.control_loop.Looped.{Looped}
use Rattle.command_line.specs.declared.settings.Settings.{Settings}
use Rattle.relay_runs.specs.Rounds.{ControlRound, history_after, moments, counted_from, is_second_later, AreControlRounds, SweepsAlone}
use Rattle.relay_runs.specs.ServeRuns.{Outside, Gave, OpensBy, draws_made, HaveCauses, counts_in, AreExchanges, last_take, HasEnded, AreLogged}

-- between two rounds: these are the rows so far, and from this moment the next second counts
pub record Running (config : Config) (threads : ℕ) (range : Option (ℕ × ℕ)) (rows : List Row) (counts : Counts) (since : Option ℕ) (outside : Outside) : Type 0 where
  pub rounds : List ControlRound
  pub are_rounds : AreControlRounds config threads range rounds rows
  pub board_is : board_of (list_of rows) ≡ history_after config rounds
  pub counts_are : counts ≡ counts_in rounds
  pub since_is : since ≡ counted_from rounds
  pub link : Gained outside.link outside.link_now (AreExchanges config rounds)
  pub timer : Gave outside.timer outside.timer_now (moments rounds)
  pub ports : Gained outside.opened outside.opened_now (OpensBy config (history_after config rounds))
  pub tied : Gained outside.opened outside.opened_now (AreTied config rows)
  pub keys : Gave outside.drew outside.drew_now (draws_made (history_after config rounds))
  pub causes : HaveCauses outside (history_after config rounds)

-- all control turns were made, and these are their rows with those of the sweeps between them
pub record DidTurns (limit : ℕ) (config : Config) (threads : ℕ) (range : Option (ℕ × ℕ)) (outside : Outside) (ended : Status) (counts : Counts) (rows : List Row) : Type 0 where
  pub rounds : List ControlRound
  pub last : List ℕ
  pub are_rounds : AreControlRounds config threads range rounds rows
  pub board_is : board_of (list_of rows) ≡ history_after config rounds
  pub counts_are : counts ≡ counts_in rounds
  pub has_ended : HasEnded ended limit counts.turns
  pub last_is : length last ≡ length (last_take ended)
  pub log : AreLogged config [] rounds last ended outside
  pub tied : Gained outside.opened outside.opened_now (AreTied config rows)

-- what follows a turn after which the run goes on: a sweep, where no thread relays media
pub record AddsSweep (config : Config) (threads : ℕ) (range : Option (ℕ × ℕ)) (before after : List Row) : Type 0 where
  pub rows : List Row
  pub are : after ≡ before ++ rows
  pub alone : SweepsAlone config threads range rows

-- the statuses with which the control turns end
abbrev pub IsLoopEnd : Status → Type 0
IsLoopEnd status.Ok = Unit {0}
IsLoopEnd status.ControlFault = Unit {0}
IsLoopEnd status.TurnsSpent = Unit {0}
IsLoopEnd status.OutOfMemory = ⊥
IsLoopEnd status.PrintFault = ⊥
IsLoopEnd status.Usage = ⊥
IsLoopEnd status.ScriptFault = ⊥
IsLoopEnd status.ScriptRead = ⊥

-- A tick.

module _ {M I O : Type 0} {g : _} where
  -- the hand made at this moment the tick that ended these calls, or nothing
  abbrev pub DidTick : Config → (old new : Hand M (Part I O) Made (Unit {0}) g) → ℕ → Option (List Call) → Type 0
  DidTick config old new now None = new ≡ old
  DidTick config old new now (Some calls) = MakesTurn config old new (tick_entry (board_of (made_by old)) now calls)

  -- it made a tick exactly where one is due, by the moment from which the second counts
  pub record TicksWhenDue (config : Config) (old new : Hand M (Part I O) Made (Unit {0}) g) (since : Option ℕ) (now : ℕ) : Type 0 where
    pub ticked : Option (List Call)
    pub when_due : is_some ticked ≡ is_second_later since now
    pub did : DidTick config old new now ticked

-- The control loop, as the work of one side.

module _ {M I O : Type 0} {g : _} where
  -- The main hand made nothing yet
  pub record MayRun (settings : Settings) (config : Config) (turns : Turns M (Part I O) Made (Unit {0})) (opened : Option (List PortCall)) (hand : Hand M (Part I O) Made (Unit {0}) g) : Type 0 where
    pub limit : settings.turns < 2 ^ 63
    pub config_is : config ≡ settings.config
    pub between : IsBetween config turns hand
    pub nothing : made_by hand ≡ []
    pub opens : OpensJust config (history_of hand) opened

  abbrev pub CanWork : Settings → Config → Turns M (Part I O) Made (Unit {0}) → Option (List PortCall) → Option (Hand M (Part I O) Made (Unit {0}) g) → Type 0
  CanWork settings config turns opened None = ⊥
  CanWork settings config turns opened (Some hand) = MayRun settings config turns opened hand

  -- All control turns were made, by this hand
  pub record MadeTurns (settings : Settings) (config : Config) (turns : Turns M (Part I O) Made (Unit {0})) (range : Option (ℕ × ℕ)) (gate : ℕ → Type 0) (outside : Outside)
      (link_faults link_faults_now : ℕ) (old new : Hand M (Part I O) Made (Unit {0}) g) (looped : Looped) : Type 0 where
    pub same : IsSameHand old new
    pub between : IsBetween config turns new
    pub opens : OpensJust config (history_of new) outside.opened_now
    pub did : DidTurns settings.turns config settings.threads range outside looped.status looped.counts (entries new)
    pub gated : AreGated gate (made_by new)
    pub totals : HasTotals (made_by new) looped.totals
    pub later : (link_faults ≤ link_faults_now) × (outside.port_faults ≤ outside.port_faults_now) × (outside.key_faults ≤ outside.key_faults_now)
    pub cause : looped.status ≡ status.ControlFault → Rose link_faults link_faults_now
    pub ends : IsLoopEnd looped.status

  abbrev pub DidWork : Settings → Config → Turns M (Part I O) Made (Unit {0}) → Option (ℕ × ℕ) → (ℕ → Type 0) → Outside → (link_faults link_faults_now : ℕ)
      → (old new : Option (Hand M (Part I O) Made (Unit {0}) g)) → Looped → Type 0
  DidWork settings config turns range gate outside faults faults_now (Some old) (Some new) looped =
      MadeTurns settings config turns range gate outside faults faults_now old new looped
  DidWork settings config turns range gate outside faults faults_now old new looped = ⊥
