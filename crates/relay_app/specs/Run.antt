-- What one call of `run` does to its devices, for the words that it is handed.
use Rattle.std.specs.Prelude.{◌≡◌, ◌⊎◌, ℕ, Bool, true, List, [], ◌∷◌, Option, Some, None, nat_eq, codes}
use Rattle.std.specs.List.{starts_with}
use Rattle.relay_outside.specs.declared.lines.WriteCall.{WriteCall}
use Rattle.relay_outside.specs.declared.lines.WriteCall.TheVariants as put
use Rattle.relay_runs.specs.declared.status.Status.{Status}
use Rattle.relay_runs.specs.declared.status.Status.TheVariants as status
use Rattle.command_line.specs.declared.settings.Settings.{Settings}
use Rattle.command_line.specs.declared.settings.ReplaySettings.{ReplaySettings}
use Rattle.command_line.specs.declared.settings.LoadSettings.{LoadSettings}
use Rattle.relay_outside.specs.declared.lines.LineCall.{LineCall}
use Rattle.replay_steps.specs.declared.ended.Ended.{Ended}
use Rattle.replay_steps.specs.declared.ended.Ended.TheVariants as ended
use Rattle.replay_steps.specs.Output.{Replays}
use Rattle.relay_runs.specs.Loads.{IsLoaded}
use Rattle.relay_runs.specs.Run.{is_printed, IsServed}

-- a line was written with this answer, or with success, and then, with this answer, a text
abbrev pub PrintsLine : (line : List ℕ) → Bool → List WriteCall → Type 0
PrintsLine line answer writes =
    (writes ≡ put.Write line answer ∷ [])
    ⊎ ((text : List ℕ) × (writes ≡ put.Write line true ∷ put.Write text answer ∷ []))

-- the usage: a line, and then, where the reader of options refused the words, its text; nothing where it is out of memory
abbrev pub PrintsUsage : Status → List WriteCall → Type 0
PrintsUsage status.OutOfMemory writes = writes ≡ []
PrintsUsage answer writes = (line : List ℕ) × PrintsLine line (is_printed answer) writes × (starts_with nat_eq line (codes "usage: rtpengine") ≡ true)

-- how a run of `replay` may end
abbrev pub IsReplayed : Status → Type 0
IsReplayed status.Ok = Unit {0}
IsReplayed status.PrintFault = Unit {0}
IsReplayed status.OutOfMemory = Unit {0}
IsReplayed status.ScriptFault = Unit {0}
IsReplayed status.ScriptRead = Unit {0}
IsReplayed status.ControlFault = ⊥
IsReplayed status.TurnsSpent = ⊥
IsReplayed status.Usage = ⊥

-- the status is one of the command that the words are of; it is Usage, or PrintFault in its place, only where they are of none
abbrev pub StatusByWords : Option Settings → Option ReplaySettings → Option LoadSettings → Status → Type 0
StatusByWords None None None answer = (answer ≡ status.Usage) ⊎ (answer ≡ status.PrintFault) ⊎ (answer ≡ status.OutOfMemory)
StatusByWords None None (Some load) answer = IsLoaded answer
StatusByWords None (Some replay) load answer = IsReplayed answer
StatusByWords (Some settings) replay load answer = IsServed answer

-- how the end of a replay is told by a status: OutOfMemory tells two, want of memory and a device in memory that did otherwise than the script says
abbrev pub status_of : Ended → Status
status_of ended.Finished = status.Ok
status_of ended.ScriptFault = status.ScriptFault
status_of ended.ScriptRead = status.ScriptRead
status_of ended.PrintFault = status.PrintFault
status_of ended.OutOfMemory = status.OutOfMemory
status_of ended.DeviceFault = status.OutOfMemory

-- A replay with the configuration and the seed of the words, which ended in a way that the status tells
pub record EndsReplay (replay : ReplaySettings) (answer : Status) (read read_now : Option (List LineCall)) (wrote wrote_now : Option (List WriteCall)) : Type 0 where
  pub end : Ended
  pub answer_is : answer ≡ status_of end
  pub replays : Replays replay.config replay.seed end read read_now wrote wrote_now

-- what a run of `replay` did: there is nothing to say where the words are of another command
abbrev pub ReplayedBy : Option Settings → Option ReplaySettings → Status → (read read_now : Option (List LineCall)) → (wrote wrote_now : Option (List WriteCall)) → Type 0
ReplayedBy None (Some replay) answer read read_now wrote wrote_now = EndsReplay replay answer read read_now wrote wrote_now
ReplayedBy settings replay answer read read_now wrote wrote_now = Unit {0}

-- the words are those of `replay`
abbrev pub AreOfReplay : Option Settings → Option ReplaySettings → Type 0
AreOfReplay None (Some replay) = Unit {0}
AreOfReplay settings replay = ⊥
