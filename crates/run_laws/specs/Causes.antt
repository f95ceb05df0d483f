-- What the calls of the control link were in a run of `serve`, by the status with which it ended.
use Rattle.std.specs.Prelude.{◌≡◌, ◌⊎◌, ℕ, true, false, List, [], ◌∷◌, count_by}
use Rattle.histories.specs.Words.{In}
use Rattle.relay_outside.specs.declared.lines.WriteCall.{WriteCall}
use Rattle.relay_outside.specs.declared.lines.WriteCall.TheVariants.{Write}
use Rattle.relay_outside.specs.declared.link.LinkCall.{LinkCall}
use Rattle.relay_outside.specs.declared.link.LinkCall.TheVariants as call
use Rattle.relay_outside.specs.declared.link.LinkGiven.TheVariants as given
use Rattle.command_line.specs.declared.settings.Settings.{Settings}
use Rattle.relay_runs.specs.declared.status.Status.{Status}
use Rattle.relay_runs.specs.declared.status.Status.TheVariants as status
use Rattle.relay_runs.specs.ServeRuns.{is_turn}

-- one of the takes found the end of the link
abbrev pub ReachesEnd : List LinkCall → Type 0
ReachesEnd calls = In (call.Take 16385 given.End) calls

-- one of the takes failed
abbrev pub HasReadFault : List LinkCall → Type 0
HasReadFault calls = In (call.Take 16385 given.Failed) calls

-- one of the writes failed
abbrev pub WritesFailed : List WriteCall → Type 0
WritesFailed writes = (text : List ℕ) × In (Write text false) writes

-- The calls of the link in a run that ended so: with Ok a take found its end; with ControlFault the bind failed, and nothing else was called, or a
-- take failed; with TurnsSpent as many takes as the words allow gave a datagram or nothing; with PrintFault it was bound; with OutOfMemory it was not
-- called. With a status of another command nothing is
abbrev pub IsCausedBy : Settings → List LinkCall → Status → Type 0
IsCausedBy settings calls status.Ok = ReachesEnd calls
IsCausedBy settings calls status.ControlFault = ((calls ≡ call.Bind settings.listen false ∷ []) ⊎ HasReadFault calls) × (ReachesEnd calls → ⊥)
IsCausedBy settings calls status.TurnsSpent = (count_by is_turn calls ≡ settings.turns) × (ReachesEnd calls → ⊥)
IsCausedBy settings calls status.PrintFault = In (call.Bind settings.listen true) calls
IsCausedBy settings calls status.OutOfMemory = calls ≡ []
IsCausedBy settings calls status.Usage = ⊥
IsCausedBy settings calls status.ScriptFault = ⊥
IsCausedBy settings calls status.ScriptRead = ⊥
