-- What a replay writes.
use Rattle.std.specs.Prelude.{◌≡◌, ◌+◌, ◌⊎◌, ℕ, true, false, List, [], ◌∷◌, ◌++◌, Option, Some, None, map, length}
use Rattle.relay_outside.specs.DeviceLogs.{Gained}
use Rattle.relay_outside.specs.declared.lines.LineCall.{LineCall}
use Rattle.relay_outside.specs.declared.lines.WriteCall.{WriteCall}
use Rattle.relay_outside.specs.declared.lines.WriteCall.TheVariants.{Write}
use Rattle.relay_outside.specs.declared.settings.Config.{Config}
use Rattle.relay_core.specs.Entries.{Entry}
use Rattle.relay_script.specs.Steps.{Step}
use Rattle.relay_script.specs.EventLines.{Printed, ScriptFault, event_of, printed_line}
use Rattle.replay_devices.specs.declared.script.Ending.{Ending}
use Rattle.replay_devices.specs.declared.script.Ending.TheVariants as ending
use Rattle.replay_devices.specs.Scripts.{ReadsScript}
use Rattle.replay_devices.specs.declared.event_writer.WriteFault.{WriteFault}
use Rattle.replay_devices.specs.declared.event_writer.WriteFault.TheVariants as fault
use Rattle.replay_steps.specs.declared.ended.Ended.{Ended}
use Rattle.replay_steps.specs.declared.ended.Ended.TheVariants as ended
use Rattle.replay_steps.specs.declared.ended.Untold.{Untold}
use Rattle.replay_steps.specs.declared.ended.Untold.TheVariants as untold
use Rattle.replay_steps.specs.declared.step.Stepped.{Stepped}
use Rattle.replay_steps.specs.declared.step.Stepped.TheVariants as stepped
use Rattle.replay_steps.specs.Steps.{Course, at_first, calls_devices, Makes, IsFaulty, Plays, Stops}

-- the line of an event is written, with a line feed
abbrev pub written : Printed → WriteCall
written event = Write (printed_line event ++ 10 ∷ []) true

-- the write of it fails
abbrev pub unwritten : Printed → WriteCall
unwritten event = Write (printed_line event ++ 10 ∷ []) false

-- Some writes of which P holds, whether the sink tells or not; and a sink that tells was given just these, in order
pub record Wrote (wrote wrote_now : Option (List WriteCall)) (P : List WriteCall → Type 0) : Type 0 where
  pub writes : List WriteCall
  pub holds : P writes
  pub log : Gained wrote wrote_now (λ more. more ≡ writes)

-- how a replay ends where a line was not written
abbrev pub EndsUnwritten : WriteFault → Ended → Type 0
EndsUnwritten fault.OutOfMemory end = end ≡ ended.OutOfMemory
EndsUnwritten fault.Failed end = end ≡ ended.PrintFault

-- how a replay ends where it can't be told what a step did
abbrev pub ended_untold : Untold → Ended
ended_untold untold.OutOfMemory = ended.OutOfMemory
ended_untold untold.DeviceFault = ended.DeviceFault

-- One step.

-- what is written where the line of this number is faulty
abbrev pub DidTell : (line : ℕ) → Ended → List WriteCall → Type 0
DidTell line ended.ScriptFault writes = writes ≡ written (ScriptFault line) ∷ []
DidTell line ended.PrintFault writes = writes ≡ unwritten (ScriptFault line) ∷ []
DidTell line ended.OutOfMemory writes = writes ≡ []
DidTell line ended.Finished writes = ⊥
DidTell line ended.ScriptRead writes = ⊥
DidTell line ended.DeviceFault writes = ⊥

-- what is written of an event, after which the replay goes on or ends
abbrev pub DidPrint : Printed → Option Ended → List WriteCall → Type 0
DidPrint event None writes = writes ≡ written event ∷ []
DidPrint event (Some ended.PrintFault) writes = writes ≡ unwritten event ∷ []
DidPrint event (Some ended.OutOfMemory) writes = writes ≡ []
DidPrint event (Some ended.Finished) writes = ⊥
DidPrint event (Some ended.ScriptFault) writes = ⊥
DidPrint event (Some ended.ScriptRead) writes = ⊥
DidPrint event (Some ended.DeviceFault) writes = ⊥

-- what is written of a step of the line with this number, and how the replay ends by it
abbrev pub DidStep : Stepped → (line : ℕ) → Option Ended → List WriteCall → Type 0
DidStep stepped.Quiet line end writes = (end ≡ None) × (writes ≡ [])
DidStep (stepped.Prints event) line end writes = DidPrint (event_of event) end writes
DidStep stepped.Faulty line None writes = ⊥
DidStep stepped.Faulty line (Some end) writes = DidTell line end writes
DidStep (stepped.Untold why) line end writes = (end ≡ Some (ended_untold why)) × (writes ≡ [])

-- Several steps, from the first on.

-- all steps were made, the entries are these, and what they print was written
pub record Played (config : Config) (seed : ℕ) (steps : List Step) (l : List Entry) (writes : List WriteCall) : Type 0 where
  pub prints : List Printed
  pub course : Course
  pub plays : Plays config seed steps at_first prints course
  pub entries_are : course.entries ≡ l
  pub writes_are : writes ≡ map written prints

-- steps were made up to one that can't be, and then its line's number was written, from 1
pub record StopsAt (config : Config) (seed : ℕ) (steps : List Step) (l : List Entry) (writes : List WriteCall) : Type 0 where
  pub before : List Step
  pub step : Step
  pub after : List Step
  pub steps_are : steps ≡ before ++ step ∷ after
  pub prints : List Printed
  pub course : Course
  pub plays : Plays config seed before at_first prints course
  pub faulty : IsFaulty course step
  pub entries_are : course.entries ≡ l
  pub writes_are : writes ≡ map written (prints ++ ScriptFault (length before + 1) ∷ [])

-- the step prints this event: it was made, or can't be, and then it is the number of its line
abbrev pub Demands : Config → (seed : ℕ) → Course → Step → (line : ℕ) → Printed → Course → Type 0
Demands config seed r step line event new = Makes config seed r step (event ∷ []) new ⊎ (IsFaulty r step × (event ≡ ScriptFault line) × (new ≡ r))

-- steps were made, and what they print was written but for the last event, whose write failed
pub record FailsAt (config : Config) (seed : ℕ) (steps : List Step) (l : List Entry) (writes : List WriteCall) : Type 0 where
  pub before : List Step
  pub step : Step
  pub after : List Step
  pub steps_are : steps ≡ before ++ step ∷ after
  pub prints : List Printed
  pub course : Course
  pub plays : Plays config seed before at_first prints course
  pub event : Printed
  pub last : Course
  pub demands : Demands config seed course step (length before + 1) event last
  pub entries_are : last.entries ≡ l
  pub writes_are : writes ≡ map written prints ++ unwritten event ∷ []

-- some of the steps were made, and what these print was written
pub record PlayedSome (config : Config) (seed : ℕ) (steps : List Step) (writes : List WriteCall) : Type 0 where
  pub before : List Step
  pub after : List Step
  pub steps_are : steps ≡ before ++ after
  pub prints : List Printed
  pub course : Course
  pub plays : Plays config seed before at_first prints course
  pub writes_are : writes ≡ map written prints

-- steps were made up to one that calls devices, and what they print was written
pub record DiffersAt (config : Config) (seed : ℕ) (steps : List Step) (writes : List WriteCall) : Type 0 where
  pub before : List Step
  pub step : Step
  pub after : List Step
  pub steps_are : steps ≡ before ++ step ∷ after
  pub prints : List Printed
  pub course : Course
  pub plays : Plays config seed before at_first prints course
  pub calls : calls_devices step ≡ true
  pub writes_are : writes ≡ map written prints

-- what is written by steps, when all were made or the replay ended, and the entries are these
abbrev pub DidSteps : Config → (seed : ℕ) → List Step → List Entry → Option Ended → List WriteCall → Type 0
DidSteps config seed steps l None writes = Played config seed steps l writes
DidSteps config seed steps l (Some ended.ScriptFault) writes = StopsAt config seed steps l writes
DidSteps config seed steps l (Some ended.PrintFault) writes = FailsAt config seed steps l writes
DidSteps config seed steps l (Some ended.OutOfMemory) writes = PlayedSome config seed steps writes
DidSteps config seed steps l (Some ended.DeviceFault) writes = DiffersAt config seed steps writes
DidSteps config seed steps l (Some ended.Finished) writes = ⊥
DidSteps config seed steps l (Some ended.ScriptRead) writes = ⊥

-- The whole script.

-- what is written when all steps were made, by how the reading of the script ended
abbrev pub DidEnd : Ending → (line : ℕ) → Ended → List WriteCall → Type 0
DidEnd ending.End line end writes = (end ≡ ended.Finished) × (writes ≡ [])
DidEnd ending.Fault line end writes = (end ≡ ended.ScriptRead) × (writes ≡ [])
DidEnd ending.Outside line end writes = DidTell line end writes

-- what is written when the steps ended so, where not all were made
abbrev pub DidFinish : Option Ended → Ending → (line : ℕ) → Ended → List WriteCall → Type 0
DidFinish None how line end writes = DidEnd how line end writes
DidFinish (Some already) how line end writes = (end ≡ already) × (writes ≡ [])

-- all steps were made, and this is written after what they print
pub record PlayedAnd (config : Config) (seed : ℕ) (steps : List Step) (l : List Entry) (more : List WriteCall) (writes : List WriteCall) : Type 0 where
  pub front : List WriteCall
  pub played : Played config seed steps l front
  pub writes_are : writes ≡ front ++ more

-- a step can't be made; or all were made, the line after them is outside the grammar, and its number is told in the same way
abbrev pub AtFault : Config → (seed : ℕ) → List Step → Ending → List Entry → (List Step → List Entry → List WriteCall → Type 0) → WriteCall → List WriteCall → Type 0
AtFault config seed steps how l At last writes = At steps l writes ⊎ ((how ≡ ending.Outside) × PlayedAnd config seed steps l (last ∷ []) writes)

-- what is written by these steps, whose reading ended so, how the replay ended, and which entries it made
abbrev pub DidWrite : Config → (seed : ℕ) → List Step → Ending → Ended → List Entry → List WriteCall → Type 0
DidWrite config seed steps how ended.Finished l writes = (how ≡ ending.End) × Played config seed steps l writes
DidWrite config seed steps how ended.ScriptRead l writes = (how ≡ ending.Fault) × Played config seed steps l writes
DidWrite config seed steps how ended.ScriptFault l writes = AtFault config seed steps how l (StopsAt config seed) (written (ScriptFault (length steps + 1))) writes
DidWrite config seed steps how ended.PrintFault l writes = AtFault config seed steps how l (FailsAt config seed) (unwritten (ScriptFault (length steps + 1))) writes
DidWrite config seed steps how ended.OutOfMemory l writes = PlayedSome config seed steps writes
DidWrite config seed steps how ended.DeviceFault l writes = DiffersAt config seed steps writes

-- the same of some entries, after which all calls were stopped
abbrev pub DidPlay : Config → (seed : ℕ) → List Step → Ending → Ended → List WriteCall → Type 0
DidPlay config seed steps how ended.OutOfMemory writes = PlayedSome config seed steps writes
DidPlay config seed steps how ended.DeviceFault writes = DiffersAt config seed steps writes
DidPlay config seed steps how end writes = (l : List Entry) × DidWrite config seed steps how end l writes × Stops config l

-- One replay, whatever its devices tell: the steps of a script, how its reading ended, and what is written of them. Where the source tells, its
-- reads are those of these steps with this ending; where the sink tells, it was given just these writes
pub record DidReplay (config : Config) (seed : ℕ) (end : Ended) (read read_now : Option (List LineCall)) (wrote wrote_now : Option (List WriteCall)) : Type 0 where
  pub steps : List Step
  pub how : Ending
  pub writes : List WriteCall
  pub did : DidPlay config seed steps how end writes
  pub reads_are : Gained read read_now (ReadsScript steps how)
  pub writes_are : Gained wrote wrote_now (λ more. more ≡ writes)

-- if memory ran out, the script was perhaps not read to its end; then nothing was written
abbrev pub Replays : Config → (seed : ℕ) → Ended → (read read_now : Option (List LineCall)) → (wrote wrote_now : Option (List WriteCall)) → Type 0
Replays config seed ended.OutOfMemory read read_now wrote wrote_now =
    Gained wrote wrote_now (λ more. more ≡ []) ⊎ DidReplay config seed ended.OutOfMemory read read_now wrote wrote_now
Replays config seed end read read_now wrote wrote_now = DidReplay config seed end read read_now wrote wrote_now
