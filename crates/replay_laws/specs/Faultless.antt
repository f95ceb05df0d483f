-- A script without a fault, and how its replays end.
use Rattle.std.specs.Prelude.{◌≡◌, ℕ, false, List, ◌∷◌, ◌++◌}
use Rattle.histories.specs.Words.{In}
use Rattle.relay_outside.specs.declared.lines.WriteCall.{WriteCall}
use Rattle.relay_outside.specs.declared.lines.WriteCall.TheVariants.{Write}
use Rattle.relay_outside.specs.declared.settings.Config.{Config}
use Rattle.call_board.specs.Acts.{Control, OutOfMemory, Turn}
use Rattle.relay_core.specs.Entries.{Entry, Board}
use Rattle.relay_script.specs.EventLines.{Printed}
use Rattle.relay_script.specs.Steps.{Step}
use Rattle.replay_devices.specs.declared.script.Ending.{Ending}
use Rattle.replay_devices.specs.declared.script.Ending.TheVariants as ending
use Rattle.replay_steps.specs.declared.ended.Ended.{Ended}
use Rattle.replay_steps.specs.declared.ended.Ended.TheVariants as ended
use Rattle.replay_steps.specs.Steps.{Course, at_first, IsFaulty, Plays, Stops}
use Rattle.replay_steps.specs.Output.{StopsAt}
use Rattle.replay_laws.specs.Alike.{NeverOutOfMemory}

-- A script of these steps, whose reading ends so, has no fault: no line is outside the grammar, nor are there too many; and each step can be made
-- where those before it come to, if no turn answers that memory ran out
pub record IsFaultless (config : Config) (seed : ℕ) (steps : List Step) (how : Ending) : Type 0 where
  pub inside : how ≡ ending.Outside → ⊥
  pub can_be_made : (before behind : List Step) (step : Step) (prints : List Printed) (course : Course) → steps ≡ before ++ step ∷ behind
      → Plays config seed before at_first prints course → Stops config course.entries → NeverOutOfMemory course.entries → IsFaulty course step → ⊥

-- one of the writes failed
abbrev pub HasFailed : List WriteCall → Type 0
HasFailed writes = (text : List ℕ) × In (Write text false) writes

-- a turn of the list answered that memory ran out (E17)
pub record RunsOut (l : List Entry) : Type 0 where
  pub entry : Entry
  pub control : Control
  pub is_in : In entry l
  pub is_turn : entry.event ≡ Board (Turn control)
  pub ran_out : control.act ≡ OutOfMemory

-- a step could not be made, and before it a turn of the board answered that memory ran out
pub record RanOut (config : Config) (seed : ℕ) (steps : List Step) (writes : List WriteCall) : Type 0 where
  pub entries : List Entry
  pub stops : StopsAt config seed steps entries writes
  pub stopped : Stops config entries
  pub unfed : RunsOut entries

-- How a replay of a script without a fault ends: it finishes; or the source failed, or a write; or a device in memory did otherwise than the
-- script says; or memory ran out, for the replay, or as the reply to a control datagram before a step that could not be made then says
abbrev pub EndsFaultless : Config → (seed : ℕ) → List Step → Ending → Ended → List WriteCall → Type 0
EndsFaultless config seed steps how ended.Finished writes = how ≡ ending.End
EndsFaultless config seed steps how ended.ScriptRead writes = how ≡ ending.Fault
EndsFaultless config seed steps how ended.PrintFault writes = HasFailed writes
EndsFaultless config seed steps how ended.OutOfMemory writes = Unit {0}
EndsFaultless config seed steps how ended.DeviceFault writes = Unit {0}
EndsFaultless config seed steps how ended.ScriptFault writes = RanOut config seed steps writes
