-- What the reader of one line tells.
use Rattle.std.specs.Prelude.{◌≡◌, ℕ, List, Option, Result, Ok, Err}
use Rattle.relay_outside.specs.declared.answers.OutOfMemory.{OutOfMemory}
use Rattle.relay_outside.specs.declared.lines.LineCall.{LineCall}
use Rattle.relay_outside.specs.declared.lines.LineGiven.TheVariants as given
use Rattle.relay_outside.specs.DeviceLogs.{Gains, Rose}
use Rattle.relay_script.specs.Lines.{SpellsLine, IsOutside}
use Rattle.relay_script.specs.Steps.{step_meaning}
use Rattle.replay_devices.specs.declared.script_reader.Found.{Found}
use Rattle.replay_devices.specs.declared.script_reader.Found.TheVariants as found
use Rattle.replay_devices.specs.declared.script.Ending.TheVariants as ending
use Rattle.replay_devices.specs.Scripts.{read, ReadsStep, ReadsEnding}

-- what a line asks for, or that it is outside the grammar
abbrev pub Finds : List ℕ → Found → Type 0
Finds line (found.Step step) = SpellsLine line (step_meaning step)
Finds line (found.Ending last) = (last ≡ ending.Outside) × IsOutside line

-- what a read stands for, however many steps came before it
abbrev pub IsFoundBy : Found → LineCall → Type 0
IsFoundBy (found.Step step) made = ReadsStep (step_meaning step) made
IsFoundBy (found.Ending last) made = (count : ℕ) → ReadsEnding count last made

-- the same of the result; if memory ran out, the read gave some line
abbrev pub IsFoundOrShort : Result Found OutOfMemory → LineCall → Type 0
IsFoundOrShort (Ok found) made = IsFoundBy found made
IsFoundOrShort (Err fault) made = (line : List ℕ) × (made ≡ read (given.Text line))

-- one read, of which this holds
pub record OneRead (old new : Option (List LineCall)) (P : LineCall → Type 0) : Type 0 where
  pub made : LineCall
  pub gains : Gains old new made
  pub holds : P made

-- where the reading ended by a fault, the count of faults rose
abbrev pub FromFault : ℕ → ℕ → Found → Type 0
FromFault before now (found.Step step) = Unit {0}
FromFault before now (found.Ending last) = last ≡ ending.Fault → Rose before now
