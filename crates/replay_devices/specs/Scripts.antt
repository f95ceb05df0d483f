-- The reads by which a script is read: which steps they stand for, and how they end.
use Rattle.std.specs.Prelude.{◌≡◌, ◌≤◌, ◌⊎◌, ℕ, List, [], ◌∷◌, ◌++◌, length}
use Rattle.std.specs.List.{AllZip}
use Rattle.relay_outside.specs.declared.lines.LineCall.{LineCall}
use Rattle.relay_outside.specs.declared.lines.LineCall.TheVariants as call
use Rattle.relay_outside.specs.declared.lines.LineGiven.{LineGiven}
use Rattle.relay_outside.specs.declared.lines.LineGiven.TheVariants as given
use Rattle.relay_script.specs.declared.step.Step as coded
use Rattle.relay_script.specs.Lines.{SpellsLine, IsOutside}
use Rattle.relay_script.specs.Steps.{Step}
use Rattle.replay_devices.specs.declared.script.Ending.{Ending}
use Rattle.replay_devices.specs.declared.script.Ending.TheVariants as ending

-- a script that was read: its steps, and how the reading ended
pub record ReadScript : Type 0 where
  pub steps : List coded.Step
  pub ending : Ending

-- a read into the buffer for a line, which holds one byte more than a line may have
abbrev pub read : LineGiven → LineCall
read what = call.Line 40001 what

-- the read gave a line that asks for this step
pub record ReadsStep (step : Step) (made : LineCall) : Type 0 where
  pub line : List ℕ
  pub read_is : made ≡ read (given.Text line)
  pub spells : SpellsLine line step

-- one read for each step, in order
abbrev pub ReadsSteps : List Step → List LineCall → Type 0
ReadsSteps steps calls = AllZip ReadsStep steps calls

-- After `count` steps the read gave a line that is not taken: it is outside the grammar, or the steps are as many as a script
-- may have. A line of which the buffer has only the front is outside too: it has more bytes than any line of the grammar
pub record ReadsOutside (count : ℕ) (made : LineCall) : Type 0 where
  pub line : List ℕ
  pub read_is : made ≡ read (given.Text line)
  pub refused : IsOutside line ⊎ (count ≡ 50000)

-- the last read, after `count` steps: it found no more lines, it failed, or it gave a line that is not taken
abbrev pub ReadsEnding : ℕ → Ending → LineCall → Type 0
ReadsEnding count ending.End made = made ≡ read given.End
ReadsEnding count ending.Fault made = made ≡ read given.Failed
ReadsEnding count ending.Outside made = ReadsOutside count made

-- a script of these steps, at most 50,000, and with this ending: a read for each step, and then one more, the last
pub record ReadsScript (steps : List Step) (ending : Ending) (calls : List LineCall) : Type 0 where
  pub before : List LineCall
  pub last : LineCall
  pub calls_are : calls ≡ before ++ last ∷ []
  pub each : ReadsSteps steps before
  pub most : length steps ≤ 50000
  pub ends : ReadsEnding (length steps) ending last

-- no read, or one that gave a line
abbrev pub ReadsLineOrNone : List LineCall → Type 0
ReadsLineOrNone [] = Unit {0}
ReadsLineOrNone (made ∷ []) = (line : List ℕ) × (made ≡ read (given.Text line))
ReadsLineOrNone (made ∷ again ∷ calls) = ⊥

-- the front of a script, as far as it was read: a read for each step, at most 50,000, and at most one line more
pub record ReadsFront (calls : List LineCall) : Type 0 where
  pub steps : List Step
  pub before : List LineCall
  pub more : List LineCall
  pub calls_are : calls ≡ before ++ more
  pub each : ReadsSteps steps before
  pub most : length steps ≤ 50000
  pub line : ReadsLineOrNone more
