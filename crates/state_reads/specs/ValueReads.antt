-- What the reads of one value show: the record that it is, or the line at fault.
use Rattle.std.specs.Prelude.{◌≡◌, ◌+◌, ℕ, List, length, map, Option, Some, None, Result, Ok, Err}
use Rattle.relay_outside.specs.declared.lines.LineCall.{LineCall}
use Rattle.state_lines.specs.declared.faults.LineFault.{LineFault}
use Rattle.state_lines.specs.declared.faults.LineFault.TheVariants.{NotState, Source, OutOfMemory}
use Rattle.state_lines.specs.LineReads.{text_read, IsLineAtFault, IsCutOff}
use Rattle.state_lines.specs.StateLines.{IsValue, IsValueText, value_lines}

-- these reads gave the lines of this text, behind so many lines, up to the line of this number
pub record ReadsText (earlier now : ℕ) (text : List ℕ) (calls : List LineCall) : Type 0 where
  pub fits : IsValueText text
  pub reads : calls ≡ map text_read (value_lines text)
  pub number : now ≡ earlier + length (value_lines text)

-- the value of a text that takes this record
pub record ReadsRecord {T : Type 0} (takes : List ℕ → T → Type 0) (saved : T) (earlier now : ℕ) (calls : List LineCall) : Type 0 where
  pub text : List ℕ
  pub is_read : ReadsText earlier now text calls
  pub taken : takes text saved

-- the value of a text that is refused; the line at fault is its last
pub record ReadsNone (refuses : List ℕ → Type 0) (earlier n : ℕ) (calls : List LineCall) : Type 0 where
  pub text : List ℕ
  pub is_read : ReadsText earlier n text calls
  pub refused : refuses text

-- The line of this number is at fault, the least of those of the value: it isn't the one that the form of a value demands there, or the source
-- ended before it; or it is the last of a value that is refused
pub data IsValueAtFault (refuses : List ℕ → Type 0) (earlier n : ℕ) (calls : List LineCall) : Type 0 where
  of_line : IsLineAtFault IsValue earlier n calls → IsValueAtFault refuses earlier n calls
  of_value : ReadsNone refuses earlier n calls → IsValueAtFault refuses earlier n calls

-- one value was read behind so many lines, or refused; memory may have been wanting
abbrev pub ReadsValue : {T : Type 0} → (List ℕ → T → Type 0) → (List ℕ → Type 0) → (earlier now : ℕ) → Result T LineFault → List LineCall → Type 0
ReadsValue takes refuses earlier now (Ok saved) calls = ReadsRecord takes saved earlier now calls
ReadsValue takes refuses earlier now (Err (NotState n)) calls = IsValueAtFault refuses earlier n calls
ReadsValue takes refuses earlier now (Err Source) calls = IsCutOff IsValue calls
ReadsValue takes refuses earlier now (Err OutOfMemory) calls = Unit {0}

-- what is told of a text whose last line has this number
abbrev pub told_of : {T E : Type 0} → ℕ → Result (Option T) E → Result T LineFault
told_of now (Ok (Some saved)) = Ok saved
told_of now (Ok None) = Err (NotState now)
told_of now (Err why) = Err OutOfMemory
