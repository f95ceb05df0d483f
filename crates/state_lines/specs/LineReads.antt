-- The reads by which lines of a form are read, and which line is at fault.
use Rattle.std.specs.Prelude.{◌≡◌, ◌+◌, ◌<◌, ℕ, List, [], ◌∷◌, ◌++◌, length, map, Result, Ok, Err}
use Rattle.relay_outside.specs.declared.lines.LineCall.{LineCall}
use Rattle.relay_outside.specs.declared.lines.LineCall.TheVariants as call
use Rattle.relay_outside.specs.declared.lines.LineGiven.{LineGiven}
use Rattle.relay_outside.specs.declared.lines.LineGiven.TheVariants as given
use Rattle.state_lines.specs.declared.faults.LineFault.{LineFault}
use Rattle.state_lines.specs.declared.faults.LineFault.TheVariants.{NotState, Source, OutOfMemory}
use Rattle.state_lines.specs.StateLines.{IsOneLine, IsFront}

-- a read into the room for a line, which holds one byte more than a line has at most: one that fills it is longer than any of the form
abbrev pub read_of : LineGiven → LineCall
read_of what = call.Line 16001 what

-- a read that gave this line
abbrev pub text_read : List ℕ → LineCall
text_read line = read_of (given.Text line)

-- The reads gave the front of some lines of the form, yet not all of them, and the last read gave this
pub record ReadsUpTo (form : List (List ℕ) → Type 0) (before : List (List ℕ)) (last : LineGiven) (calls : List LineCall) : Type 0 where
  pub reads : calls ≡ map text_read before ++ read_of last ∷ []
  pub front : IsFront form before
  pub unfinished : form before → ⊥

-- no lines of the form begin with the lines before and the line that was given; or there was none
abbrev pub BreaksForm : (List (List ℕ) → Type 0) → List (List ℕ) → LineGiven → Type 0
BreaksForm form before (given.Text line) = IsFront form (before ++ line ∷ []) → ⊥
BreaksForm form before given.End = Unit {0}
BreaksForm form before given.Failed = ⊥

-- Line n is at fault, the least of those read: all before it are the front of some lines of the form, which would go on, and it isn't the
-- line that the form demands there, or the source ended before it. Lines are counted from 1, and so many were read earlier
pub record IsLineAtFault (form : List (List ℕ) → Type 0) (earlier n : ℕ) (calls : List LineCall) : Type 0 where
  pub before : List (List ℕ)
  pub last : LineGiven
  pub reads : ReadsUpTo form before last calls
  pub breaks : BreaksForm form before last
  pub number : n ≡ earlier + length before + 1

-- the front of some lines of the form, and then a read that failed
pub record IsCutOff (form : List (List ℕ) → Type 0) (calls : List LineCall) : Type 0 where
  pub before : List (List ℕ)
  pub reads : ReadsUpTo form before given.Failed calls

-- no read, or one that gave a line
abbrev pub AreOneLineAtMost : List LineCall → Type 0
AreOneLineAtMost [] = Unit {0}
AreOneLineAtMost (made ∷ []) = (line : List ℕ) × (made ≡ text_read line)
AreOneLineAtMost (made ∷ again ∷ calls) = ⊥

-- the front of some lines of the form, and perhaps one more line
pub record IsGivenUp (form : List (List ℕ) → Type 0) (calls : List LineCall) : Type 0 where
  pub before : List (List ℕ)
  pub more : List LineCall
  pub reads : calls ≡ map text_read before ++ more
  pub front : IsFront form before
  pub line : AreOneLineAtMost more

-- the reads after which lines of this form are refused
abbrev pub RefusesForm : (List (List ℕ) → Type 0) → (earlier : ℕ) → LineFault → List LineCall → Type 0
RefusesForm form earlier (NotState n) calls = IsLineAtFault form earlier n calls
RefusesForm form earlier Source calls = IsCutOff form calls
RefusesForm form earlier OutOfMemory calls = IsGivenUp form calls

-- the one read that gave this line, or those after which it is refused
abbrev pub ReadsOneLine : List ℕ → (earlier : ℕ) → Result Unit LineFault → List LineCall → Type 0
ReadsOneLine line earlier (Ok done) calls = calls ≡ text_read line ∷ []
ReadsOneLine line earlier (Err fault) calls = RefusesForm (IsOneLine line) earlier fault calls

-- the line at fault is the last that was asked for
abbrev pub IsLastLine : (earlier now : ℕ) → LineFault → Type 0
IsLastLine earlier now (NotState n) = (earlier < n) × (n ≡ now)
IsLastLine earlier now fault = Unit {0}
