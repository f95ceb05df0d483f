-- What the line sources in memory give.
use Rattle.std.specs.Prelude.{◌≡◌, ℕ, min, Option, List, [], ◌∷◌, length, take}
use Rattle.relay_outside.specs.declared.answers.LineRead.{LineRead}
use Rattle.relay_outside.specs.declared.answers.LineRead.TheVariants as read
use Rattle.relay_outside.specs.declared.lines.LineCall.{LineCall}
use Rattle.relay_outside.specs.Failures.{Failures}

-- a line source in memory: its log, and the lines that are left
pub record LinesTape : Type 0 where
  pub log : Option (List LineCall)
  pub lines : List (List ℕ)

-- a line source in memory whose reads may fail
pub record LinesState : Type 0 where
  pub log : Option (List LineCall)
  pub lines : List (List ℕ)
  pub failures : Failures

-- a read gives the front of the list, cut at the room of the buffer; after the list, the end
abbrev pub GivesLine : List (List ℕ) → List (List ℕ) → LineRead → List ℕ → Type 0
GivesLine [] left answer buf = (answer ≡ read.End) × (left ≡ [])
GivesLine (line ∷ lines) left answer buf =
    let len = min (length line) (length buf) in
    (answer ≡ read.Text len) × (take len buf ≡ take len line) × (left ≡ lines)
