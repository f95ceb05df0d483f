-- The writes by which lines are written, and how far they came.
use Rattle.std.specs.Prelude.{◌≡◌, ℕ, List, [], ◌∷◌, ◌++◌, map, Bool, true, false, Result, Ok, Err}
use Rattle.relay_outside.specs.declared.answers.Failed.{Failed}
use Rattle.relay_outside.specs.declared.lines.WriteCall.{WriteCall}
use Rattle.relay_outside.specs.declared.lines.WriteCall.TheVariants.{Write}

-- a line was written with its line feed, or that write failed
abbrev pub line_write : Bool → List ℕ → WriteCall
line_write done line = Write (line ++ 10 ∷ []) done

-- the writes came to a line, and its write failed: all before it were written, and it was the last
pub record StopsWithin (lines : List (List ℕ)) (calls : List WriteCall) : Type 0 where
  pub before : List (List ℕ)
  pub line : List ℕ
  pub rest : List (List ℕ)
  pub lines_are : lines ≡ before ++ line ∷ rest
  pub writes : calls ≡ map (line_write true) before ++ line_write false line ∷ []

-- all lines were written, in order, or the writes stopped
abbrev pub WritesLines : List (List ℕ) → Result Unit Failed → List WriteCall → Type 0
WritesLines lines (Ok done) calls = calls ≡ map (line_write true) lines
WritesLines lines (Err failed) calls = StopsWithin lines calls
