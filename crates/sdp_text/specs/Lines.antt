-- The lines of a description.
use Rattle.std.specs.Prelude.{◌+◌, sum_by, ℕ, List, [], ◌∷◌, length, if◌then◌else◌, ◌==◌, ◌&&◌, Bool, true}
use Rattle.std.specs.Str.Lines.{lines}

-- whether each line is empty
abbrev pub all_empty : List (List ℕ) → Bool
all_empty [] = true
all_empty (line ∷ more) = length line == 0 && all_empty more

-- the lines without the empty ones at the very end
abbrev pub without_empty_end : List (List ℕ) → List (List ℕ)
without_empty_end [] = []
without_empty_end (line ∷ more) = if all_empty (line ∷ more) then [] else line ∷ without_empty_end more

-- Lines end by LF, and one CR before it belongs to the end. The last line may lack its end.
abbrev pub lines_of : List ℕ → List (List ℕ)
lines_of text = without_empty_end (lines text)

-- how many bytes the lines have, with one for the end of each
abbrev pub size_of : List (List ℕ) → ℕ
size_of lines = sum_by (λ line. length line + 1) lines
