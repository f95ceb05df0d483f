-- What a script prints, as one text.
use Rattle.std.specs.Prelude.{ℕ, List, [], ◌∷◌, ◌++◌}
use Rattle.relay_outside.specs.declared.lines.WriteCall.{WriteCall}
use Rattle.relay_outside.specs.declared.lines.WriteCall.TheVariants.{Write}

-- the line that a call was given to write, with its line feed
abbrev pub line_written : WriteCall → List ℕ
line_written (Write line done) = line

-- the text of all these lines, one after the other
abbrev pub text_of_lines : List WriteCall → List ℕ
text_of_lines [] = []
text_of_lines (call ∷ calls) = line_written call ++ text_of_lines calls
