-- Numbers in the words of a command line.
use Rattle.std.specs.Prelude.{ℕ, List, [], ◌∷◌, Bool, false, Option, Some, None, nat_le, ◌==◌, if◌then◌else◌}
use Rattle.sdp_text.specs.Pieces.{number, at_most}

-- whether a text of several bytes begins with a zero
abbrev pub has_leading_zero : List ℕ → Bool
has_leading_zero [] = false
has_leading_zero (first ∷ []) = false
has_leading_zero (first ∷ second ∷ more) = first == 48

-- a decimal number without a leading zero, `0` itself being allowed, and no greater than the limit
abbrev pub whole_number : ℕ → List ℕ → Option ℕ
whole_number limit text = if has_leading_zero text then None else at_most limit (number text)

-- the number, where it is no less than the limit
abbrev pub at_least : ℕ → Option ℕ → Option ℕ
at_least limit None = None
at_least limit (Some n) = if nat_le limit n then Some n else None

-- a whole number from the one limit to the other
abbrev pub number_within : ℕ → ℕ → List ℕ → Option ℕ
number_within least most text = at_least least (whole_number most text)
