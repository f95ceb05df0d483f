-- What the steps of reading a crypto line look for.
use Rattle.std.specs.Prelude.{◌≡◌, ◌≢◌, ℕ, ◌<◌, ◌≤◌, List, ◌++◌, length, slice_index, replicate}
use Rattle.std.specs.Str.Parse.{IsNumeral}

-- as many digits as a tag has: one to nine, with no leading zero
pub record IsTagNumeral (digits : List ℕ) : Type 0 where
  pub some : 0 < length digits
  pub short : length digits ≤ 9
  pub no_leading_zero : 1 < length digits → slice_index digits 0 ≢ 48

-- one digit or more, and then nothing but spaces
pub record IsNumberThenSpaces (text : List ℕ) : Type 0 where
  pub digits : List ℕ
  pub spaces : ℕ
  pub is_numeral : IsNumeral 10 digits
  pub text_is : text ≡ digits ++ replicate spaces 32
