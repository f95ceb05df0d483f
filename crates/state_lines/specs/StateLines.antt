-- The written form of a node's state: its lines, each without its line feed, in order.
use Rattle.std.specs.Prelude.{◌≡◌, ◌+◌, ◌*◌, ◌/◌, ◌<◌, ◌^◌, ℕ, List, [], ◌∷◌, ◌++◌, length, take, drop, map, codes, decimal}
use Rattle.std.specs.List.{flat_map, range_with_len, AllByRecursion}
use Rattle.hex.specs.Hex.{encode_lower, IsBytes}

-- the first line
abbrev pub heading : List ℕ
heading = codes "rtpengine-state 1"

-- the last line
abbrev pub end_line : List ℕ
end_line = codes "end"

-- the line above a value of so many bytes
abbrev pub length_line : ℕ → List ℕ
length_line bytes = codes "value " ++ decimal bytes

-- the bytes that one line of digits has, the first being 0: 8,000 of them, in the last line the rest
abbrev pub line_bytes : List ℕ → ℕ → List ℕ
line_bytes text number = take 8000 (drop (8000 * number) text)

-- how many lines of digits so many bytes have
abbrev pub line_count : ℕ → ℕ
line_count bytes = (bytes + 7999) / 8000

-- the lines of digits of a value: lower-case hexadecimal digits, two for each byte
abbrev pub digit_lines : List ℕ → List (List ℕ)
digit_lines text = map (λ number. encode_lower (line_bytes text number)) (range_with_len 0 (line_count (length text)))

-- all lines of a value
abbrev pub value_lines : List ℕ → List (List ℕ)
value_lines text = length_line (length text) ∷ digit_lines text

-- the lines of a state as far as these values
abbrev pub begun_lines : List (List ℕ) → List (List ℕ)
begun_lines values = heading ∷ flat_map value_lines values

-- all lines of a state of these values
abbrev pub state_lines : List (List ℕ) → List (List ℕ)
state_lines values = begun_lines values ++ end_line ∷ []

-- what a value is: bytes, in a number that 64 decimal digits write
pub record IsValueText (text : List ℕ) : Type 0 where
  pub bytes : IsBytes text
  pub counted : length text < 10 ^ 64

-- Forms: which lists of lines are whole.

-- this line alone
abbrev pub IsOneLine : List ℕ → List (List ℕ) → Type 0
IsOneLine line lines = lines ≡ line ∷ []

-- the lines of some value
pub record IsValue (lines : List (List ℕ)) : Type 0 where
  pub text : List ℕ
  pub fits : IsValueText text
  pub lines_are : lines ≡ value_lines text

-- the lines of digits of some value of so many bytes
pub record AreDigitLines (bytes : ℕ) (lines : List (List ℕ)) : Type 0 where
  pub text : List ℕ
  pub fits : IsValueText text
  pub length_is : length text ≡ bytes
  pub lines_are : lines ≡ digit_lines text

-- the lines of some state of so many values
pub record IsState (count : ℕ) (lines : List (List ℕ)) : Type 0 where
  pub values : List (List ℕ)
  pub many : length values ≡ count
  pub fit : AllByRecursion IsValueText values
  pub lines_are : lines ≡ state_lines values

-- some lines of this form begin with these
pub record IsFront (form : List (List ℕ) → Type 0) (lines : List (List ℕ)) : Type 0 where
  pub rest : List (List ℕ)
  pub whole : form (lines ++ rest)
