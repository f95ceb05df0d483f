-- A state in four numbers, one for each column, with the first row's byte the highest.
use Rattle.std.specs.Prelude.{ℕ, ◌≡◌, ◌<◌, ◌/◌, ◌%◌, List, [], ◌∷◌, ◌++◌, length, slice_index}
use Rattle.aes_ctr.specs.Aes.{mixed_byte, word_at, key_schedule}

-- the four bytes of a column
abbrev pub word_bytes : ℕ → List ℕ
word_bytes column = column / 16777216 % 256 ∷ column / 65536 % 256 ∷ column / 256 % 256 ∷ column % 256 ∷ []

-- the byte of a column in a row
abbrev pub byte_in : ℕ → ℕ → ℕ
byte_in row column = slice_index (word_bytes column) row

-- the state that four columns hold
abbrev pub column_bytes : List ℕ → List ℕ
column_bytes columns = word_bytes (slice_index columns 0) ++ word_bytes (slice_index columns 1) ++ word_bytes (slice_index columns 2) ++ word_bytes (slice_index columns 3)

-- a column after MixColumns, from its bytes before
abbrev pub mixed_bytes : ℕ → ℕ → ℕ → ℕ → List ℕ
mixed_bytes p q r s = mixed_byte p q r s ∷ mixed_byte q r s p ∷ mixed_byte r s p q ∷ mixed_byte s p q r ∷ []

-- these are the words of the schedule of a key, which has 16 bytes
pub record HoldsSchedule (words key : List ℕ) : Type 0 where
  pub long : length key ≡ 16
  pub each : (i : ℕ) → i < 44 → word_bytes (slice_index words i) ≡ word_at (key_schedule key) i
