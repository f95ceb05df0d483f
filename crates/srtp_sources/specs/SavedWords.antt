-- How the 32 places of a table are saved.
use Rattle.std.specs.Prelude.{ℕ, ◌≡◌, ◌<◌, ◌^◌, List, length, All}
use Rattle.std.specs.List.{flat_map}
use Rattle.std.specs.Int.{w32, to_be_bytes}

-- words one after another, each in 4 bytes, the highest first
unfoldable pub saved_words : List ℕ → List ℕ
saved_words words = flat_map (to_be_bytes w32) words

-- 32 words of 32 bits
pub record FitsWords (words : List ℕ) : Type 0 where
  pub places : length words ≡ 32
  pub width : All (λ word. word < 2 ^ 32) words
