-- A number of 16 bytes, and the four columns in it.
use Rattle.std.proofs.Common.{◌≡◌, ℕ, ◌+◌, ◌/◌, ◌%◌, ◌^◌, [], ◌∷◌, bit_and, refl, ap, ◌∙◌, shr-shr, arith}
use Rattle.std.specs.Int.{w128, to_be_bytes}
use Rattle.std.proofs.lemmas.Nat.{and_mask}
use Rattle.aes_ctr.specs.Columns.{word_bytes, column_bytes}
use Rattle.aes_ctr.proofs.Columns.{same_word, same_state}

-- numbers alike in their low 32 bits have the same four low bytes
low_bytes : (c a : ℕ) → c % 4294967296 ≡ a % 4294967296 → word_bytes c ≡ word_bytes a
low_bytes c a same = same_word (omega (arith, same)) (omega (arith, same)) (omega (arith, same)) (omega (arith, same))

-- a column that has the 32 bits of a number from bit j on
column_in : (n j c : ℕ) → c % 4294967296 ≡ n / 2 ^ j % 4294967296
    → word_bytes c ≡ n / 2 ^ (j + 24) % 256 ∷ n / 2 ^ (j + 16) % 256 ∷ n / 2 ^ (j + 8) % 256 ∷ n / 2 ^ j % 256 ∷ []
column_in n j c same =
    let at = λ (k : ℕ). ap (λ a. a % 256) (shr-shr n j k) in
    low_bytes c (n / 2 ^ j) same ∙ same_word (at 24) (at 16) (at 8) refl

-- four columns that have the bits of a number, the first the highest
pub columns_in : (n a b c d : ℕ) → a % 4294967296 ≡ n / 2 ^ 96 % 4294967296 → b % 4294967296 ≡ n / 2 ^ 64 % 4294967296
    → c % 4294967296 ≡ n / 2 ^ 32 % 4294967296 → d % 4294967296 ≡ n % 4294967296 → column_bytes (a ∷ b ∷ c ∷ d ∷ []) ≡ to_be_bytes w128 n
columns_in n a b c d ea eb ec ed =
    same_state (column_in n 96 a ea) (column_in n 64 b eb) (column_in n 32 c ec) (low_bytes d n ed)

pub masked : (a : ℕ) → bit_and a 4294967295 % 4294967296 ≡ a % 4294967296
masked a = let is : bit_and a 4294967295 ≡ a % 4294967296 = and_mask a 32 in omega (arith, is)
