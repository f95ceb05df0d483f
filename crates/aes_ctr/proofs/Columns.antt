-- The columns of a state, byte by byte.
use Rattle.std.proofs.Common.{◌≡◌, ℕ, zero, suc, ◌/◌, ◌%◌, ◌^◌, ◌<◌, List, [], ◌∷◌, ◌++◌, length, map, get_or, bit_xor, refl, ap, sym, ◌∙◌, arith}
use Rattle.std.specs.Int.{w32, from_be_bytes}
use Rattle.std.specs.List.{range_with_len}
use Rattle.std.proofs.lemmas.Nat.{xor_shr, xor_mod, be_bytes_4}
use Rattle.std.proofs.lemmas.List.{ext_get_or}
use Rattle.std.proofs.lemmas.List.FromFn.{length-map-range_with_len, get_or-map-range_with_len}
use Rattle.aes_ctr.specs.Aes.{add_words}
use Rattle.aes_ctr.specs.Columns.{word_bytes}

pub same_word : {a b c d a' b' c' d' : ℕ} → a ≡ a' → b ≡ b' → c ≡ c' → d ≡ d' → ◌≡◌ {A = List ℕ} (a ∷ b ∷ c ∷ d ∷ []) (a' ∷ b' ∷ c' ∷ d' ∷ [])
same_word ea eb ec ed = rw (ea, eb, ec, ed) refl

pub same_state : {a b c d a' b' c' d' : List ℕ} → a ≡ a' → b ≡ b' → c ≡ c' → d ≡ d' → a ++ b ++ c ++ d ≡ a' ++ b' ++ c' ++ d'
same_state ea eb ec ed = rw (ea, eb, ec, ed) refl

-- the exclusive or of two columns is that of their bytes
byte_of_xor : (a b k : ℕ) → bit_xor a b / 2 ^ k % 2 ^ 8 ≡ bit_xor (a / 2 ^ k % 2 ^ 8) (b / 2 ^ k % 2 ^ 8)
byte_of_xor a b k = ap (λ n. n % 2 ^ 8) (xor_shr a b k) ∙ xor_mod (a / 2 ^ k) (b / 2 ^ k) 8

pub word_bytes-xor : (a b : ℕ) → word_bytes (bit_xor a b) ≡ add_words (word_bytes a) (word_bytes b)
word_bytes-xor a b = same_word (byte_of_xor a b 24) (byte_of_xor a b 16) (byte_of_xor a b 8) (xor_mod a b 8)

-- the column of four bytes
pub word_bytes-read : (a b c d n : ℕ) → a < 256 → b < 256 → c < 256 → d < 256 → n ≡ from_be_bytes w32 (a ∷ b ∷ c ∷ d ∷ [])
    → word_bytes n ≡ a ∷ b ∷ c ∷ d ∷ []
word_bytes-read a b c d n la lb lc ld is = be_bytes_4 (a ∷ b ∷ c ∷ d ∷ []) n refl small is
  where
    small : (i : ℕ) → get_or (a ∷ b ∷ c ∷ d ∷ []) i 0 < 256
    small zero = la
    small (suc zero) = lb
    small (suc (suc zero)) = lc
    small (suc (suc (suc zero))) = ld
    small (suc (suc (suc (suc i)))) = omega arith

-- a list of 16 is its 16 elements
pub whole_state : (s : List ℕ) → length s ≡ 16 → map (λ k. get_or s k 0) (range_with_len 0 16) ≡ s
whole_state s long =
    let size : length (map (λ k. get_or s k 0) (range_with_len 0 16)) ≡ 16 = length-map-range_with_len (λ (k : ℕ). get_or s k 0) 0 16 in
    ext_get_or 0 _ _ (size ∙ sym long) (λ i h. get_or-map-range_with_len (λ (k : ℕ). get_or s k 0) 0 16 i i 0 (omega (arith, size)) (omega arith))
