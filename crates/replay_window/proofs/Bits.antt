-- One bit of shifted and of marked bits, at 128 bits.
use Rattle.std.proofs.Common.{◌≡◌, ℕ, ◌+◌, ◌-◌, ◌*◌, ◌/◌, ◌%◌, ◌^◌, ◌<◌, ◌≤◌, arith, sym, ◌∙◌, ap, add-zero}
use Rattle.std.specs.Int.{bit_at}
use Rattle.std.proofs.lemmas.Nat.{pow_pos}
use Rattle.std.proofs.lemmas.Nat.Bits.{bit_at_cat_low, bit_at_cat_high, bit_at-zero}

-- the remainder by 2 ^ 128 has the same bits up to there
pub bit_of_rest : (n k : ℕ) → k < 128 → bit_at (n % 2 ^ 128) k ≡ bit_at n k
bit_of_rest n k within =
    let parts : n / 2 ^ 128 * 2 ^ 128 + n % 2 ^ 128 ≡ n = omega arith in
    sym (bit_at_cat_low (n / 2 ^ 128) 128 (n % 2 ^ 128) k within) ∙ ap (λ m. bit_at m k) parts

pub shifted_low : (n gap k : ℕ) → gap < 128 → k < gap → bit_at (n * 2 ^ gap % 2 ^ 128) k ≡ 0
shifted_low n gap k within low =
    bit_of_rest (n * 2 ^ gap) k (omega arith)
    ∙ ap (λ m. bit_at m k) (sym (add-zero (n * 2 ^ gap))) ∙ bit_at_cat_low n gap 0 k low ∙ bit_at-zero k

pub shifted_high : (n gap k : ℕ) → gap ≤ k → k < 128 → bit_at (n * 2 ^ gap % 2 ^ 128) k ≡ bit_at n (k - gap)
shifted_high n gap k high within =
    bit_of_rest (n * 2 ^ gap) k within
    ∙ ap (λ m. bit_at m k) (sym (add-zero (n * 2 ^ gap))) ∙ bit_at_cat_high n gap 0 k (pow_pos gap) high
