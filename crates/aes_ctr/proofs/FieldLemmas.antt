-- The products that MixColumns and the round constants take.
use Rattle.std.proofs.Common.{◌≡◌, ℕ, zero, suc, ◌<◌, List, [], ◌∷◌, get_or, bit_xor, refl, ap, arith}
use Rattle.std.specs.Int.Bits.{xor_zero_r}
use Rattle.aes_ctr.specs.Aes.{round_constant}
use Rattle.aes_ctr.specs.Field.{times_x, sum_of_multiples, product, power}

pub product_two : (b : ℕ) → product 2 b ≡ times_x b
unfolding product sum_of_multiples
product_two b = xor_zero_r (times_x b)

pub product_three : (b : ℕ) → product 3 b ≡ bit_xor b (times_x b)
unfolding product sum_of_multiples
product_three b = ap (λ n. bit_xor b n) (xor_zero_r (times_x b))

-- the table of the round constants, with a place for 0
pub round_constant_at : (j : ℕ) → j < 11 → ◌≡◌ {A = List ℕ} (get_or (1 ∷ 1 ∷ 2 ∷ 4 ∷ 8 ∷ 16 ∷ 32 ∷ 64 ∷ 128 ∷ 27 ∷ 54 ∷ []) j 0 ∷ 0 ∷ 0 ∷ 0 ∷ []) (round_constant j)
unfolding power product sum_of_multiples
round_constant_at zero h = refl
round_constant_at (suc zero) h = refl
round_constant_at (suc (suc zero)) h = refl
round_constant_at (suc (suc (suc zero))) h = refl
round_constant_at (suc (suc (suc (suc zero)))) h = refl
round_constant_at (suc (suc (suc (suc (suc zero))))) h = refl
round_constant_at (suc (suc (suc (suc (suc (suc zero)))))) h = refl
round_constant_at (suc (suc (suc (suc (suc (suc (suc zero))))))) h = refl
round_constant_at (suc (suc (suc (suc (suc (suc (suc (suc zero)))))))) h = refl
round_constant_at (suc (suc (suc (suc (suc (suc (suc (suc (suc zero))))))))) h = refl
round_constant_at (suc (suc (suc (suc (suc (suc (suc (suc (suc (suc zero)))))))))) h = refl
round_constant_at (suc (suc (suc (suc (suc (suc (suc (suc (suc (suc (suc j))))))))))) h = absurd (omega arith)
