-- The power 254 is the inverse: its product with a byte other than 0 is 1.
use Rattle.std.proofs.Common.{◌≡◌, ℕ, zero, suc, ◌<◌, ◌≤◌, Bool, true, ◌&&◌, eqb, refl, arith, inl, inr, eqb-true}
use Rattle.std.proofs.lemmas.Bool.{and_parts, cases_lt}
use Rattle.aes_ctr.specs.Field.{sum_of_multiples, product, power, inverse}

-- each number from 1 to n has its inverse
unfoldable inverts_up_to : ℕ → Bool
inverts_up_to zero = true
inverts_up_to (suc n) = eqb (product (suc n) (inverse (suc n))) 1 && inverts_up_to n

inverts_all : inverts_up_to 255 ≡ true
unfolding inverts_up_to sum_of_multiples product power inverse
inverts_all = refl

inverts_up_to-at : (n b : ℕ) → inverts_up_to n ≡ true → 0 < b → b ≤ n → product b (inverse b) ≡ 1
unfolding inverts_up_to
inverts_up_to-at zero b h low high = absurd (omega arith)
inverts_up_to-at (suc n) b h low high =
    let parts = and_parts (eqb (product (suc n) (inverse (suc n))) 1) (inverts_up_to n) h in
    elim (cases_lt b (suc n)) [
      | inl below ↦ inverts_up_to-at n b parts.1 low (omega arith)
      | inr at ↦
          let same : b ≡ suc n = omega arith in
          rw same (eqb-true _ _ parts.0)
    ]

pub product-inverse : (b : ℕ) → 0 < b → b < 256 → product b (inverse b) ≡ 1
product-inverse b low high = inverts_up_to-at 255 b inverts_all low (omega arith)

-- and 0 stays
pub inverse-zero : inverse 0 ≡ 0
unfolding sum_of_multiples product power inverse
inverse-zero = refl
