-- The S-box's table is the inversion and the affine transformation of each byte.
use Rattle.std.proofs.Common.{◌≡◌, ℕ, zero, suc, ◌<◌, ◌+◌, Bool, true, ◌&&◌, List, [], ◌∷◌, length, eqb, get_or, refl, sym, arith, add-zero, zero-add, eqb-true}
use Rattle.std.proofs.lemmas.Bool.{and_parts}
use Rattle.aes_ctr.specs.Field.{sum_of_multiples, product, power, inverse, affine}
use Rattle.aes_ctr.specs.Aes.{sub_byte}
use Rattle.aes_ctr.specs.declared.substitution.TheConstants.{S_BOX}

-- from entry b on, each entry is what SubBytes puts in place of its index
unfoldable pub holds_from : ℕ → List ℕ → Bool
holds_from b [] = true
holds_from b (x ∷ xs) = eqb (sub_byte b) x && holds_from (b + 1) xs

table_holds : holds_from 0 S_BOX ≡ true
unfolding holds_from sum_of_multiples product power inverse affine sub_byte
table_holds = refl

holds_from-at : (b : ℕ) (xs : List ℕ) (i : ℕ) → holds_from b xs ≡ true → i < length xs → get_or xs i 0 ≡ sub_byte (b + i)
unfolding holds_from
holds_from-at b [] i h lt = absurd (omega arith)
holds_from-at b (x ∷ xs) zero h lt = rw add-zero (sym (eqb-true _ _ (and_parts (eqb (sub_byte b) x) (holds_from (b + 1) xs) h).0))
holds_from-at b (x ∷ xs) (suc i) h lt =
    let e : b + 1 + i ≡ b + suc i = omega arith in
    rw (← e) (holds_from-at (b + 1) xs i (and_parts (eqb (sub_byte b) x) (holds_from (b + 1) xs) h).1 (omega arith))

-- the table's entry for a byte
pub s_box_at : (b : ℕ) → b < 256 → get_or S_BOX b 0 ≡ sub_byte b
s_box_at b h = rw zero-add at (holds_from-at 0 S_BOX b table_holds h)
