-- Keys of other lengths differ.
use Rattle.std.proofs.Common.{◌≡◌, ◌≢◌, ℕ, List, [], ◌∷◌, Bool, true, false, ◌&&◌, length, refl, arith}
use Rattle.ng_bencode.specs.Lookup.{is_same_key}

and_false : (b c : Bool) → c ≡ false → (b && c) ≡ false
and_false true c e = e
and_false false c e = refl

pub other_length : (a b : List ℕ) → length a ≢ length b → is_same_key a b ≡ false
other_length [] [] differ = absurd (differ refl)
other_length [] (y ∷ b) differ = refl
other_length (x ∷ a) [] differ = refl
other_length (x ∷ a) (y ∷ b) differ =
    and_false _ _ (other_length a b (λ e. differ (omega (arith, e))))
