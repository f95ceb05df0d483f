-- Lists read from the front.
use Rattle.std.proofs.Common.{◌≡◌, ℕ, zero, suc, Bool, List, [], ◌∷◌, length, take, drop, Some, refl, ap}
use Rattle.std.proofs.lemmas.List.{length-take, take_min}
use Rattle.std.specs.List.{slice_get, before_first}

-- the item at a place is the first of what follows the place
pub drop-get : {X : Type 0} (xs : List X) (i : ℕ) (x : X) → slice_get xs i ≡ Some x → drop i xs ≡ x ∷ drop (suc i) xs
drop-get [] i x e = cc e
drop-get (y ∷ ys) zero x e = let same : y ≡ x = cc e in ap (λ z. z ∷ ys) same
drop-get (y ∷ ys) (suc i) x e = drop-get ys i x e

pub take-before_first : {X : Type 0} (p : X → Bool) (xs : List X) (n : ℕ) → n ≡ length (before_first p xs) → take n xs ≡ before_first p xs
take-before_first p xs n e = rw (e, length-take, take_min) refl
