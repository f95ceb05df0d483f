-- Whether an element passes, by the first place at which one does.
use Rattle.std.proofs.Common.{◌≡◌, ◌∙◌, refl, ℕ, suc, ◌+◌, Bool, true, false, not, List, [], ◌∷◌, length, Some, None, inl, inr, arith, if◌then◌else◌}
use Rattle.std.specs.Prelude.{◌||◌, is_some, nat_lt, position}
use Rattle.std.specs.List.{list_any, position_or_len}
use Rattle.std.proofs.lemmas.Bool.{cases_lt}
use Rattle.std.proofs.lemmas.Bool.Decides.{nat_tests}

by_place : {X : Type 0} (p : X → Bool) (xs : List X) → list_any p xs ≡ nat_lt (position_or_len p xs) (length xs)
by_place p [] = refl
by_place p (x ∷ xs) = step (p x) (list_any p xs) (position_or_len p xs) (length xs) (by_place p xs)
  where
    more : (n m : ℕ) → nat_lt n m ≡ nat_lt (1 + n) (suc m)
    more n m = elim (cases_lt n m) as (λ _. nat_lt n m ≡ nat_lt (1 + n) (suc m)) [
      | inl is ↦ grind (arith, nat_tests)
      | inr not ↦ grind (arith, nat_tests)
    ]

    step : (here any : Bool) (n m : ℕ) → any ≡ nat_lt n m → (here || any) ≡ nat_lt (if not here then 1 + n else 0) (suc m)
    step true any n m is = grind (arith, nat_tests)
    step false any n m is = is ∙ more n m

pub any-position : {X : Type 0} (p : X → Bool) (xs : List X) → list_any p xs ≡ is_some (position p xs)
any-position p xs = by_place p xs ∙ some (nat_lt (position_or_len p xs) (length xs)) (position_or_len p xs)
  where
    some : (b : Bool) (n : ℕ) → b ≡ is_some (if b then Some n else None)
    some true n = refl
    some false n = refl
