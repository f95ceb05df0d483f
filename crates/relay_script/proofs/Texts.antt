-- Texts that are cut at a byte, and the bytes that are nowhere in them.
use Rattle.std.proofs.Common.{◌≡◌, ℕ, List, [], ◌∷◌, ◌++◌, ◌+◌, ◌%◌, ◌<◌, ◌^◌, ◌==◌, ◌⊎◌, ◌&&◌, inl, inr, not, true, false, Bool, refl, subst, arith, decimal}
use Rattle.std.specs.List.{list_all}
use Rattle.std.proofs.lemmas.Bool.{eqb-false}
use Rattle.std.proofs.lemmas.Fmt.{decimal_by_steps}
use Rattle.ng_bencode.specs.Fits.{IsFreeOf}
use Rattle.ng_bencode.proofs.Numbers.{free_append}

-- a byte that is no digit is in no number
pub free_number : (stop : ℕ) → (stop < 48) ⊎ (57 < stop) → (n : ℕ) → n < 2 ^ 64 → IsFreeOf stop (decimal n)
free_number stop (inl low) = decimal_by_steps (λ n digits. IsFreeOf stop digits)
    (λ n small. ((λ e. omega arith), tt))
    (λ n digits much free. free_append stop digits ((48 + n % 10) ∷ []) free ((λ e. omega arith), tt))
free_number stop (inr high) = decimal_by_steps (λ n digits. IsFreeOf stop digits)
    (λ n small. ((λ e. omega arith), tt))
    (λ n digits much free. free_append stop digits ((48 + n % 10) ∷ []) free ((λ e. omega arith), tt))

and_true : (a b : Bool) → (a && b) ≡ true → (a ≡ true) × (b ≡ true)
and_true true b e = (refl, e)
and_true false b e = absurd (cc)

not_true : (a : Bool) → not a ≡ true → a ≡ false
not_true true e = absurd (cc)
not_true false e = refl

-- the test of each byte tells it
pub free_by_test : (stop : ℕ) (bytes : List ℕ) → list_all (λ byte. not (byte == stop)) bytes ≡ true → IsFreeOf stop bytes
free_by_test stop [] e = tt
free_by_test stop (byte ∷ bytes) e =
    let both = and_true (not (byte == stop)) (list_all (λ b. not (b == stop)) bytes) e in
    (eqb-false byte stop (not_true (byte == stop) both.0), free_by_test stop bytes both.1)

pub free_not : (stop : ℕ) (a x : List ℕ) → IsFreeOf stop (a ++ stop ∷ x) → ⊥
free_not stop [] x free = free.0 refl
free_not stop (c ∷ a) x free = free_not stop a x free.1

-- two texts with a stop before an end that is free of it have the same end
pub same_back : (stop : ℕ) (a b x y : List ℕ) → IsFreeOf stop x → IsFreeOf stop y → a ++ stop ∷ x ≡ b ++ stop ∷ y → (a ≡ b) × (x ≡ y)
same_back stop [] [] x y free other e = (refl, cc)
same_back stop [] (c ∷ b) x y free other e = let e2 : x ≡ b ++ stop ∷ y = cc in absurd (free_not stop b y (subst (IsFreeOf stop) e2 free))
same_back stop (c ∷ a) [] x y free other e = let e2 : y ≡ a ++ stop ∷ x = cc in absurd (free_not stop a x (subst (IsFreeOf stop) e2 other))
same_back stop (c ∷ a) (d ∷ b) x y free other e =
    let head : c ≡ d = cc in
    let rest : a ++ stop ∷ x ≡ b ++ stop ∷ y = cc in
    let same = same_back stop a b x y free other rest in
    (rw (head, same.0) refl, same.1)
