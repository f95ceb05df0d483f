-- What holds of each element of a list that is written out.
use Rattle.std.proofs.Common.{◌≡◌, ◌∙◌, sym, ap, subst, refl, arith, ◌≤◌, ◌⊎◌, inl, inr, filter, ◌==◌, ℕ, zero, suc, ◌<◌, List, [], ◌∷◌, Bool, true, false, Some, None}
use Rattle.std.specs.Prelude.{◌&&◌, ◌||◌, not, nat_lt, nat_le, slice_get}
use Rattle.std.specs.List.{list_all}
use Rattle.std.proofs.lemmas.Bool.Decides.{nat_tests}
use Rattle.histories.proofs.Lists.{keeps}
use Rattle.histories.specs.Words.{In, here, there, Before, begins, goes_on}

infixr 4 ◌&◌
-- each element has the property, the first one first
pub data Each {A : Type 0} (P : A → Type 0) : List A → Type 0 where
  none_left : Each P []
  ◌&◌ : {x : A} {xs : List A} → P x → Each P xs → Each P (x ∷ xs)

pub of_each : {A : Type 0} (P : A → Type 0) (xs : List A) → Each P xs → (x : A) → In x xs → P x
of_each P [] all x i = elim i [ ]
of_each P (y ∷ ys) (p & all) x (here q) = subst P (sym q) p
of_each P (y ∷ ys) (p & all) x (there i) = of_each P ys all x i

-- the element at a place, from 0
pub at_place : {A : Type 0} (xs : List A) (n : ℕ) {x : A} → slice_get xs n ≡ Some x → In x xs
at_place [] n q = absurd cc
at_place (y ∷ ys) zero {x = x} q = let e : x ≡ y = cc in here e
at_place (y ∷ ys) (suc n) q = there (at_place ys n q)

-- and the element at an earlier one
pub before_at : {A : Type 0} (xs : List A) (m n : ℕ) {x y : A} → slice_get xs m ≡ Some x → slice_get xs n ≡ Some y → m < n → Before x y xs
before_at [] m n p q h = absurd cc
before_at (z ∷ xs) zero zero p q h = absurd (omega arith)
before_at (z ∷ xs) zero (suc n) {x = x} p q h = let e : x ≡ z = cc in begins e (at_place xs n q)
before_at (z ∷ xs) (suc m) zero p q h = absurd (omega arith)
before_at (z ∷ xs) (suc m) (suc n) p q h = goes_on (before_at xs m n p q (omega arith))

-- both tests pass
pub first_passes : (a b : Bool) → a && b ≡ true → a ≡ true
first_passes true b h = refl
first_passes false b h = h

pub second_passes : (a b : Bool) → a && b ≡ true → b ≡ true
second_passes true b h = h
second_passes false b h = absurd cc

-- a test that each element passes
pub of_all : {A : Type 0} (p : A → Bool) (xs : List A) → list_all p xs ≡ true → (x : A) → In x xs → p x ≡ true
of_all p [] h x i = elim i [ ]
of_all p (y ∷ ys) h x (here q) = ap p q ∙ first_passes (p y) (list_all p ys) h
of_all p (y ∷ ys) h x (there i) = of_all p ys (second_passes (p y) (list_all p ys) h) x i

-- what holds of the one thing that is there
pub of_some : {A : Type 0} (P : A → Type 0) {x : A} → P x → (y : A) → Some x ≡ Some y → P y
of_some {A = A} P {x = x} p y q = let e : x ≡ y = cc in subst P e p

-- there is nothing
pub of_none : {A : Type 0} (P : A → Type 0) (y : A) → None ≡ Some y → P y
of_none P y q = absurd cc

pub of_false : {P : Type 0} → false ≡ true → P
of_false q = absurd cc

-- the one element that passes
sole : {A : Type 0} {x y : A} → In x (y ∷ []) → x ≡ y
sole (here q) = q
sole (there i) = elim i [ ]

pub only_one : {A : Type 0} (p : A → Bool) (xs : List A) {y : A} → filter p xs ≡ y ∷ [] → (x : A) → In x xs → p x ≡ true → x ≡ y
only_one p xs q x i h = sole (subst (In x) q (keeps p xs i h))

-- Tests.

pub together : (a b : Bool) → a ≡ true → b ≡ true → a && b ≡ true
together true b p q = q
together false b p q = p

pub implied : (a b : Bool) → not a || b ≡ true → a ≡ true → b ≡ true
implied true b h p = h
implied false b h p = absurd cc

pub otherwise : (a b : Bool) → a || b ≡ true → a ≡ false → b ≡ true
otherwise true b h p = absurd cc
otherwise false b h p = h

pub either : (a b : Bool) → a || b ≡ true → (a ≡ true) ⊎ (b ≡ true)
either true b h = inl refl
either false b h = inr h

pub equal_by : (m n : ℕ) → (m == n) ≡ true → m ≡ n
equal_by m n h = grind (arith, nat_tests)

pub equal_is : (m n : ℕ) → m ≡ n → (m == n) ≡ true
equal_is m n h = grind (arith, nat_tests)

pub less_by : (m n : ℕ) → nat_lt m n ≡ true → m < n
less_by m n h = grind (arith, nat_tests)

pub less_is : (m n : ℕ) → m < n → nat_lt m n ≡ true
less_is m n h = grind (arith, nat_tests)

pub at_most_by : (m n : ℕ) → nat_le m n ≡ true → m ≤ n
at_most_by m n h = grind (arith, nat_tests)
