-- What holds of each element of a list, as far as a loop has come.
use Rattle.std.proofs.Common.{◌≡◌, refl, sym, subst, ℕ, zero, suc, ◌+◌, ◌<◌, ◌≤◌, ◌⊎◌, inl, inr, List, [], ◌∷◌, ◌++◌, length, take, get_or, arith}
use Rattle.std.proofs.lemmas.List.{take_more, take_all}
use Rattle.histories.specs.Words.{In, here, there}
use Rattle.histories.proofs.Lists.{in_append}

-- an element by its place
pub in_at : {A : Type 0} (xs : List A) (i : ℕ) (d : A) → i < length xs → In (get_or xs i d) xs
in_at [] i d within = absurd (omega arith)
in_at (x ∷ xs) zero d within = here refl
in_at (x ∷ xs) (suc i) d within = there (in_at xs i d (omega arith))

pub is_in : {A : Type 0} (xs : List A) (i : ℕ) (x : A) → i < length xs → x ≡ get_or xs i x → In x xs
is_in {A} xs i x within is = subst (λ (y : A). In y xs) (sym is) (in_at xs i x within)

last_case : {A : Type 0} (P : A → Type 0) (front : List A) (x : A) → ((y : A) → In y front → P y) → P x → (y : A) → In y front ⊎ In y (x ∷ []) → P y
last_case P front x all one y (inl i) = all y i
last_case P front x all one y (inr (here e)) = subst P (sym e) one
last_case P front x all one y (inr (there i)) = elim i [ ]

-- one element more
pub each_more : {A : Type 0} (P : A → Type 0) (xs : List A) (i : ℕ) (d x : A) → i < length xs → x ≡ get_or xs i d → ((y : A) → In y (take i xs) → P y) → P x
    → (y : A) → In y (take (i + 1) xs) → P y
each_more {A} P xs i d x within is all one y at =
    let more : take (i + 1) xs ≡ take i xs ++ get_or xs i d ∷ [] = take_more xs i d within in
    let last : In y (take i xs ++ get_or xs i d ∷ []) = subst (λ (l : List A). In y l) more at in
    last_case P (take i xs) (get_or xs i d) all (subst P is one) y (in_append (take i xs) (get_or xs i d ∷ []) last)

-- and all of them
pub each_all : {A : Type 0} (P : A → Type 0) (xs : List A) (i : ℕ) → length xs ≤ i → ((y : A) → In y (take i xs) → P y) → (y : A) → In y xs → P y
each_all {A} P xs i end all y at = all y (subst (λ (l : List A). In y l) (sym (take_all i xs end)) at)

pub each_none : {A : Type 0} (P : A → Type 0) (xs : List A) (y : A) → In y (take 0 xs) → P y
each_none P [] y at = elim at [ ]
each_none P (x ∷ xs) y at = elim at [ ]
