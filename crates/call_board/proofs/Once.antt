-- Lists of numbers in which each stands once.
use Rattle.std.proofs.Common.{◌≡◌, ◌∙◌, sym, ap, subst, ℕ, zero, suc, ◌+◌, ◌≤◌, ◌<◌, ◌⊎◌, inl, inr, List, [], ◌∷◌, ◌++◌, map, length, filter, Bool, true, false, cond, not, ◌==◌, refl, arith}
use Rattle.std.proofs.lemmas.Bool.Decides.{nat_tests}
use Rattle.histories.specs.Words.{In, here, there, has, last_once, numbers}
pub use Rattle.call_board.specs.Pairs.{Once}
use Rattle.histories.proofs.Lists.{in_append, filtered, keeps, maps, mapped, it_has, equal, equal_if}

-- elements of a list whose numbers stand once are equal where their numbers are
pub once_equal : {A : Type 0} (f : A → ℕ) {x y : A} (xs : List A) → Once (map f xs) → In x xs → In y xs → f x ≡ f y → x ≡ y
once_equal f [] once i j e = elim i [ ]
once_equal f (z ∷ zs) once (here p) (here q) e = p ∙ sym q
once_equal f (z ∷ zs) once (here p) (there j) e = absurd (once.0 (subst (λ n. In n (map f zs)) (sym e ∙ ap f p) (maps f zs j)))
once_equal f (z ∷ zs) once (there i) (here q) e = absurd (once.0 (subst (λ n. In n (map f zs)) (e ∙ ap f q) (maps f zs i)))
once_equal f (z ∷ zs) once (there i) (there j) e = once_equal f zs once.1 i j e

pub is_false : (b : Bool) → not b ≡ true → b ≡ false
is_false true h = absurd (let e = h in cc)
is_false false h = refl

pub not_false : (b : Bool) → b ≡ false → not b ≡ true
not_false b e = ap not e

once_case : {A : Type 0} (f : A → ℕ) (p : A → Bool) (x : A) (xs : List A) → (In (f x) (map f xs) → ⊥) → Once (map f (filter p xs))
    → (b : Bool) → Once (map f (cond b (x ∷ filter p xs) (filter p xs)))
once_case f p x xs new rest true = (λ i. let m = mapped f (filter p xs) i in new (subst (λ n. In n (map f xs)) m.makes (maps f xs (filtered p xs m.is_in).0)), rest)
once_case f p x xs new rest false = rest

pub once_filtered : {A : Type 0} (f : A → ℕ) (p : A → Bool) (xs : List A) → Once (map f xs) → Once (map f (filter p xs))
once_filtered f p [] once = tt
once_filtered f p (x ∷ xs) once = once_case f p x xs once.0 (once_filtered f p xs once.1) (p x)

apart_case : (x : ℕ) (xs ys : List ℕ) → (In x xs → ⊥) → (In x ys → ⊥) → In x xs ⊎ In x ys → ⊥
apart_case x xs ys f g (inl i) = f i
apart_case x xs ys f g (inr i) = g i

pub once_append : (xs ys : List ℕ) → Once xs → Once ys → ((n : ℕ) → In n xs → In n ys → ⊥) → Once (xs ++ ys)
once_append [] ys once_x once_y apart = once_y
once_append (x ∷ xs) ys once_x once_y apart =
    (λ i. apart_case x xs ys once_x.0 (apart x (here refl)) (in_append xs ys i), once_append xs ys once_x.1 once_y (λ n i j. apart n (there i) j))

some_case : (p : ℕ → Bool) (x : ℕ) (xs : List ℕ) → (In x xs → ⊥) → Once (filter p xs) → (b : Bool) → Once (cond b (x ∷ filter p xs) (filter p xs))
some_case p x xs new rest true = (λ i. new (filtered p xs i).0, rest)
some_case p x xs new rest false = rest

pub once_some : (p : ℕ → Bool) (xs : List ℕ) → Once xs → Once (filter p xs)
once_some p [] once = tt
once_some p (x ∷ xs) once = some_case p x xs once.0 (once_some p xs once.1) (p x)

pub in_numbers : (p n count : ℕ) → In p (numbers n count) → (n ≤ p) × (p < n + count)
in_numbers p n zero i = elim i [ ]
in_numbers p n (suc count) (here e) = (omega arith, omega arith)
in_numbers p n (suc count) (there i) = let b = in_numbers p (suc n) count i in (omega (arith, b.0), omega (arith, b.1))

pub once_numbers : (n count : ℕ) → Once (numbers n count)
once_numbers n zero = tt
once_numbers n (suc count) = (λ i. let b = in_numbers n (suc n) count i in absurd (omega (arith, b.0)), once_numbers (suc n) count)

numbers_case : (p n count : ℕ) → n ≤ p → p < n + suc count → (suc n ≤ p → p < suc n + count → In p (numbers (suc n) count))
    → (b : Bool) → (n == p) ≡ b → In p (n ∷ numbers (suc n) count)
numbers_case p n count low high rest true e = here (sym (equal_if n p e))
numbers_case p n count low high rest false e = there (rest (grind (arith, nat_tests)) (omega arith))

pub numbers_in : (p n count : ℕ) → n ≤ p → p < n + count → In p (numbers n count)
numbers_in p n zero low high = absurd (omega arith)
numbers_in p n (suc count) low high = numbers_case p n count low high (numbers_in p (suc n) count) (n == p) refl

-- Each once, where it stands last.

last_case : (n x : ℕ) (xs : List ℕ) → (In n (last_once xs) → In n xs) → (b : Bool) → In n (cond b (last_once xs) (x ∷ last_once xs)) → In n (x ∷ xs)
last_case n x xs rest true i = there (rest i)
last_case n x xs rest false (here e) = here e
last_case n x xs rest false (there i) = there (rest i)

pub last_in : (n : ℕ) (xs : List ℕ) → In n (last_once xs) → In n xs
last_in n [] i = elim i [ ]
last_in n (x ∷ xs) i = last_case n x xs (last_in n xs) (has xs x) i

once_last_case : (x : ℕ) (xs : List ℕ) → Once (last_once xs) → (b : Bool) → has xs x ≡ b → Once (cond b (last_once xs) (x ∷ last_once xs))
once_last_case x xs rest true e = rest
once_last_case x xs rest false e = (λ i. let h = it_has x xs (last_in x xs i) in cc, rest)

pub once_last : (xs : List ℕ) → Once (last_once xs)
once_last [] = tt
once_last (x ∷ xs) = once_last_case x xs (once_last xs) (has xs x) refl

-- Numbers that stand once, all of them in a list, are no more than it has.

less_case : {A : Type 0} (p : A → Bool) (x : A) (xs : List A) → length (filter p xs) ≤ length xs → (b : Bool) → length (cond b (x ∷ filter p xs) (filter p xs)) ≤ suc (length xs)
less_case p x xs rest true = omega arith
less_case p x xs rest false = omega arith

pub filter_less : {A : Type 0} (p : A → Bool) (xs : List A) → length (filter p xs) ≤ length xs
filter_less p [] = omega arith
filter_less p (x ∷ xs) = less_case p x xs (filter_less p xs) (p x)

lost_here : {A : Type 0} (p : A → Bool) (x : A) (xs : List A) → (b : Bool) → p x ≡ b → p x ≡ false → length (cond b (x ∷ filter p xs) (filter p xs)) < suc (length xs)
lost_here p x xs true e out = absurd (let h = e in cc)
lost_here p x xs false e out = let less = filter_less p xs in omega arith

lost_there : {A : Type 0} (p : A → Bool) (x : A) (xs : List A) → length (filter p xs) < length xs → (b : Bool) → length (cond b (x ∷ filter p xs) (filter p xs)) < suc (length xs)
lost_there p x xs rest true = omega arith
lost_there p x xs rest false = omega arith

pub filter_lost : {A : Type 0} (p : A → Bool) {y : A} (xs : List A) → In y xs → p y ≡ false → length (filter p xs) < length xs
filter_lost p [] i out = elim i [ ]
filter_lost p (x ∷ xs) (here e) out = lost_here p x xs (p x) refl (ap p (sym e) ∙ out)
filter_lost p (x ∷ xs) (there i) out = lost_there p x xs (filter_lost p xs i out) (p x)

differ_case : (a b : ℕ) → (a ≡ b → ⊥) → (t : Bool) → (a == b) ≡ t → not t ≡ true
differ_case a b apart true e = absurd (apart (equal_if a b e))
differ_case a b apart false e = refl

pub differ : (a b : ℕ) → (a ≡ b → ⊥) → not (a == b) ≡ true
differ a b apart = differ_case a b apart (a == b) refl

pub fit_in : (ys xs : List ℕ) → Once ys → ((n : ℕ) → In n ys → In n xs) → length ys ≤ length xs
fit_in [] xs once all = omega arith
fit_in (y ∷ ys) xs once all =
    let others = λ (n : ℕ). not (n == y) in
    let rest = fit_in ys (filter others xs) once.1 (λ n i. keeps others xs (all n (there i)) (differ n y (λ e. once.0 (subst (λ m. In m ys) e i)))) in
    let lost = filter_lost others xs (all y (here refl)) (ap not (equal y y refl)) in
    omega (arith, rest, lost)
