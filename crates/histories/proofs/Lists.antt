-- Membership under the words on lists.
use Rattle.std.proofs.Common.{◌≡◌, ◌∙◌, sym, ap, subst, refl, ℕ, zero, suc, ◌≤◌, ◌⊎◌, inl, inr, List, [], ◌∷◌, ◌++◌, Bool, true, false, cond, Option, Some, None, map, length, filter, ◌==◌, arith}
use Rattle.std.specs.Prelude.{◌||◌}
use Rattle.std.proofs.lemmas.Bool.Decides.{nat_tests}
use Rattle.std.specs.List.{list_any, flat_map, filter_map, cons_option}
use Rattle.histories.specs.Words.{In, here, there, first, final, until, has, greatest}

-- nothing is in the empty list
pub in_nothing : {A : Type 0} {x : A} → In x [] → ⊥
in_nothing i = elim i [ ]

pub in_left : {A : Type 0} {x : A} (xs ys : List A) → In x xs → In x (xs ++ ys)
in_left [] ys i = elim i [ ]
in_left (z ∷ xs) ys (here e) = here e
in_left (z ∷ xs) ys (there i) = there (in_left xs ys i)

pub in_right : {A : Type 0} {x : A} (xs ys : List A) → In x ys → In x (xs ++ ys)
in_right [] ys i = i
in_right (z ∷ xs) ys i = there (in_right xs ys i)

later_of : {A : Type 0} {x z : A} {xs ys : List A} → In x xs ⊎ In x ys → In x (z ∷ xs) ⊎ In x ys
later_of (inl i) = inl (there i)
later_of (inr i) = inr i

pub in_append : {A : Type 0} {x : A} (xs ys : List A) → In x (xs ++ ys) → In x xs ⊎ In x ys
in_append [] ys i = inr i
in_append (z ∷ xs) ys (here e) = inl (here e)
in_append (z ∷ xs) ys (there i) = later_of (in_append xs ys i)

filtered_case : {A : Type 0} (p : A → Bool) {x : A} (y : A) (ys : List A) → (In x (filter p ys) → In x ys × (p x ≡ true))
    → (b : Bool) → p y ≡ b → In x (cond b (y ∷ filter p ys) (filter p ys)) → In x (y ∷ ys) × (p x ≡ true)
filtered_case p y ys rest true e (here q) = (here q, ap p q ∙ e)
filtered_case p y ys rest true e (there i) = (there (rest i).0, (rest i).1)
filtered_case p y ys rest false e i = (there (rest i).0, (rest i).1)

pub filtered : {A : Type 0} (p : A → Bool) {x : A} (xs : List A) → In x (filter p xs) → In x xs × (p x ≡ true)
filtered p [] i = elim i [ ]
filtered p (y ∷ ys) i = filtered_case p y ys (filtered p ys) (p y) refl i

kept_here : {A : Type 0} (p : A → Bool) {x y : A} (ys : List A) → x ≡ y → p x ≡ true → (b : Bool) → p y ≡ b → In x (cond b (y ∷ filter p ys) (filter p ys))
kept_here p ys q h true e = here q
kept_here p ys q h false e = let t = ap p q in cc

kept_there : {A : Type 0} (p : A → Bool) {x : A} (y : A) (ys : List A) → In x (filter p ys) → (b : Bool) → In x (cond b (y ∷ filter p ys) (filter p ys))
kept_there p y ys i true = there i
kept_there p y ys i false = i

pub keeps : {A : Type 0} (p : A → Bool) {x : A} (xs : List A) → In x xs → p x ≡ true → In x (filter p xs)
keeps p [] i h = elim i [ ]
keeps p (y ∷ ys) (here q) h = kept_here p ys q h (p y) refl
keeps p (y ∷ ys) (there i) h = kept_there p y ys (keeps p ys i h) (p y)

-- an element of the list that the function makes this of
pub record Made {A B : Type 0} (f : A → B) (y : B) (xs : List A) : Type 0 where
  pub from : A
  pub is_in : In from xs
  pub makes : f from ≡ y

more_made : {A B : Type 0} {f : A → B} {y : B} {x : A} {xs : List A} → Made f y xs → Made f y (x ∷ xs)
more_made m = record { from = m.from; is_in = there m.is_in; makes = m.makes }

pub mapped : {A B : Type 0} (f : A → B) {y : B} (xs : List A) → In y (map f xs) → Made f y xs
mapped f [] i = elim i [ ]
mapped f (x ∷ xs) (here e) = record { from = x; is_in = here refl; makes = sym e }
mapped f (x ∷ xs) (there i) = more_made (mapped f xs i)

pub maps : {A B : Type 0} (f : A → B) {x : A} (xs : List A) → In x xs → In (f x) (map f xs)
maps f [] i = elim i [ ]
maps f (y ∷ xs) (here e) = here (ap f e)
maps f (y ∷ xs) (there i) = there (maps f xs i)

picked_case : {A B : Type 0} (f : A → Option B) {y : B} (x : A) (xs : List A) → (In y (filter_map f xs) → Made f (Some y) xs)
    → (o : Option B) → f x ≡ o → In y (cons_option o (filter_map f xs)) → Made f (Some y) (x ∷ xs)
picked_case f x xs rest None e i = more_made (rest i)
picked_case f x xs rest (Some z) e (here q) = record { from = x; is_in = here refl; makes = e ∙ ap Some (sym q) }
picked_case f x xs rest (Some z) e (there i) = more_made (rest i)

pub picked : {A B : Type 0} (f : A → Option B) {y : B} (xs : List A) → In y (filter_map f xs) → Made f (Some y) xs
picked f [] i = elim i [ ]
picked f (x ∷ xs) i = picked_case f x xs (picked f xs) (f x) refl i

pick_here : {B : Type 0} {y : B} (ys : List B) (o : Option B) → o ≡ Some y → In y (cons_option o ys)
pick_here ys None e = absurd (let h = e in cc)
pick_here ys (Some z) e = here (let h = e in cc)

pick_there : {B : Type 0} {y : B} (ys : List B) (o : Option B) → In y ys → In y (cons_option o ys)
pick_there ys None i = i
pick_there ys (Some z) i = there i

pub picks : {A B : Type 0} (f : A → Option B) {x : A} {y : B} (xs : List A) → In x xs → f x ≡ Some y → In y (filter_map f xs)
picks f [] i e = elim i [ ]
picks f (z ∷ xs) (here q) e = pick_here (filter_map f xs) (f z) (sym (ap f q) ∙ e)
picks f (z ∷ xs) (there i) e = pick_there (filter_map f xs) (f z) (picks f xs i e)

-- an element whose list has this
pub record Spread {A B : Type 0} (f : A → List B) (y : B) (xs : List A) : Type 0 where
  pub from : A
  pub is_in : In from xs
  pub has_it : In y (f from)

more_spread : {A B : Type 0} {f : A → List B} {y : B} {x : A} {xs : List A} → Spread f y xs → Spread f y (x ∷ xs)
more_spread m = record { from = m.from; is_in = there m.is_in; has_it = m.has_it }

spread_case : {A B : Type 0} (f : A → List B) {y : B} (x : A) (xs : List A) → (In y (flat_map f xs) → Spread f y xs)
    → In y (f x) ⊎ In y (flat_map f xs) → Spread f y (x ∷ xs)
spread_case f x xs rest (inl i) = record { from = x; is_in = here refl; has_it = i }
spread_case f x xs rest (inr i) = more_spread (rest i)

pub spread : {A B : Type 0} (f : A → List B) {y : B} (xs : List A) → In y (flat_map f xs) → Spread f y xs
spread f [] i = elim i [ ]
spread f (x ∷ xs) i = spread_case f x xs (spread f xs) (in_append (f x) (flat_map f xs) i)

pub spreads : {A B : Type 0} (f : A → List B) {x : A} {y : B} (xs : List A) → In x xs → In y (f x) → In y (flat_map f xs)
spreads f [] i j = elim i [ ]
spreads f {x} {y} (z ∷ xs) (here q) j = in_left (f z) (flat_map f xs) (subst (λ w. In y (f w)) q j)
spreads f (z ∷ xs) (there i) j = in_right (f z) (flat_map f xs) (spreads f xs i j)

-- comparing numbers
pub equal : (a b : ℕ) → a ≡ b → (a == b) ≡ true
equal a b is = grind (arith, nat_tests)

pub equal_if : (a b : ℕ) → (a == b) ≡ true → a ≡ b
equal_if a b is = grind (arith, nat_tests)

-- a number stands in a list exactly where `has` says so
has_case : (n x : ℕ) (xs : List ℕ) → (has xs n ≡ true → In n xs) → (b : Bool) → (x == n) ≡ b → cond b true (has xs n) ≡ true → In n (x ∷ xs)
has_case n x xs rest true e h = here (sym (equal_if x n e))
has_case n x xs rest false e h = there (rest h)

pub has_it : (n : ℕ) (xs : List ℕ) → has xs n ≡ true → In n xs
has_it n [] h = absurd (let e = h in cc)
has_it n (x ∷ xs) h = has_case n x xs (has_it n xs) (x == n) refl h

hasnt_case : (n x : ℕ) (xs : List ℕ) → (In n xs → has xs n ≡ true) → In n (x ∷ xs) → (b : Bool) → (x == n) ≡ b → cond b true (has xs n) ≡ true
hasnt_case n x xs rest i true e = refl
hasnt_case n x xs rest (here q) false e = absurd (let h = equal x n (sym q) in cc)
hasnt_case n x xs rest (there i) false e = rest i

pub it_has : (n : ℕ) (xs : List ℕ) → In n xs → has xs n ≡ true
it_has n [] i = elim i [ ]
it_has n (x ∷ xs) i = hasnt_case n x xs (it_has n xs) i (x == n) refl

-- an element passes exactly where `list_any` says so
any_case : {A : Type 0} (p : A → Bool) (x : A) (xs : List A) → (list_any p xs ≡ true → Made p true xs)
    → (b : Bool) → p x ≡ b → (b || list_any p xs) ≡ true → Made p true (x ∷ xs)
any_case p x xs rest true e h = record { from = x; is_in = here refl; makes = e }
any_case p x xs rest false e h = more_made (rest h)

pub any_is_in : {A : Type 0} (p : A → Bool) (xs : List A) → list_any p xs ≡ true → Made p true xs
any_is_in p [] h = absurd (let e = h in cc)
any_is_in p (x ∷ xs) h = any_case p x xs (any_is_in p xs) (p x) refl h

pub first_is_in : {A : Type 0} {x : A} (xs : List A) → first xs ≡ Some x → In x xs
first_is_in [] h = absurd (let e = h in cc)
first_is_in (y ∷ ys) h = here (let e = h in cc)

pub final_is_in : {A : Type 0} {x : A} (xs : List A) → final xs ≡ Some x → In x xs
final_is_in [] h = absurd (let e = h in cc)
final_is_in (y ∷ []) h = here (let e = h in cc)
final_is_in (y ∷ z ∷ zs) h = there (final_is_in (z ∷ zs) h)

-- a list of one element
pub only : {A : Type 0} {x y : A} (xs : List A) → length xs ≡ 1 → In x xs → In y xs → x ≡ y
only [] h i j = elim i [ ]
only (z ∷ []) h (here p) (here q) = p ∙ sym q
only (z ∷ []) h (here p) (there j) = elim j [ ]
only (z ∷ []) h (there i) j = elim i [ ]
only (z ∷ w ∷ zs) h i j = absurd (let e = h in omega (arith, e))
