-- The first element that passes, and those behind it.
use Rattle.std.proofs.Common.{◌≡◌, ◌∙◌, refl, sym, ap, ℕ, zero, suc, ◌+◌, ◌<◌, Bool, true, false, cond, ◌||◌, List, [], ◌∷◌, map, filter, length, drop, get_or, Option, Some, None, arith}
use Rattle.std.specs.List.{list_any, position}
use Rattle.std.specs.Option.{is_some}
use Rattle.std.proofs.lemmas.List.Quantifiers.{position-Some}
use Rattle.call_board.proofs.Shaped.{none_passes}

both_false : (a b : Bool) → (a || b) ≡ false → (a ≡ false) × (b ≡ false)
both_false true b e = absurd (let f : true ≡ false = e in cc)
both_false false b e = (refl, e)

none_any : {A B : Type 0} (f : A → B) (p : B → Bool) (xs : List A) → list_any (λ x. p (f x)) xs ≡ false → filter p (map f xs) ≡ []
none_any f p [] h = refl
none_any f p (x ∷ xs) h =
    let parts = both_false (p (f x)) (list_any (λ y. p (f y)) xs) h in
    ap (λ b. cond b (f x ∷ filter p (map f xs)) (filter p (map f xs))) parts.0 ∙ none_any f p xs parts.1

pub none_found : {A B : Type 0} (f : A → B) (p : B → Bool) (xs : List A) → position (λ x. p (f x)) xs ≡ None → filter p (map f xs) ≡ []
none_found f p xs h = none_any f p xs (none_passes (λ x. p (f x)) xs h)

one_at : {A B : Type 0} (f : A → B) (p : B → Bool) (xs : List A) (i : ℕ) (d : A) → i < length xs → p (f (get_or xs i d)) ≡ true
    → ((k : ℕ) → k < i → p (f (get_or xs k d)) ≡ false) → filter p (map f xs) ≡ f (get_or xs i d) ∷ filter p (map f (drop (i + 1) xs))
one_at f p [] i d within passes fails = absurd (omega arith)
one_at f p (x ∷ xs) zero d within passes fails = ap (λ b. cond b (f x ∷ filter p (map f xs)) (filter p (map f xs))) passes
one_at f p (x ∷ xs) (suc i) d within passes fails =
    let rest = one_at f p xs i d (omega arith) passes (λ k below. fails (suc k) (omega (arith, below))) in
    let step : suc (i + 1) ≡ suc i + 1 = omega arith in
    ap (λ b. cond b (f x ∷ filter p (map f xs)) (filter p (map f xs))) (fails zero (omega arith)) ∙ rest
    ∙ ap (λ (n : ℕ). f (get_or xs i d) ∷ filter p (map f (drop n (x ∷ xs)))) step

pub one_found : {A B : Type 0} (f : A → B) (p : B → Bool) (xs : List A) (i : ℕ) (d : A) → position (λ x. p (f x)) xs ≡ Some i
    → filter p (map f xs) ≡ f (get_or xs i d) ∷ filter p (map f (drop (i + 1) xs))
one_found f p xs i d h =
    let at = position-Some (λ x. p (f x)) xs i d h in
    one_at f p xs i d at.0 at.1 at.2

pub some_found : {A B : Type 0} (f : A → B) (p : B → Bool) (xs : List A) (i : ℕ) → position (λ x. p (f x)) xs ≡ Some i
    → (x : A) × (filter p (map f xs) ≡ f x ∷ filter p (map f (drop (i + 1) xs)))
some_found f p [] i h = absurd (let e : ◌≡◌ {A = Option ℕ} None (Some i) = h in cc)
some_found f p (x ∷ xs) i h = (get_or (x ∷ xs) i x, one_found f p (x ∷ xs) i x h)

-- none passes exactly where none is found

pub none_if : {A B : Type 0} (f : A → B) (p : B → Bool) (xs : List A) → filter p (map f xs) ≡ [] → is_some (position (λ x. p (f x)) xs) ≡ false
none_if {A} {B} f p xs none = by (position (λ x. p (f x)) xs) refl
  where
    by : (o : Option ℕ) → position (λ x. p (f x)) xs ≡ o → is_some o ≡ false
    by None is = refl
    by (Some i) is =
        let found = some_found f p xs i is in
        absurd (let e : ◌≡◌ {A = List B} (f found.0 ∷ filter p (map f (drop (i + 1) xs))) [] = sym found.1 ∙ none in cc)

pub none_then : {A B : Type 0} (f : A → B) (p : B → Bool) (xs : List A) → is_some (position (λ x. p (f x)) xs) ≡ false → filter p (map f xs) ≡ []
none_then f p xs none = by (position (λ x. p (f x)) xs) refl
  where
    by : (o : Option ℕ) → position (λ x. p (f x)) xs ≡ o → filter p (map f xs) ≡ []
    by None is = none_found f p xs is
    by (Some i) is = absurd (let e : true ≡ false = sym (ap (λ (o : Option ℕ). is_some o) is) ∙ none in cc)
