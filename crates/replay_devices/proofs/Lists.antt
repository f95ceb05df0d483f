-- The last thing that a list of calls gives, as one call is added.
use Rattle.std.proofs.Common.{◌≡◌, ◌∙◌, ap, sym, ℕ, ◌+◌, ◌<◌, List, [], ◌∷◌, ◌++◌, Option, Some, None, length, take, get_or, refl}
use Rattle.std.specs.Prelude.{filter_map}
use Rattle.std.specs.List.{last_or, cons_option}
use Rattle.std.proofs.lemmas.List.{take_more}
use Rattle.std.proofs.lemmas.List.Elements.{filter_map-append}

pub last_or-append : {A : Type 0} (o : Option A) (xs ys : List A) → last_or o (xs ++ ys) ≡ last_or (last_or o xs) ys
last_or-append o [] ys = refl
last_or-append o (x ∷ xs) ys = last_or-append (Some x) xs ys

pub one_more : {A B : Type 0} (f : A → Option B) (xs : List A) (i : ℕ) (d : A) → i < length xs → d ≡ get_or xs i d →
    last_or None (filter_map f (take (i + 1) xs)) ≡ last_or (last_or None (filter_map f (take i xs))) (cons_option (f d) [])
one_more {A} {B} f xs i d below is =
    ap (λ (ys : List A). last_or None (filter_map f ys)) (take_more xs i d below)
    ∙ ap (λ (ys : List B). last_or None ys) (filter_map-append f (take i xs) (get_or xs i d ∷ []))
    ∙ last_or-append None (filter_map f (take i xs)) (filter_map f (get_or xs i d ∷ []))
    ∙ ap (λ (x : A). last_or (last_or None (filter_map f (take i xs))) (cons_option (f x) [])) (sym is)

pub gives : {A B : Type 0} (f : A → Option B) (xs : List A) (i : ℕ) (d : A) (found : B) → i < length xs → d ≡ get_or xs i d →
    f d ≡ Some found → last_or None (filter_map f (take (i + 1) xs)) ≡ Some found
gives {A} {B} f xs i d found below is given =
    one_more f xs i d below is
    ∙ ap (λ (o : Option B). last_or (last_or None (filter_map f (take i xs))) (cons_option o [])) given

pub gives_nothing : {A B : Type 0} (f : A → Option B) (xs : List A) (i : ℕ) (d : A) → i < length xs → d ≡ get_or xs i d →
    f d ≡ None → last_or None (filter_map f (take (i + 1) xs)) ≡ last_or None (filter_map f (take i xs))
gives_nothing {A} {B} f xs i d below is given =
    one_more f xs i d below is
    ∙ ap (λ (o : Option B). last_or (last_or None (filter_map f (take i xs))) (cons_option o [])) given
