-- Legs that go from a list, one by one from its front, while the others move to its end.
use Rattle.std.proofs.Common.{◌≡◌, refl, ap, subst, sym, ◌∙◌, ℕ, ◌+◌, ◌<◌, ◌≤◌, Bool, true, false, cond, List, [], ◌∷◌, ◌++◌, filter, take, drop, length, get_or, set, Option, Some, None, arith}
use Rattle.std.specs.List.{cons_option, filter_map}
use Rattle.std.specs.Option.{option_to_list}
use Rattle.std.proofs.lemmas.List.Sums.{length-filter, count_by-le-length}
use Rattle.std.proofs.lemmas.List.{drop_more, drop_all, take_all, length-append, length-take-le, append_assoc, get_or-set_same, get_or-set_other}
use Rattle.std.proofs.lemmas.List.Elements.{filter_more, filter_map-append}

pub at_set : {X : Type 0} (xs : List X) (i : ℕ) (y x : X) → i < length xs → get_or (set xs i y) i x ≡ y
at_set xs i y x below = get_or-set_same xs i y x below

pub off_set : {X : Type 0} (xs : List X) (i j : ℕ) (y x : X) → (j ≡ i → ⊥) → get_or (set xs i y) j x ≡ get_or xs j x
off_set xs i j y x apart = get_or-set_other xs i j y x apart

-- what stands in front of the list, of which i were moved
pub front_is : {X : Type 0} (p : X → Bool) (xs ys : List X) (i : ℕ) (d : X) → i < length xs → ys ≡ drop i xs ++ filter p (take i xs)
    → get_or ys 0 d ≡ get_or xs i d
front_is {X} p xs ys i d below is =
    ap (λ (l : List X). get_or l 0 d) (is ∙ ap (λ (l : List X). l ++ filter p (take i xs)) (drop_more xs i d below))

pub stay_more : {X : Type 0} (p : X → Bool) (xs ys : List X) (i : ℕ) (d : X) → i < length xs → ys ≡ drop i xs ++ filter p (take i xs)
    → drop 1 ys ++ cond (p (get_or ys 0 d)) (get_or ys 0 d ∷ []) [] ≡ drop (i + 1) xs ++ filter p (take (i + 1) xs)
stay_more {X} p xs ys i d below is =
    let e : ys ≡ get_or xs i d ∷ (drop (i + 1) xs ++ filter p (take i xs)) = is ∙ ap (λ (l : List X). l ++ filter p (take i xs)) (drop_more xs i d below) in
    ap (λ (l : List X). drop 1 l ++ cond (p (get_or l 0 d)) (get_or l 0 d ∷ []) []) e
    ∙ append_assoc (drop (i + 1) xs) (filter p (take i xs)) (cond (p (get_or xs i d)) (get_or xs i d ∷ []) [])
    ∙ ap (λ (l : List X). drop (i + 1) xs ++ l) (sym (filter_more p xs i d below))

one_or_none : {Y : Type 0} (o : Option Y) → option_to_list o ≡ cons_option o []
one_or_none None = refl
one_or_none (Some y) = refl

went_case : {X Y : Type 0} (f : X → Option Y) (x : X) (b : Bool) → cond b (option_to_list (f x)) [] ≡ filter_map f (cond b (x ∷ []) [])
went_case f x true = one_or_none (f x)
went_case f x false = refl

pub went_more : {X Y : Type 0} (p : X → Bool) (f : X → Option Y) (before : List Y) (xs : List X) (i : ℕ) (d x : X) → i < length xs → x ≡ get_or xs i d
    → (before ++ filter_map f (filter p (take i xs))) ++ cond (p x) (option_to_list (f x)) [] ≡ before ++ filter_map f (filter p (take (i + 1) xs))
went_more {X} {Y} p f before xs i d x below is =
    let y = get_or xs i d in
    ap (λ (z : X). (before ++ filter_map f (filter p (take i xs))) ++ cond (p z) (option_to_list (f z)) []) is
    ∙ append_assoc before (filter_map f (filter p (take i xs))) (cond (p y) (option_to_list (f y)) [])
    ∙ ap (λ (l : List Y). before ++ (filter_map f (filter p (take i xs)) ++ l)) (went_case f y (p y))
    ∙ ap (λ (l : List Y). before ++ l) (sym (filter_map-append f (filter p (take i xs)) (cond (p y) (y ∷ []) [])))
    ∙ ap (λ (l : List X). before ++ filter_map f l) (sym (filter_more p xs i d below))

some_of : {X : Type 0} (xs : List X) (i : ℕ) → i < length xs → X
some_of [] i below = absurd (omega (arith, below))
some_of (x ∷ xs) i below = x

one_more : {Y : Type 0} (o : Option Y) (ys : List Y) → length (cons_option o ys) ≤ length ys + 1
one_more None ys = omega arith
one_more (Some y) ys = omega arith

no_longer : {X Y : Type 0} (f : X → Option Y) (xs : List X) → length (filter_map f xs) ≤ length xs
no_longer f [] = omega arith
no_longer f (x ∷ xs) = omega (arith, no_longer f xs, one_more (f x) (filter_map f xs))

room_left : {X Y : Type 0} (q : X → Bool) (f : X → Option Y) (before : List Y) (xs : List X) (i : ℕ) → i < length xs → length before + length xs ≤ 16
    → length (before ++ filter_map f (filter q (take i xs))) < 16
room_left q f before xs i below room =
    omega (
      arith,
      below,
      room,
      length-append before (filter_map f (filter q (take i xs))),
      no_longer f (filter q (take i xs)),
      length-filter q (take i xs),
      count_by-le-length q (take i xs),
      length-take-le i xs (omega (arith, below)),
    )

pub turned : {X Y : Type 0} (p q : X → Bool) (f : X → Option Y) (xs ys new : List X) (before gone after : List Y) (i : ℕ) → i < length xs
    → length before + length xs ≤ 16 → ys ≡ drop i xs ++ filter p (take i xs) → gone ≡ before ++ filter_map f (filter q (take i xs))
    → ((d : X) → length gone < 16 → new ≡ drop 1 ys ++ cond (p (get_or ys 0 d)) (get_or ys 0 d ∷ []) [])
    → ((d : X) → length gone < 16 → after ≡ gone ++ cond (q (get_or ys 0 d)) (option_to_list (f (get_or ys 0 d))) [])
    → (new ≡ drop (i + 1) xs ++ filter p (take (i + 1) xs)) × (after ≡ before ++ filter_map f (filter q (take (i + 1) xs)))
turned {X} {Y} p q f xs ys new before gone after i below room stays went stay go =
    let d = some_of xs i below in
    let few : length gone < 16 = subst (λ (l : List Y). length l < 16) (sym went) (room_left q f before xs i below room) in (
      stay d few ∙ stay_more p xs ys i d below stays,
      go d few ∙ ap (λ (l : List Y). l ++ cond (q (get_or ys 0 d)) (option_to_list (f (get_or ys 0 d))) []) went
          ∙ went_more q f before xs i d (get_or ys 0 d) below (front_is p xs ys i d below stays),
    )

pub turned_all : {X Y : Type 0} (p q : X → Bool) (f : X → Option Y) (xs ys : List X) (before gone : List Y) (i : ℕ) → length xs ≤ i
    → (ys ≡ drop i xs ++ filter p (take i xs)) × (gone ≡ before ++ filter_map f (filter q (take i xs)))
    → (ys ≡ filter p xs) × (gone ≡ before ++ filter_map f (filter q xs))
turned_all {X} {Y} p q f xs ys before gone i end h =
    let whole : take i xs ≡ xs = take_all i xs end in (
      h.0 ∙ ap (λ (l : List X). l ++ filter p (take i xs)) (drop_all i xs end) ∙ ap (λ (l : List X). filter p l) whole,
      h.1 ∙ ap (λ (l : List X). before ++ filter_map f (filter q l)) whole,
    )
