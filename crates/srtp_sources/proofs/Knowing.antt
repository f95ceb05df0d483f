-- The sources of a list of notes: which are known, that each stands there once, and what a further note changes.
use Rattle.std.proofs.Common.{◌≡◌, ◌≢◌, ℕ, ◌+◌, ◌<◌, ◌⊎◌, inl, inr, suc, Bool, true, false, not, List, [], ◌∷◌, ◌++◌, length, Some, None, arith, sym, ◌∙◌, ap, refl, get_or}
use Rattle.std.specs.Prelude.{◌==◌, ◌||◌, ◌&&◌, if◌then◌else◌, slice_index, AllPairs}
use Rattle.std.specs.Prelude.{nat_lt, is_some, position}
use Rattle.std.specs.List.{list_any, filter_map, cons_option, position_or_len}
use Rattle.std.proofs.lemmas.Bool.{cases_order, cases_lt}
use Rattle.std.proofs.lemmas.Bool.Decides.{nat_tests}
use Rattle.std.proofs.lemmas.List.Folds.{list_any-append, list_any_at}
use Rattle.std.proofs.lemmas.List.Quantifiers.{all_pairs_push}
use Rattle.rtp_packet.specs.declared.head.Half.{Half}
use Rattle.rtp_packet.specs.declared.head.Half.TheVariants.{Rtp, Rtcp}
use Rattle.srtp_sources.specs.Notes.{Note, is_half, indices, source_under, once, sources}

pub equal : (a b : ℕ) → a ≡ b → (a == b) ≡ true
equal a b is = grind (arith, nat_tests)

pub differ : (a b : ℕ) → a ≢ b → (a == b) ≡ false
differ a b apart = grind (arith, nat_tests)

pub equal_if : (a b : ℕ) → (a == b) ≡ true → a ≡ b
equal_if a b is = grind (arith, nat_tests)

-- the element x is in a list
abbrev pub has : ℕ → List ℕ → Bool
has x xs = list_any (λ y. y == x) xs

or_true : (a : Bool) → (a || true) ≡ true
or_true true = refl
or_true false = refl

or_false : (a : Bool) → (a || false) ≡ a
or_false true = refl
or_false false = refl

or_swap : (a b : Bool) → (a || (b || false)) ≡ (b || a)
or_swap true true = refl
or_swap true false = refl
or_swap false true = refl
or_swap false false = refl

-- the same elements are in `once xs` as in xs
has-once : (x : ℕ) (xs : List ℕ) → has x (once xs) ≡ has x xs
has-once x [] = refl
has-once x (first ∷ rest) = step (has-once x rest) (has first (once rest)) refl
  where
    step : has x (once rest) ≡ has x rest → (known : Bool) → known ≡ has first (once rest)
        → has x (if known then once rest else once rest ++ first ∷ []) ≡ ((first == x) || has x rest)
    step others true known = same (cases first x)
      where
        cases : (a b : ℕ) → ((a == b) ≡ true) ⊎ ((a == b) ≡ false)
        cases a b = elim (a == b) as (λ t. (t ≡ true) ⊎ (t ≡ false)) [ true ↦ inl refl | false ↦ inr refl ]

        same : ((first == x) ≡ true) ⊎ ((first == x) ≡ false) → has x (once rest) ≡ ((first == x) || has x rest)
        same (inl is) =
            let here : has x (once rest) ≡ true = ap (λ y. has y (once rest)) (sym (equal_if first x is)) ∙ sym known in
            here ∙ sym (ap (λ t. t || has x rest) is)
        same (inr not) = others ∙ sym (ap (λ t. t || has x rest) not)
    step others false known =
        list_any-append (λ y. y == x) (once rest) (first ∷ []) ∙ or_swap (has x (once rest)) (first == x)
        ∙ ap (λ t. (first == x) || t) others

-- each source stands once
pub once-apart : (xs : List ℕ) → AllPairs (λ a b. a ≢ b) (once xs)
once-apart [] = λ i j d below within. absurd (omega arith)
once-apart (first ∷ rest) = step (once-apart rest) (has first (once rest)) refl
  where
    step : AllPairs (λ a b. a ≢ b) (once rest) → (known : Bool) → known ≡ has first (once rest)
        → AllPairs (λ a b. a ≢ b) (if known then once rest else once rest ++ first ∷ [])
    step others true known = others
    step others false known = all_pairs_push (λ a b. a ≢ b) (once rest) first others (λ k d below. new k d below)
      where
        new : (k d : ℕ) → k < length (once rest) → get_or (once rest) k d ≢ first
        new k d below same =
            let here : has first (once rest) ≡ true = list_any_at (λ y. y == first) (once rest) k d below (equal _ first same) in cc

-- two places of one source are the same
pub same_place : (xs : List ℕ) (i j : ℕ) → i < length (once xs) → j < length (once xs)
    → slice_index (once xs) i ≡ slice_index (once xs) j → i ≡ j
same_place xs i j one two same = elim (cases_order i j) [
  | inl is ↦ is
  | inr (inl less) ↦ absurd (once-apart xs i j 0 less two same)
  | inr (inr more) ↦ absurd (once-apart xs j i 0 more one (sym same))
]

by_place : {X : Type 0} (p : X → Bool) (xs : List X) → list_any p xs ≡ nat_lt (position_or_len p xs) (length xs)
by_place p [] = refl
by_place p (x ∷ xs) = step (p x) (list_any p xs) (position_or_len p xs) (length xs) (by_place p xs)
  where
    more : (n m : ℕ) → nat_lt n m ≡ nat_lt (1 + n) (suc m)
    more n m = elim (cases_lt n m) as (λ _. nat_lt n m ≡ nat_lt (1 + n) (suc m)) [
      | inl is ↦ grind (arith, nat_tests)
      | inr not ↦ grind (arith, nat_tests)
    ]

    step : (here any : Bool) (n m : ℕ) → any ≡ nat_lt n m → (here || any) ≡ nat_lt (if not here then 1 + n else 0) (suc m)
    step true any n m is = grind (arith, nat_tests)
    step false any n m is = is ∙ more n m

-- whether an element passes, by the first place at which one does
pub any-position : {X : Type 0} (p : X → Bool) (xs : List X) → list_any p xs ≡ is_some (position p xs)
any-position p xs = by_place p xs ∙ some (nat_lt (position_or_len p xs) (length xs)) (position_or_len p xs)
  where
    some : (b : Bool) (n : ℕ) → b ≡ is_some (if b then Some n else None)
    some true n = refl
    some false n = refl

is_half-same : (half : Half) → is_half half half ≡ true
is_half-same Rtp = refl
is_half-same Rtcp = refl

-- a source without a note has no index
unknown_in : (half : Half) (ssrc : ℕ) (notes : List Note) → has ssrc (filter_map (source_under half) notes) ≡ false
    → indices half ssrc notes ≡ []
unfolding indices
unknown_in half ssrc [] not = refl
unknown_in half ssrc (note ∷ notes) not = step (is_half half note.half) not (unknown_in half ssrc notes)
  where
    step : (test : Bool) → has ssrc (cons_option (if test then Some note.ssrc else None) (filter_map (source_under half) notes)) ≡ false
        → (has ssrc (filter_map (source_under half) notes) ≡ false → indices half ssrc notes ≡ [])
        → cons_option (if test && (note.ssrc == ssrc) then Some note.index else None) (indices half ssrc notes) ≡ []
    step true not rest = two (note.ssrc == ssrc) not
      where
        two : (same : Bool) → (same || has ssrc (filter_map (source_under half) notes)) ≡ false
            → cons_option (if same then Some note.index else None) (indices half ssrc notes) ≡ []
        two true not = cc
        two false not = rest not
    step false not rest = rest not

pub indices-unknown : (half : Half) (ssrc : ℕ) (notes : List Note) → has ssrc (sources half notes) ≡ false → indices half ssrc notes ≡ []
unfolding sources
indices-unknown half ssrc notes not =
    unknown_in half ssrc notes (sym (has-once ssrc (filter_map (source_under half) notes)) ∙ not)

-- what a note changes
abbrev pub note_of : Half → ℕ → ℕ → Note
note_of half ssrc index = record { half = half; ssrc = ssrc; index = index }

pub sources-known : (half : Half) (ssrc index : ℕ) (notes : List Note) → has ssrc (sources half notes) ≡ true
    → sources half (note_of half ssrc index ∷ notes) ≡ sources half notes
unfolding sources
sources-known half ssrc index notes known =
    ap (λ t. once (cons_option (if t then Some ssrc else None) (filter_map (source_under half) notes))) (is_half-same half)
    ∙ ap (λ t. if t then once (filter_map (source_under half) notes) else once (filter_map (source_under half) notes) ++ ssrc ∷ []) known

pub sources-new : (half : Half) (ssrc index : ℕ) (notes : List Note) → has ssrc (sources half notes) ≡ false
    → sources half (note_of half ssrc index ∷ notes) ≡ sources half notes ++ ssrc ∷ []
unfolding sources
sources-new half ssrc index notes new =
    ap (λ t. once (cons_option (if t then Some ssrc else None) (filter_map (source_under half) notes))) (is_half-same half)
    ∙ ap (λ t. if t then once (filter_map (source_under half) notes) else once (filter_map (source_under half) notes) ++ ssrc ∷ []) new

pub indices-noted : (half : Half) (ssrc index : ℕ) (notes : List Note)
    → indices half ssrc (note_of half ssrc index ∷ notes) ≡ index ∷ indices half ssrc notes
unfolding indices
indices-noted half ssrc index notes =
    ap (λ t. cons_option (if t && (ssrc == ssrc) then Some index else None) (indices half ssrc notes)) (is_half-same half)
    ∙ ap (λ t. cons_option (if t then Some index else None) (indices half ssrc notes)) (equal ssrc ssrc refl)

pub indices-other : (half : Half) (ssrc other index : ℕ) (notes : List Note) → ssrc ≢ other
    → indices half other (note_of half ssrc index ∷ notes) ≡ indices half other notes
unfolding indices
indices-other half ssrc other index notes apart =
    ap (λ t. cons_option (if t && (ssrc == other) then Some index else None) (indices half other notes)) (is_half-same half)
    ∙ ap (λ t. cons_option (if t then Some index else None) (indices half other notes)) (differ ssrc other apart)

-- two places of one source are the same, in the sources of a list of notes
pub same_source : (half : Half) (notes : List Note) (i j : ℕ) → i < length (sources half notes) → j < length (sources half notes)
    → slice_index (sources half notes) i ≡ slice_index (sources half notes) j → i ≡ j
unfolding sources
same_source half notes = same_place (filter_map (source_under half) notes)
