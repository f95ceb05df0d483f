-- Lanes whose numbers are all those below their count, put in the order of the numbers: each stands at its number's place.
use Rattle.std.proofs.Common.{◌≡◌, ◌∙◌, refl, sym, ap, subst, ℕ, zero, suc, ◌+◌, ◌<◌, ◌≤◌, inl, inr, Bool, true, false, List, [], ◌∷◌, length, get_or, arith}
use Rattle.std.specs.Prelude.{nat_lt, count_by, ◌==◌, slice_index_or}
use Rattle.std.specs.List.Sorted.{IsPermutation}
use Rattle.std.proofs.lemmas.Bool.{cases_lt, cases_eq}
use Rattle.std.proofs.lemmas.Bool.Decides.{nat_tests}
use Rattle.std.proofs.lemmas.List.{get_or-map, length-map}
use Rattle.std.proofs.lemmas.List.Sorted.{IsPermutation-map, sum_by-IsPermutation}
use Rattle.std.proofs.lemmas.List.Sums.{sum_by-cons}
use Rattle.media_lane.specs.Lanes.{index_in}
use Rattle.media_lane.specs.Visits.{one_where}
use Rattle.relay_runs.specs.declared.lanes.OwnLane.{OwnLane}
use Rattle.relay_runs.specs.Threads.{AreNumbers, AreInOrder, numbers_of}

-- Numbers that don't fall.

abbrev times : ℕ → List ℕ → ℕ
times i ns = count_by (λ (j : ℕ). j == i) ns

-- no number is below the one before it
abbrev Ascends : List ℕ → Type 0
Ascends ns = (k d : ℕ) → k + 1 < length ns → get_or ns k d ≤ get_or ns (k + 1) d

ascends_tail : (n : ℕ) (ns : List ℕ) → Ascends (n ∷ ns) → Ascends ns
ascends_tail n ns up k d lt =
    let next : suc k + 1 ≡ suc (k + 1) = omega arith in
    subst (λ (m : ℕ). get_or ns k d ≤ get_or (n ∷ ns) m d) next (up (suc k) d (omega (arith, lt)))

times_here : (i n : ℕ) (ns : List ℕ) → n ≡ i → times i (n ∷ ns) ≡ 1 + times i ns
times_here i n ns is = sum_by-cons _ n ns ∙ ap (λ (k : ℕ). k + times i ns) (here (n == i) (grind (arith, nat_tests)))
  where
    here : (b : Bool) → b ≡ true → one_where b ≡ 1
    here true q = refl
    here false q = absurd (cc)

times_there : (i n : ℕ) (ns : List ℕ) → (n ≡ i → ⊥) → times i (n ∷ ns) ≡ times i ns
times_there i n ns is =
    let all : times i (n ∷ ns) ≡ 0 + times i ns = sum_by-cons _ n ns ∙ ap (λ (k : ℕ). k + times i ns) (there (n == i) (grind (arith, nat_tests))) in
    omega (arith, all)
  where
    there : (b : Bool) → b ≡ false → one_where b ≡ 0
    there false q = refl
    there true q = absurd (cc)

-- what is below the first stands nowhere
none_below : (i n : ℕ) (ns : List ℕ) → Ascends (n ∷ ns) → i < n → times i (n ∷ ns) ≡ 0
none_below i n [] up lt = times_there i n [] (λ is. omega (arith, lt, is))
none_below i n (m ∷ ms) up lt =
    let step = up 0 n (omega arith) in
    times_there i n (m ∷ ms) (λ is. omega (arith, lt, is)) ∙ none_below i m ms (ascends_tail n (m ∷ ms) up) (omega (arith, lt, step))

-- Each number from low up to high stands once among numbers that don't fall, of which n is the first, and no other does.
module _ (n : ℕ) (ns : List ℕ) (low high : ℕ) (up : Ascends (n ∷ ns)) (once : (i : ℕ) → low ≤ i → i < high → times i (n ∷ ns) ≡ 1)
    (below : (i : ℕ) → i < low → times i (n ∷ ns) ≡ 0) (above : (i : ℕ) → high ≤ i → times i (n ∷ ns) ≡ 0) where
  not_below : n < low → ⊥
  not_below less = let first = times_here n n ns refl in let none = below n less in omega (arith, first, none)

  not_above : high ≤ n → ⊥
  not_above more = let first = times_here n n ns refl in let none = above n more in omega (arith, first, none)

  least : low ≤ n
  least = elim (cases_lt n low) [ inl h ↦ absurd (not_below h) | inr h ↦ (omega (arith, h)) ]

  most : n < high
  most = elim (cases_lt n high) [ inl h ↦ h | inr h ↦ absurd (not_above (omega (arith, h))) ]

  first_is : n ≡ low
  first_is =
      elim (cases_lt low n) [
        | inl h ↦ absurd (let none = none_below low n ns up h in let one = once low (omega arith) (let within = most in omega (arith, h, within)) in omega (arith, none, one))
        | inr h ↦ (let from = least in omega (arith, h, from))
      ]

  rest_once : (i : ℕ) → low + 1 ≤ i → i < high → times i ns ≡ 1
  rest_once i le less = sym (times_there i n ns (λ is. (let first = first_is in omega (arith, le, is, first)))) ∙ once i (omega (arith, le)) less

  rest_below : (i : ℕ) → i < low + 1 → times i ns ≡ 0
  rest_below i less =
      elim (cases_eq i n) [
        | inl h ↦ (let first = times_here i n ns (sym h) in
            let one = once i (let start = first_is in omega (arith, h, start)) (let within = most in omega (arith, h, within)) in omega (arith, first, one))
        | inr h ↦ sym (times_there i n ns (λ is. h (sym is))) ∙ below i (let start = first_is in omega (arith, less, h, start))
      ]

  rest_above : (i : ℕ) → high ≤ i → times i ns ≡ 0
  rest_above i more = sym (times_there i n ns (λ is. (let within = most in omega (arith, more, is, within)))) ∙ above i more

-- so each stands at its distance from low
at_its_place : (ns : List ℕ) (low high : ℕ) → Ascends ns → ((i : ℕ) → low ≤ i → i < high → times i ns ≡ 1) → ((i : ℕ) → i < low → times i ns ≡ 0)
    → ((i : ℕ) → high ≤ i → times i ns ≡ 0) → (k d : ℕ) → k < length ns → get_or ns k d ≡ low + k
at_its_place [] low high up once below above k d lt = absurd (omega (arith, lt))
at_its_place (n ∷ ns) low high up once below above zero d lt = (let start = first_is n ns low high up once below above in omega (arith, start))
at_its_place (n ∷ ns) low high up once below above (suc k) d lt =
    let more = at_its_place ns (low + 1) high (ascends_tail n ns up) (rest_once n ns low high up once below above) (rest_below n ns low high up once below above)
    (rest_above n ns low high up once below above) k d (omega (arith, lt)) in
    omega (arith, more)

-- Lanes.

module _ {I O : Type 0} {gi : _} {go : _} {gm : _} (xs ys : List (OwnLane I O gi go gm)) (are : IsPermutation xs ys) (once : AreNumbers (length xs) (numbers_of xs))
    (up : (k : ℕ) (d : OwnLane I O gi go gm) → k + 1 < length ys → index_in (slice_index_or ys k d).lane ≤ index_in (slice_index_or ys (k + 1) d).lane) where
  long : length (numbers_of ys) ≡ length ys
  long = length-map ys (λ (own : OwnLane I O gi go gm). index_in own.lane)

  same_times : (i : ℕ) → times i (numbers_of ys) ≡ one_where (nat_lt i (length xs))
  same_times i =
      sum_by-IsPermutation _ (numbers_of xs) (numbers_of ys) (IsPermutation-map (λ (own : OwnLane I O gi go gm). index_in own.lane) xs ys are) ∙ once i

  number_at : (k d : ℕ) (x : OwnLane I O gi go gm) → k < length ys → get_or (numbers_of ys) k d ≡ index_in (slice_index_or ys k x).lane
  number_at k d x lt = get_or-map (λ (own : OwnLane I O gi go gm). index_in own.lane) ys k x d lt

  if_less : (i n : ℕ) → i < n → one_where (nat_lt i n) ≡ 1
  if_less i n lt = case (nat_lt i n) (grind (arith, nat_tests))
    where
      case : (b : Bool) → b ≡ true → one_where b ≡ 1
      case true q = refl
      case false q = absurd (cc)

  if_not_less : (i n : ℕ) → n ≤ i → one_where (nat_lt i n) ≡ 0
  if_not_less i n le = case (nat_lt i n) (grind (arith, nat_tests))
    where
      case : (b : Bool) → b ≡ false → one_where b ≡ 0
      case false q = refl
      case true q = absurd (cc)

  pub in_order : AreInOrder ys
  in_order i d lt =
      let place = at_its_place (numbers_of ys) 0 (length xs)
      (λ k e less. let first = number_at k e d (omega (arith, less, long)) in let next = number_at (k + 1) e d (omega (arith, less, long)) in
      let step = up k d (omega (arith, less, long)) in omega (arith, first, next, step))
      (λ j le less. same_times j ∙ if_less j (length xs) less) (λ j less. absurd (omega (arith, less))) (λ j le. same_times j ∙ if_not_less j (length xs) le)
      i i (omega (arith, lt, long)) in
      let same = number_at i i d lt in omega (arith, place, same)
