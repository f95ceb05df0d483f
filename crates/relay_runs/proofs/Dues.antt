-- For how many datagrams threads of media wait, and how many their lanes took.
use Rattle.std.proofs.Common.{◌≡◌, ◌∙◌, refl, sym, ap, subst, ℕ, zero, suc, ◌+◌, ◌-◌, ◌*◌, ◌/◌, ◌^◌, ◌<◌, ◌≤◌, min, inl, inr, List, [], ◌∷◌, ◌++◌, Option, All, length, get_or, set, take, arith}
use Rattle.std.specs.List.{AllZip, sum_by}
use Rattle.std.specs.List.Sorted.{IsPermutation}
use Rattle.std.specs.Prelude.{vec_capacity}
use Rattle.std.proofs.Math.Seq.{take-suc}
use Rattle.std.proofs.lemmas.List.Elements.{All-nil, All-cons, All-append}
use Rattle.std.proofs.Math.Nat.{add-div_right, add-mul, div-eq_of_lt}
use Rattle.std.proofs.lemmas.Bool.{cases_lt}
use Rattle.std.proofs.lemmas.List.Sorted.{sum_by-IsPermutation}
use Rattle.std.proofs.lemmas.List.Sums.{sum_by-cons}
use Rattle.media_lane.specs.declared.answers.Totals.{Totals}
use Rattle.relay_runs.specs.declared.lanes.OwnLane.{OwnLane}
use Rattle.relay_runs.specs.declared.media_thread.MediaThread.{MediaThread}
use Rattle.relay_runs.specs.declared.media_thread.Until.{Until}
use Rattle.relay_runs.specs.declared.media_thread.Until.TheVariants as until
use Rattle.relay_runs.specs.Threads.{AddsEach, AddsLane, Each, GoesOn, HasRoomForLanes, Swept, all_lanes, due_in, due_of, pairs_before, pairs_of_lane, lanes_took}
use Rattle.relay_runs.proofs.MediaThreads.{zip_each}

-- How pairs are shared out among lanes.

-- a lane whose index is not among the pairs' numbers has none of them
pub lane_none : (pairs lanes index : ℕ) → pairs ≤ index → index < lanes → pairs_of_lane pairs lanes index ≡ 0
lane_none pairs lanes index few lt = div-eq_of_lt (omega (arith, few, lt))

pub lane_some : (pairs lanes index : ℕ) → index < pairs → index < lanes → (pairs - 1 - index) / lanes + 1 ≡ pairs_of_lane pairs lanes index
lane_some pairs lanes index within lt =
    let moved : pairs - 1 - index + lanes ≡ pairs + (lanes - 1 - index) = omega (arith, within, lt) in
    let some : 0 < lanes = omega (arith, lt) in
    sym (add-div_right (pairs - 1 - index) some) ∙ ap (λ (n : ℕ). n / lanes) moved

none_before : (lanes index : ℕ) → index ≤ lanes → pairs_before 0 lanes index ≡ 0
none_before lanes zero le = refl
none_before lanes (suc index) le =
    let before = none_before lanes index (omega (arith, le)) in
    let here = lane_none 0 lanes index (omega arith) (omega (arith, le)) in
    omega (arith, before, here)

-- with one pair more each lane has the pairs that the one before it had
shifted : (pairs lanes index : ℕ) → index ≤ lanes
    → pairs_before (pairs + 1) lanes index + (pairs + (lanes - index)) / lanes ≡ (pairs + lanes) / lanes + pairs_before pairs lanes index
shifted pairs lanes zero le =
    let none : pairs + (lanes - 0) ≡ pairs + lanes = omega arith in
    let e = ap (λ (n : ℕ). n / lanes) none in
    omega (arith, e)
shifted pairs lanes (suc index) le =
    let so_far = shifted pairs lanes index (omega (arith, le)) in
    let first : pairs + 1 + (lanes - 1 - index) ≡ pairs + (lanes - index) = omega (arith, le) in
    let second : pairs + (lanes - suc index) ≡ pairs + (lanes - 1 - index) = omega (arith, le) in
    let before = ap (λ (n : ℕ). n / lanes) first in
    let after = ap (λ (n : ℕ). n / lanes) second in
    omega (arith, so_far, before, after)

-- each pair is one lane's
pub all_shared : (pairs lanes : ℕ) → 0 < lanes → pairs_before pairs lanes lanes ≡ pairs
all_shared zero lanes some = none_before lanes lanes (omega arith)
all_shared (suc pairs) lanes some =
    let more : pairs + 1 ≡ suc pairs = omega arith in
    let whole = ap (λ (n : ℕ). pairs_before n lanes lanes) more in
    let moved = shifted pairs lanes lanes (omega arith) in
    let rest : pairs + (lanes - lanes) ≡ pairs = omega arith in
    let left = ap (λ (n : ℕ). n / lanes) rest in
    let one = add-div_right pairs some in
    let before = all_shared pairs lanes some in
    omega (arith, whole, moved, left, one, before)

before_next : (pairs lanes index : ℕ) → pairs_before pairs lanes (index + 1) ≡ pairs_before pairs lanes index + pairs_of_lane pairs lanes index
before_next pairs lanes index = let next : index + 1 ≡ suc index = omega arith in ap (λ (n : ℕ). pairs_before pairs lanes n) next

module _ {I O : Type 0} {gi : _} {go : _} {gm : _} where
  -- Threads.

  pub due_push : (xs : List (MediaThread I O gi go gm)) (y : MediaThread I O gi go gm) → due_in (xs ++ y ∷ []) ≡ due_in xs + due_of y.until
  due_push [] y = omega arith
  due_push (x ∷ xs) y = let rest = due_push xs y in omega (arith, rest)

  -- one more thread has room
  pub room_push : (lanes : ℕ) (xs zs : List (MediaThread I O gi go gm)) (y : MediaThread I O gi go gm) → zs ≡ xs ++ y ∷ [] → All (λ (thread : MediaThread I O gi go gm). HasRoomForLanes lanes thread) xs
      → y.lanes.items ≡ [] → lanes ≤ vec_capacity y.lanes → All (λ (thread : MediaThread I O gi go gm). HasRoomForLanes lanes thread) zs
  room_push lanes xs zs y is all empty room =
      let P : MediaThread I O gi go gm → Type 0 = λ thread. HasRoomForLanes lanes thread in
      subst (λ (ts : List (MediaThread I O gi go gm)). All P ts) (sym is)
      (All-append P xs (y ∷ []) all (All-cons P y [] (record { empty = empty; room = room }) (All-nil P)))

  -- one more thread, which waits for what comes to the next lane
  pub due_next : (xs zs : List (MediaThread I O gi go gm)) (y : MediaThread I O gi go gm) (pairs packets lanes index : ℕ) → zs ≡ xs ++ y ∷ []
      → y.until ≡ until.Taken (pairs_of_lane pairs lanes index * packets) → due_in xs ≡ pairs_before pairs lanes index * packets
      → due_in zs ≡ pairs_before pairs lanes (index + 1) * packets
  due_next xs zs y pairs packets lanes index is waits before =
      ap (λ (ts : List (MediaThread I O gi go gm)). due_in ts) is
      ∙ due_push xs y
      ∙ ap (λ (n : ℕ). n + due_of y.until) before
      ∙ ap (λ (u : Until). pairs_before pairs lanes index * packets + due_of u) waits
      ∙ sym (ap (λ (n : ℕ). n * packets) (before_next pairs lanes index) ∙ add-mul (pairs_before pairs lanes index) (pairs_of_lane pairs lanes index) packets)

  due_set : (xs : List (MediaThread I O gi go gm)) (at : ℕ) (y : MediaThread I O gi go gm) → at < length xs
      → ((d : MediaThread I O gi go gm) → y.until ≡ (get_or xs at d).until) → due_in (set xs at y) ≡ due_in xs
  due_set [] at y lt is = refl
  due_set (x ∷ xs) zero y lt is = ap (λ (u : Until). due_of u + due_in xs) (is x)
  due_set (x ∷ xs) (suc at) y lt is = ap (λ (n : ℕ). due_of x.until + n) (due_set xs at y (omega (arith, lt)) is)

  -- a lane was added to one of them
  pub due_same : (xs zs : List (MediaThread I O gi go gm)) (at : ℕ) (own : OwnLane I O gi go gm) → at < length xs → AddsLane at own xs zs → due_in zs ≡ due_in xs
  due_same xs zs at own lt adds = ap (λ (ts : List (MediaThread I O gi go gm)). due_in ts) adds.new_is ∙ due_set xs at adds.grown lt adds.until

  -- Lanes.

  taken_both : (xs ys : List (OwnLane I O gi go gm)) → lanes_took (xs ++ ys) ≡ lanes_took xs + lanes_took ys
  taken_both [] ys = omega arith
  taken_both (x ∷ xs) ys = let rest = taken_both xs ys in omega (arith, rest)

  -- one lane more
  pub taken_next : (xs items : List (OwnLane I O gi go gm)) (index : ℕ) (x : OwnLane I O gi go gm) (old new : ℕ) → items ≡ xs → index < length xs → x ≡ get_or items index x
      → old ≡ min (lanes_took (take index xs)) (2 ^ 64 - 1) → new ≡ min (old + x.totals.taken) (2 ^ 64 - 1) → new ≡ min (lanes_took (take (index + 1) xs)) (2 ^ 64 - 1)
  taken_next xs items index x old new same lt is before sum =
      let next : index + 1 ≡ suc index = omega arith in
      let here : get_or xs index x ≡ x = sym (is ∙ ap (λ (zs : List (OwnLane I O gi go gm)). get_or zs index x) same) in
      let more = ap (λ (n : ℕ). lanes_took (take n xs)) next
      ∙ ap (λ (zs : List (OwnLane I O gi go gm)). lanes_took zs) (take-suc xs index x lt)
      ∙ taken_both (take index xs) (get_or xs index x ∷ [])
      ∙ ap (λ (own : OwnLane I O gi go gm). lanes_took (take index xs) + (own.totals.taken + 0)) here in
      omega (arith, more, before, sum)

  zip_taken : (n : ℕ) (range : Option (ℕ × ℕ)) (gate : ℕ → Type 0) (xs ys : List (OwnLane I O gi go gm)) → AllZip (Swept n range gate) xs ys → lanes_took xs ≤ lanes_took ys
  zip_taken n range gate [] [] swept = omega arith
  zip_taken n range gate [] (y ∷ ys) swept = absurd swept
  zip_taken n range gate (x ∷ xs) [] swept = absurd swept
  zip_taken n range gate (x ∷ xs) (y ∷ ys) swept =
      let here = swept.0.taken in
      let rest = zip_taken n range gate xs ys swept.1 in
      omega (arith, here, rest)

  -- sweeps take more
  pub each_taken : (n : ℕ) (range : Option (ℕ × ℕ)) (gate : ℕ → Type 0) (xs ys : List (OwnLane I O gi go gm)) → Each (Swept n range gate) xs ys → lanes_took xs ≤ lanes_took ys
  each_taken n range gate xs ys each = zip_taken n range gate xs ys (zip_each (Swept n range gate) xs ys each.as_many each.at)

  -- the sum of what lanes took, up to the end of its type
  pub adds_least : (xs : List (OwnLane I O gi go gm)) (old new : Totals) (n : ℕ) → AddsEach xs old new → n < 2 ^ 64 → n ≤ old.taken + lanes_took xs → n ≤ new.taken
  adds_least [] old new n adds few le = subst (λ (t : Totals). n ≤ t.taken) (sym adds) (omega (arith, le))
  adds_least (x ∷ xs) old new n adds few le =
      let sum = adds.1.taken in
      adds_least xs adds.0 new n adds.2 few (omega (arith, sum, few, le))

  taken_sum : (xs : List (OwnLane I O gi go gm)) → lanes_took xs ≡ sum_by (λ (own : OwnLane I O gi go gm). own.totals.taken) xs
  taken_sum [] = refl
  taken_sum (x ∷ xs) = ap (λ (n : ℕ). x.totals.taken + n) (taken_sum xs) ∙ sym (sum_by-cons (λ (own : OwnLane I O gi go gm). own.totals.taken) x xs)

  -- in whatever order they stand
  pub same_taken : (xs ys : List (OwnLane I O gi go gm)) → IsPermutation xs ys → lanes_took ys ≡ lanes_took xs
  same_taken xs ys are = taken_sum ys ∙ sum_by-IsPermutation (λ (own : OwnLane I O gi go gm). own.totals.taken) xs ys are ∙ sym (taken_sum xs)

-- All work was done.

due_least : (u : Until) (taken : ℕ) → (GoesOn u taken → ⊥) → due_of u ≤ taken
due_least until.Halted taken done = omega arith
due_least (until.Taken due) taken done =
    elim (cases_lt taken due) [
      | inl h ↦ absurd (done h)
      | inr h ↦ omega (arith, h)
    ]

module _ {I O : Type 0} {gi : _} {go : _} {gm : _} where
  zip_done : (xs ys : List (MediaThread I O gi go gm)) → AllZip (λ (x y : MediaThread I O gi go gm). GoesOn x.until (lanes_took y.lanes.items) → ⊥) xs ys → due_in xs ≤ lanes_took (all_lanes ys)
  zip_done [] [] done = omega arith
  zip_done [] (y ∷ ys) done = absurd done
  zip_done (x ∷ xs) [] done = absurd done
  zip_done (x ∷ xs) (y ∷ ys) done =
      let here = due_least x.until (lanes_took y.lanes.items) done.0 in
      let rest = zip_done xs ys done.1 in
      let both = taken_both y.lanes.items (all_lanes ys) in
      omega (arith, here, rest, both)

  -- xs are the threads before their work, and ys after it
  pub all_done : (xs ys : List (MediaThread I O gi go gm)) → length ys ≡ length xs
      → ((i : ℕ) (d : MediaThread I O gi go gm) → i < length xs → GoesOn (get_or xs i d).until (lanes_took (get_or ys i d).lanes.items) → ⊥)
      → due_in xs ≤ lanes_took (all_lanes ys)
  all_done xs ys many done = zip_done xs ys (zip_each (λ (x y : MediaThread I O gi go gm). GoesOn x.until (lanes_took y.lanes.items) → ⊥) xs ys many done)
