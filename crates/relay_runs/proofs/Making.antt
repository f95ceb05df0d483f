-- How lanes are shared out: each becomes one of some thread's.
use Rattle.std.proofs.Common.{◌≡◌, ◌∙◌, refl, sym, ap, subst, ℕ, zero, suc, ◌+◌, ◌<◌, ◌≤◌, inl, inr, Bool, true, false, List, [], ◌∷◌, ◌++◌, All, length, length-append, get_or, set, arith}
use Rattle.std.specs.Prelude.{nat_lt, count_by, ◌==◌, vec_capacity}
use Rattle.std.proofs.lemmas.Bool.{cases_lt, cases_eq}
use Rattle.std.proofs.lemmas.Bool.Decides.{nat_tests}
use Rattle.std.proofs.lemmas.List.{get_or-set_other, length-set, map-append}
use Rattle.std.proofs.lemmas.Grind.{get_or-set_at}
use Rattle.std.proofs.lemmas.List.Sums.{sum_by-append}
use Rattle.std.proofs.lemmas.List.Elements.{All-nil, All-cons, All-append}
use Rattle.relay_outside.specs.declared.settings.Config.{Config}
use Rattle.turn_table.specs.declared.hands.Turns.{Turns}
use Rattle.turn_table.specs.declared.hands.Hand.{Hand}
use Rattle.turn_table.specs.Hands.{IsHandOf, IsCut, view, entries, parts}
use Rattle.relay_core.specs.declared.part.Part.{Part}
use Rattle.relay_core.specs.declared.machine.Relay.{Relay}
use Rattle.relay_core.specs.Records.{Made}
use Rattle.media_lane.specs.Lanes.{hand_in, config_in, index_in, lanes_in}
use Rattle.media_lane.specs.Visits.{AreTotals, one_where}
use Rattle.relay_runs.specs.declared.lanes.OwnLane.{OwnLane}
use Rattle.relay_runs.specs.declared.media_thread.MediaThread.{MediaThread}
use Rattle.relay_runs.specs.Threads.{AreNumbers, HasRoomForLanes, AddsLane, all_lanes, numbers_of, IsFreshLane}

-- A fact of each element of a list, of which one is another.
module _ {X : Type 0} (P : X → Type 0) (xs : List X) (at : ℕ) (y : X) where
  pub all_set : All P xs → P y → All P (set xs at y)
  all_set all new i d lt =
      let long = length-set xs at y in
      elim (cases_eq i at) [
        | inl h ↦ subst P (sym (get_or-set_at xs at i y d h (omega (arith, lt, long, h)))) new
        | inr h ↦ subst P (sym (get_or-set_other xs at i y d h)) (all i d (omega (arith, lt, long)))
      ]

-- Tests.

one_more : (i n : ℕ) → one_where (nat_lt i n) + one_where (n == i) ≡ one_where (nat_lt i (n + 1))
one_more i n =
    elim (cases_lt i n) [
      | inl h ↦ below (nat_lt i n) (n == i) (nat_lt i (n + 1)) (grind (arith, nat_tests)) (grind (arith, nat_tests)) (grind (arith, nat_tests))
      | inr h ↦
          elim (cases_eq i n) [
            | inl s ↦ here_now (nat_lt i n) (n == i) (nat_lt i (n + 1)) (grind (arith, nat_tests)) (grind (arith, nat_tests)) (grind (arith, nat_tests))
            | inr s ↦ above (nat_lt i n) (n == i) (nat_lt i (n + 1)) (grind (arith, nat_tests)) (grind (arith, nat_tests)) (grind (arith, nat_tests))
          ]
    ]
  where
    below : (x y z : Bool) → x ≡ true → y ≡ false → z ≡ true → one_where x + one_where y ≡ one_where z
    below true false true p q r = refl
    below true false false p q r = absurd (cc)
    below true true z p q r = absurd (cc)
    below false y z p q r = absurd (cc)

    here_now : (x y z : Bool) → x ≡ false → y ≡ true → z ≡ true → one_where x + one_where y ≡ one_where z
    here_now false true true p q r = refl
    here_now false true false p q r = absurd (cc)
    here_now false false z p q r = absurd (cc)
    here_now true y z p q r = absurd (cc)

    above : (x y z : Bool) → x ≡ false → y ≡ false → z ≡ false → one_where x + one_where y ≡ one_where z
    above false false false p q r = refl
    above false false true p q r = absurd (cc)
    above false true z p q r = absurd (cc)
    above true y z p q r = absurd (cc)

none_below : (i : ℕ) → 0 ≡ one_where (nat_lt i 0)
none_below i = case (nat_lt i 0) (grind (arith, nat_tests))
  where
    case : (b : Bool) → b ≡ false → 0 ≡ one_where b
    case false q = refl
    case true q = absurd (cc)

-- Lanes.

module _ {I O : Type 0} {gi : _} {go : _} {gm : _} where
  -- how often a number is among those of these lanes
  abbrev times : ℕ → List (OwnLane I O gi go gm) → ℕ
  times n lanes = count_by (λ (j : ℕ). j == n) (numbers_of lanes)

  times_both : (n : ℕ) (xs ys : List (OwnLane I O gi go gm)) → times n (xs ++ ys) ≡ times n xs + times n ys
  times_both n xs ys =
      ap (λ (ns : List ℕ). count_by (λ (j : ℕ). j == n) ns) (map-append (λ (own : OwnLane I O gi go gm). index_in own.lane) xs ys)
      ∙ sum_by-append _ (numbers_of xs) (numbers_of ys)

  -- one thread has one lane more
  times_set : (n : ℕ) (xs : List (MediaThread I O gi go gm)) (at : ℕ) (y : MediaThread I O gi go gm) (own : OwnLane I O gi go gm) → at < length xs
      → ((d : MediaThread I O gi go gm) → y.lanes.items ≡ (get_or xs at d).lanes.items ++ own ∷ [])
      → times n (all_lanes (set xs at y)) ≡ times n (all_lanes xs) + times n (own ∷ [])
  times_set n [] at y own lt is = absurd (omega (arith, lt))
  times_set n (x ∷ xs) zero y own lt is =
      let all = times_both n y.lanes.items (all_lanes xs) in
      let more = ap (λ (zs : List (OwnLane I O gi go gm)). times n zs) (is x) ∙ times_both n x.lanes.items (own ∷ []) in
      let before = times_both n x.lanes.items (all_lanes xs) in
      omega (arith, all, more, before)
  times_set n (x ∷ xs) (suc at) y own lt is =
      let all = times_both n x.lanes.items (all_lanes (set xs at y)) in
      let rest = times_set n xs at y own (omega (arith, lt)) is in
      let before = times_both n x.lanes.items (all_lanes xs) in
      omega (arith, all, rest, before)

  pub length_set : (xs : List (MediaThread I O gi go gm)) (at : ℕ) (y : MediaThread I O gi go gm) (own : OwnLane I O gi go gm) → at < length xs
      → ((d : MediaThread I O gi go gm) → y.lanes.items ≡ (get_or xs at d).lanes.items ++ own ∷ [])
      → length (all_lanes (set xs at y)) ≡ length (all_lanes xs) + 1
  length_set [] at y own lt is = absurd (omega (arith, lt))
  length_set (x ∷ xs) zero y own lt is =
      let all = length-append y.lanes.items (all_lanes xs) in
      let more = ap (λ (zs : List (OwnLane I O gi go gm)). length zs) (is x) ∙ length-append x.lanes.items (own ∷ []) in
      let before = length-append x.lanes.items (all_lanes xs) in
      omega (arith, all, more, before)
  length_set (x ∷ xs) (suc at) y own lt is =
      let all = length-append x.lanes.items (all_lanes (set xs at y)) in
      let rest = length_set xs at y own (omega (arith, lt)) is in
      let before = length-append x.lanes.items (all_lanes xs) in
      omega (arith, all, rest, before)

  one_time : (n k : ℕ) (own : OwnLane I O gi go gm) → index_in own.lane ≡ n → times k (own ∷ []) ≡ one_where (n == k)
  one_time n k own is = ap (λ (m : ℕ). count_by (λ (j : ℕ). j == k) (m ∷ [])) is ∙ counted (n == k)
    where
      counted : (b : Bool) → 0 + one_where b ≡ one_where b
      counted true = refl
      counted false = refl

  pub once_more : (n : ℕ) (xs zs : List (MediaThread I O gi go gm)) (at : ℕ) (own : OwnLane I O gi go gm) → at < length xs → AddsLane at own xs zs → index_in own.lane ≡ n
      → AreNumbers n (numbers_of (all_lanes xs)) → AreNumbers (n + 1) (numbers_of (all_lanes zs))
  once_more n xs zs at own lt adds is once i =
      ap (λ (ts : List (MediaThread I O gi go gm)). times i (all_lanes ts)) adds.new_is
      ∙ times_set i xs at adds.grown own lt adds.lanes_are
      ∙ ap (λ (k : ℕ). k + times i (own ∷ [])) (once i)
      ∙ ap (λ (k : ℕ). one_where (nat_lt i n) + k) (one_time n i own is)
      ∙ one_more i n

  pub long_more : (xs zs : List (MediaThread I O gi go gm)) (at : ℕ) (own : OwnLane I O gi go gm) → at < length xs → AddsLane at own xs zs → length (all_lanes zs) ≡ length (all_lanes xs) + 1
  long_more xs zs at own lt adds = ap (λ (ts : List (MediaThread I O gi go gm)). length (all_lanes ts)) adds.new_is ∙ length_set xs at adds.grown own lt adds.lanes_are

  pub many_more : (xs zs : List (MediaThread I O gi go gm)) (at : ℕ) (own : OwnLane I O gi go gm) → AddsLane at own xs zs → length zs ≡ length xs
  many_more xs zs at own adds = ap (λ (ts : List (MediaThread I O gi go gm)). length ts) adds.new_is ∙ length-set xs at adds.grown

  -- what is known of each thread is known of the one with a lane more
  module _ (xs zs : List (MediaThread I O gi go gm)) (at : ℕ) (own : OwnLane I O gi go gm) (lt : at < length xs) (adds : AddsLane at own xs zs) where
    pub fresh_more : (P : OwnLane I O gi go gm → Type 0) → All (λ (thread : MediaThread I O gi go gm). All P thread.lanes.items) xs → P own
        → All (λ (thread : MediaThread I O gi go gm). All P thread.lanes.items) zs
    fresh_more P all new =
        subst (λ (ts : List (MediaThread I O gi go gm)). All (λ (thread : MediaThread I O gi go gm). All P thread.lanes.items) ts) (sym adds.new_is)
        (all_set (λ (thread : MediaThread I O gi go gm). All P thread.lanes.items) xs at adds.grown all
        (subst (λ (lanes : List (OwnLane I O gi go gm)). All P lanes) (sym (adds.lanes_are adds.grown))
        (All-append P (get_or xs at adds.grown).lanes.items (own ∷ []) (all at adds.grown lt) (All-cons P own [] new (All-nil P)))))

    pub few_more : (n : ℕ) → All (λ (thread : MediaThread I O gi go gm). length thread.lanes.items ≤ n) xs → All (λ (thread : MediaThread I O gi go gm). length thread.lanes.items ≤ n + 1) zs
    few_more n all =
        subst (λ (ts : List (MediaThread I O gi go gm)). All (λ (thread : MediaThread I O gi go gm). length thread.lanes.items ≤ n + 1) ts) (sym adds.new_is)
        (all_set (λ (thread : MediaThread I O gi go gm). length thread.lanes.items ≤ n + 1) xs at adds.grown (λ i d le. (let few = all i d le in omega (arith, few)))
        (let few = all at adds.grown lt in
        let long = ap (λ (zs : List (OwnLane I O gi go gm)). length zs) (adds.lanes_are adds.grown) ∙ length-append (get_or xs at adds.grown).lanes.items (own ∷ []) in
        omega (arith, few, long)))

    pub room_more : (n : ℕ) → All (λ (thread : MediaThread I O gi go gm). n ≤ vec_capacity thread.lanes) xs → All (λ (thread : MediaThread I O gi go gm). n ≤ vec_capacity thread.lanes) zs
    room_more n all =
        subst (λ (ts : List (MediaThread I O gi go gm)). All (λ (thread : MediaThread I O gi go gm). n ≤ vec_capacity thread.lanes) ts) (sym adds.new_is)
        (all_set (λ (thread : MediaThread I O gi go gm). n ≤ vec_capacity thread.lanes) xs at adds.grown all
        (let room = all at adds.grown lt in let same = adds.room adds.grown in omega (arith, room, same)))

  -- Threads without a lane.

  no_lanes : (lanes : ℕ) (xs : List (MediaThread I O gi go gm)) → All (λ (thread : MediaThread I O gi go gm). HasRoomForLanes lanes thread) xs → all_lanes xs ≡ []
  no_lanes lanes [] all = refl
  no_lanes lanes (x ∷ xs) all =
      ap (λ (zs : List (OwnLane I O gi go gm)). zs ++ all_lanes xs) (all 0 x (omega arith)).empty ∙ no_lanes lanes xs (λ i d lt. all (suc i) d (omega (arith, lt)))

  module _ (lanes : ℕ) (xs : List (MediaThread I O gi go gm)) (all : All (λ (thread : MediaThread I O gi go gm). HasRoomForLanes lanes thread) xs) where
    pub no_fresh : (P : OwnLane I O gi go gm → Type 0) → All (λ (thread : MediaThread I O gi go gm). All P thread.lanes.items) xs
    no_fresh P i d lt = subst (λ (zs : List (OwnLane I O gi go gm)). All P zs) (sym (all i d lt).empty) (All-nil P)

    pub none_once : AreNumbers 0 (numbers_of (all_lanes xs))
    none_once i = ap (λ (zs : List (OwnLane I O gi go gm)). times i zs) (no_lanes lanes xs all) ∙ none_below i

    pub none_long : length (all_lanes xs) ≡ 0
    none_long = ap (λ (zs : List (OwnLane I O gi go gm)). length zs) (no_lanes lanes xs all)

    pub none_few : All (λ (thread : MediaThread I O gi go gm). length thread.lanes.items ≤ 0) xs
    none_few i d lt = (let e = ap (λ (zs : List (OwnLane I O gi go gm)). length zs) (all i d lt).empty in omega (arith, e))

-- A lane of a part of the main hand.
module _ {I O : Type 0} {gi : _} {go : _} {gm : _} (config : Config) (turns : Turns (Relay I O) (Part I O) Made (Unit {0})) where
  pub cut_fresh : (lanes : ℕ) (hand part : Hand (Relay I O) (Part I O) Made (Unit {0}) gm) (x : OwnLane I O gi go gm) → IsHandOf turns hand → IsCut hand part → hand_in x.lane ≡ part
      → config_in x.lane ≡ config → lanes_in x.lane ≡ lanes → AreTotals [] x.totals → IsFreshLane config turns lanes x
  cut_fresh lanes hand part x of_table cut hand_is config_is lanes_are no_totals = record {
    of_table = subst (λ (h : Hand (Relay I O) (Part I O) Made (Unit {0}) gm). IsHandOf turns h) (sym hand_is) (cut.0 ∙ of_table);
    one_part = subst (λ (h : Hand (Relay I O) (Part I O) Made (Unit {0}) gm). parts h ≡ 1) (sym hand_is) cut.3;
    not_main = subst (λ (h : Hand (Relay I O) (Part I O) Made (Unit {0}) gm). (view h).main ≡ false) (sym hand_is) cut.4;
    nothing = subst (λ (h : Hand (Relay I O) (Part I O) Made (Unit {0}) gm). entries h ≡ []) (sym hand_is) cut.2;
    config_is = config_is;
    lanes_are = lanes_are;
    no_totals = no_totals;
  }
