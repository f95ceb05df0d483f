-- Pairs that stand just once, free or held.
use Rattle.std.proofs.Common.{◌≡◌, ◌∙◌, refl, sym, ap, subst, ℕ, ◌+◌, ◌<◌, ◌≤◌, ◌==◌, ◌⊎◌, inl, inr, Bool, true, false, ◌||◌, List, [], ◌∷◌, ◌++◌, length, arith}
use Rattle.std.specs.Prelude.{count_by}
use Rattle.relay_outside.specs.declared.settings.Config.{Config}
use Rattle.histories.specs.Words.{In, here, there, has}
use Rattle.histories.proofs.Lists.{in_append, in_right, equal, maps, mapped}
use Rattle.port_pool.specs.declared.holder.Holder.{Holder}
use Rattle.port_pool.specs.Ports.{pair_count}
use Rattle.port_pool.specs.Pools.{Pairs, AreFree, generation}
use Rattle.port_pool.proofs.Addresses.{at_least_once}
use Rattle.call_board.proofs.Sieves.{has_append}
use Rattle.call_shapes.specs.Turns.{pairs_held}
use Rattle.call_shapes.specs.WholeRelay.{PoolHolds}
use Rattle.call_shapes.proofs.Times.{times, one_if, count_times, free_times, some_times, none_times, times_none}
use Rattle.call_shapes.proofs.Rising.{cell_high}
use Rattle.whole_records.specs.RecordParts.{StandOnce, PairsStand}

-- numbers below the count of which each stands at most once
few_free : (count : ℕ) (xs : List ℕ) → ((x : ℕ) → In x xs → x < count) → ((k : ℕ) → k < count → times k xs ≤ 1) → AreFree count xs
few_free count [] below few = tt
few_free count (x ∷ xs) below few =
    let low = below x (here refl) in
    let most : one_if (x == x) + times x xs ≤ 1 = few x low in
    let itself : one_if (x == x) ≡ 1 = ap one_if (equal x x refl) in
    let out : has xs x ≡ false = times_none x xs (omega (arith, most, itself)) in
    (low, out, few_free count xs (λ y at. below y (there at)) (λ k small. (let one : one_if (x == k) + times k xs ≤ 1 = few k small in omega (arith, one))))

free_left : (count : ℕ) (xs ys : List ℕ) → AreFree count (xs ++ ys) → AreFree count xs
free_left count [] ys h = tt
free_left count (x ∷ xs) ys h = (h.0, (or_false (has xs x) (has ys x) (sym (has_append xs ys x) ∙ h.1)), free_left count xs ys h.2)
  where
    or_false : (a b : Bool) → (a || b) ≡ false → a ≡ false
    or_false true b e = absurd (let f : true ≡ false = e in cc)
    or_false false b e = refl

free_right : (count : ℕ) (xs ys : List ℕ) → AreFree count (xs ++ ys) → AreFree count ys
free_right count [] ys h = h
free_right count (x ∷ xs) ys h = free_right count xs ys h.2

free_lower : (count n : ℕ) (xs : List ℕ) → AreFree count xs → ((x : ℕ) → In x xs → x < n) → AreFree n xs
free_lower count n [] h low = tt
free_lower count n (x ∷ xs) h low = (low x (here refl), h.1, free_lower count n xs h.2 (λ y at. low y (there at)))

has_once : (n : ℕ) (xs : List ℕ) → times n xs ≡ 1 → has xs n ≡ true
has_once n xs one = by (has xs n) refl
  where
    by : (b : Bool) → has xs n ≡ b → b ≡ true
    by true is = refl
    by false is = absurd (let none = none_times n xs is in omega (arith, none, one))

pub stands_once : (count : ℕ) (xs : List ℕ) → StandOnce count xs → (pair : ℕ) → pair < count → count_by (λ p. p == pair) xs ≡ 1
stands_once count xs h pair below =
    let counted = count_times pair xs in
    let most = free_times count pair xs h.free in
    let some = some_times pair xs (h.all pair below) in
    omega (arith, counted, most, some)

below_count : (config : Config) (pool : Pairs) (held : List Holder) → PoolHolds config pool held → (x : ℕ)
    → (In x (pool.free4 ++ pool.free6)) ⊎ (In x (pairs_held held)) → x < pair_count config
below_count config pool held h x (inl free) = by (in_append pool.free4 pool.free6 free)
  where
    by : In x pool.free4 ⊎ In x pool.free6 → x < pair_count config
    by (inl at) = let low = cell_high pool.per_family pool.free4 h.families4 x at in let per = h.per_is in let least = at_least_once config in omega (arith, low, per, least)
    by (inr at) = let low = cell_high (length pool.generations) pool.free6 h.below x at in let count = h.count_is in omega (arith, low, count)
below_count config pool held h x (inr at) =
    let made = mapped (λ (leg : Holder). leg.pair) held at in
    let low = (h.generations made.from made.is_in).0 in
    let same = made.makes in
    omega (arith, low, same)

pub holds_stand : (config : Config) (pool : Pairs) (held : List Holder) → PoolHolds config pool held → PairsStand config pool (pairs_held held)
holds_stand config pool held h =
    let all = pool.free4 ++ pool.free6 ++ pairs_held held in
    let one = λ (k : ℕ) (below : k < pair_count config). (let counted = count_times k all in let is = h.once k below in let e : times k all ≡ 1 = omega (arith, counted, is) in e) in
    record {
      range = record {
        first_is = h.first_is;
        per_is = h.per_is;
        count_is = h.count_is;
        low = λ pair at. cell_high pool.per_family pool.free4 h.families4 pair at;
        later = h.families6;
      };
      once = record {
        free = few_free (pair_count config) all (λ x at. below_count config pool held h x (in_append (pool.free4 ++ pool.free6) (pairs_held held) at))
            (λ k below. (let is = one k below in omega (arith, is)));
        all = λ pair below. has_once pair all (one pair below);
      };
    }

pub stand_holds : (config : Config) (pool : Pairs) (held : List Holder) → PairsStand config pool (pairs_held held)
    → ((leg : Holder) → In leg held → generation pool leg.pair ≡ leg.generation) → PoolHolds config pool held
stand_holds config pool held h last =
    let count = pair_count config in
    let queues = pool.free4 ++ pool.free6 in
    let all = queues ++ pairs_held held in
    let free = free_left count queues (pairs_held held) h.once.free in
    record {
      first_is = h.range.first_is;
      per_is = h.range.per_is;
      count_is = h.range.count_is;
      families4 = free_lower count pool.per_family pool.free4 (free_left count pool.free4 pool.free6 free) h.range.low;
      families6 = h.range.later;
      below = subst (λ n. AreFree n pool.free6) (sym h.range.count_is) (free_right count pool.free4 pool.free6 free);
      once = stands_once count all h.once;
      generations = λ leg at. (cell_high count all h.once.free leg.pair (in_right queues (pairs_held held) (maps (λ (l : Holder). l.pair) held at)), last leg at);
    }
