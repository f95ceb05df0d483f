-- What one more lease adds to those that were made.
use Rattle.std.proofs.Common.{◌≡◌, ◌∙◌, refl, ap, sym, subst, ℕ, zero, suc, ◌+◌, ◌*◌, ◌<◌, Bool, true, false, cond, not, List, [], ◌∷◌, ◌++◌, length, filter, take, drop, Option, Some, slice_index_or, slice_set, slice_get, option_map, append_assoc, append-nil, arith}
use Rattle.std.specs.Prelude.{count_by, ◌==◌, ◌&&◌, ◌||◌}
use Rattle.std.proofs.lemmas.List.{map_push, get_or-set_same, get_or-set_other, length-set}
use Rattle.std.proofs.lemmas.List.Sums.{sum_by-append}
use Rattle.relay_outside.specs.declared.address.Family.{Family}
use Rattle.relay_outside.specs.declared.address.Family.TheVariants.{V4, V6}
use Rattle.relay_outside.specs.declared.settings.Config.{Config}
use Rattle.histories.specs.Words.{In, here, has}
use Rattle.histories.proofs.Lists.{equal, equal_if, it_has, filtered}
use Rattle.port_pool.specs.Ports.{first_port, pair_count, pair_family, pair_port, place_in_family, family_eq, pairs_of_family}
use Rattle.port_pool.specs.Leases.{lease_of}
use Rattle.port_pool.specs.Pools as pools
use Rattle.port_pool.specs.Pools.{Pairs, AreFree, generation, free_pairs, with_free, with_generation, after_lease}
use Rattle.port_pool.specs.declared.pairs.Lease.{Lease}
use Rattle.port_pool.proofs.Standing.{stands_alike, same_family}
use Rattle.port_pool.specs.LeaseLists.{LeaseList}
use Rattle.offer_answer.specs.Rounds.{NewLeg}
use Rattle.call_board.specs.Pairs.{first_of, without_front, fronts}
use Rattle.call_board.specs.Plans.{RoomFor}
use Rattle.call_board.specs.declared.board.Board.{Board}
use Rattle.call_board.specs.Views.{View, with_leases}
use Rattle.call_board.specs.Boards.{BoardMatches, lease_at, leases_at, fronts_for}
use Rattle.call_board.proofs.Once.{Once}
use Rattle.call_board.proofs.Sieves.{filter_both, filter_alike, filter_whole, has_append, is_out, without_taken}
use Rattle.call_board.proofs.Free.{AreApart, pairs_apart, apart_without, family_if, in_first}

counted : (p : ℕ) (xs ys : List ℕ) → count_by (λ q. q == p) (xs ++ ys) ≡ count_by (λ q. q == p) xs + count_by (λ q. q == p) ys
counted p xs ys = sum_by-append (λ (q : ℕ). cond (q == p) 1 0) xs ys

-- pairs below a count, each once
pub once_free : (count : ℕ) (pairs : List ℕ) → AreFree count pairs → Once pairs
once_free count [] free = tt
once_free count (p ∷ pairs) free = (λ i. let among : has pairs p ≡ true = it_has p pairs i in let wrong : true ≡ false = sym among ∙ free.1 in cc, once_free count pairs free.2)

pub eq_itself : (f : Family) → family_eq f f ≡ true
eq_itself V4 = refl
eq_itself V6 = refl

-- Lists without pairs that were leased.

swapped : (a b : Bool) → (a && b) ≡ (b && a)
swapped true true = refl
swapped true false = refl
swapped false true = refl
swapped false false = refl

neither : (a b : Bool) → not (a || b) ≡ (not a && not b)
neither true b = refl
neither false b = refl

-- the pairs of a family without some are those of all without these
pub family_without : (config : Config) (pairs some : List ℕ) (family : Family) →
    pairs_of_family config (filter (λ p. not (has some p)) pairs) family ≡ filter (λ p. not (has some p)) (pairs_of_family config pairs family)
family_without config pairs some family =
    filter_both (λ p. family_eq (pair_family config p) family) (λ p. not (has some p)) pairs
    ∙ filter_alike (λ p. not (has some p) && family_eq (pair_family config p) family) (λ p. family_eq (pair_family config p) family && not (has some p)) pairs
    (λ p i. swapped (not (has some p)) (family_eq (pair_family config p) family))
    ∙ sym (filter_both (λ p. not (has some p)) (λ p. family_eq (pair_family config p) family) pairs)

without_more : (pairs some more : List ℕ) → filter (λ p. not (has more p)) (filter (λ p. not (has some p)) pairs) ≡ filter (λ p. not (has (some ++ more) p)) pairs
without_more pairs some more =
    filter_both (λ p. not (has more p)) (λ p. not (has some p)) pairs
    ∙ filter_alike (λ p. not (has some p) && not (has more p)) (λ p. not (has (some ++ more) p)) pairs
    (λ p i. sym (ap not (has_append some more p) ∙ neither (has some p) (has more p)))

first_taken : (xs : List ℕ) → first_of xs ≡ take 1 xs
first_taken [] = refl
first_taken (x ∷ xs) = refl

same_front : (lists : Family → List ℕ) (family other : Family) (b : Bool) → family_eq family other ≡ b → AreApart lists →
    filter (λ p. not (has (first_of (lists family)) p)) (lists other) ≡ cond b (drop 1 (lists other)) (lists other)
same_front lists family other true is apart =
    let same : family ≡ other = family_if family other is in
    subst (λ f. filter (λ p. not (has (first_of (lists f)) p)) (lists other) ≡ drop 1 (lists other)) (sym same)
    (ap (λ ps. filter (λ p. not (has ps p)) (lists other)) (first_taken (lists other)) ∙ without_taken 1 (lists other) (apart.each other))
same_front lists family other false is apart =
    filter_whole (λ p. not (has (first_of (lists family)) p)) (lists other)
    (λ p i. ap not (is_out p (first_of (lists family)) (λ j.
    let same : family ≡ other = apart.apart family other p (in_first p (lists family) j) i in
    let wrong : family_eq other other ≡ false = subst (λ f. family_eq f other ≡ false) same is in
    differs other wrong)))
  where
    differs : (f : Family) → family_eq f f ≡ false → ⊥
    differs f wrong = let e : true ≡ false = sym (eq_itself f) ∙ wrong in cc

-- the lists after the fronts for these legs were taken
abbrev rest_of : (Family → List ℕ) → List NewLeg → Family → List ℕ
rest_of lists [] = lists
rest_of lists (leg ∷ legs) = rest_of (without_front lists leg.family) legs

left_of : (lists : Family → List ℕ) (legs : List NewLeg) (family : Family) → AreApart lists → filter (λ p. not (has (fronts lists legs) p)) (lists family) ≡ rest_of lists legs family
left_of lists [] family apart = filter_whole (λ p. not (has [] p)) (lists family) (λ p i. refl)
left_of lists (leg ∷ legs) family apart =
    sym (without_more (lists family) (first_of (lists leg.family)) (fronts (without_front lists leg.family) legs))
    ∙ ap (filter (λ p. not (has (fronts (without_front lists leg.family) legs) p))) (same_front lists leg.family family (family_eq leg.family family) refl apart)
    ∙ left_of (without_front lists leg.family) legs family (apart_without lists leg.family apart)

fronts_more : (lists : Family → List ℕ) (legs : List NewLeg) (leg : NewLeg) → fronts lists (legs ++ leg ∷ []) ≡ fronts lists legs ++ first_of (rest_of lists legs leg.family)
fronts_more lists [] leg = append-nil (first_of (lists leg.family))
fronts_more lists (first ∷ legs) leg =
    ap (λ ps. first_of (lists first.family) ++ ps) (fronts_more (without_front lists first.family) legs leg)
    ∙ sym (append_assoc (first_of (lists first.family)) (fronts (without_front lists first.family) legs) (first_of (rest_of (without_front lists first.family) legs leg.family)))

-- the fronts for some legs and one more are those for the legs, and then the front of what is left
pub front_after : (config : Config) (v : View) (legs : List NewLeg) (leg : NewLeg) (pair : ℕ) (rest : List ℕ) → Once v.free →
    pairs_of_family config (with_leases v (fronts_for config v legs)).free leg.family ≡ pair ∷ rest →
    fronts_for config v (legs ++ leg ∷ []) ≡ fronts_for config v legs ++ pair ∷ []
front_after config v legs leg pair rest once is =
    let left : rest_of (pairs_of_family config v.free) legs leg.family ≡ pair ∷ rest =
    sym (left_of (pairs_of_family config v.free) legs leg.family (pairs_apart config v.free once))
    ∙ sym (family_without config v.free (fronts_for config v legs) leg.family) ∙ is in
    fronts_more (pairs_of_family config v.free) legs leg ∙ ap (λ ps. fronts_for config v legs ++ first_of ps) left

-- The pool after a lease.

leased_free : (pool : Pairs) (family other : Family) (pair : ℕ) (rest : List ℕ) → free_pairs (after_lease pool family pair rest) other ≡ cond (family_eq family other) rest (free_pairs pool other)
leased_free pool V4 V4 pair rest = refl
leased_free pool V4 V6 pair rest = refl
leased_free pool V6 V4 pair rest = refl
leased_free pool V6 V6 pair rest = refl

leased_first : (pool : Pairs) (family : Family) (pair : ℕ) (rest : List ℕ) → ((after_lease pool family pair rest).first_port ≡ pool.first_port) × ((after_lease pool family pair rest).per_family ≡ pool.per_family)
leased_first pool V4 pair rest = (refl, refl)
leased_first pool V6 pair rest = (refl, refl)

leased_generations : (pool : Pairs) (family : Family) (pair : ℕ) (rest : List ℕ) → (after_lease pool family pair rest).generations ≡ slice_set pool.generations pair (generation pool pair + 1)
leased_generations pool V4 pair rest = refl
leased_generations pool V6 pair rest = refl

generation_after : (generations : List ℕ) (pair other n : ℕ) (b : Bool) → (pair == other) ≡ b → pair < length generations → slice_index_or generations pair 0 ≡ n →
    slice_index_or (slice_set generations pair (n + 1)) other 0 ≡ slice_index_or generations other 0 + (0 + cond b 1 0)
generation_after generations pair other n true is within last =
    let same : pair ≡ other = equal_if pair other is in
    subst (λ q. slice_index_or (slice_set generations pair (n + 1)) q 0 ≡ slice_index_or generations q 0 + (0 + 1)) same
    (get_or-set_same generations pair (n + 1) 0 within ∙ (let e : n + 1 ≡ slice_index_or generations pair 0 + (0 + 1) = omega (arith, last) in e))
generation_after generations pair other n false is within last =
    get_or-set_other generations pair other (n + 1) 0 (λ e. let wrong : false ≡ true = sym is ∙ equal pair other (sym e) in cc)
    ∙ (let e : slice_index_or generations other 0 ≡ slice_index_or generations other 0 + (0 + 0) = omega arith in e)

family_left : (config : Config) (free : List ℕ) (family other : Family) (pair : ℕ) (rest : List ℕ) → Once free → pairs_of_family config free family ≡ pair ∷ rest → (b : Bool) → family_eq family other ≡ b →
    pairs_of_family config (filter (λ p. not (has (pair ∷ []) p)) free) other ≡ cond b rest (pairs_of_family config free other)
family_left config free family other pair rest once is b eq =
    family_without config free (pair ∷ []) other
    ∙ ap (λ ps. filter (λ p. not (has (first_of ps) p)) (pairs_of_family config free other)) (sym is)
    ∙ same_front (pairs_of_family config free) family other b eq (pairs_apart config free once)
    ∙ go b eq
  where
    go : (b : Bool) → family_eq family other ≡ b → cond b (drop 1 (pairs_of_family config free other)) (pairs_of_family config free other) ≡ cond b rest (pairs_of_family config free other)
    go true eq = ap (drop 1) (ap (pairs_of_family config free) (sym (family_if family other eq)) ∙ is)
    go false eq = refl

-- a pool of which the front of a family was leased stands for one pair less, and one lease more
pub lease_stands : (config : Config) (free : List ℕ) (leases : ℕ → ℕ) (pool : Pairs) (family : Family) (pair : ℕ) (rest : List ℕ) → pools.PoolStandsFor config free leases pool → Once free →
    pairs_of_family config free family ≡ pair ∷ rest → pair < pair_count config →
    pools.PoolStandsFor config (filter (λ p. not (has (pair ∷ []) p)) free) (λ q. leases q + count_by (λ p. p == q) (pair ∷ [])) (after_lease pool family pair rest)
lease_stands config free leases pool family pair rest stands once is within = record {
  first_is = (leased_first pool family pair rest).0 ∙ stands.first_is;
  per_is = (leased_first pool family pair rest).1 ∙ stands.per_is;
  count_is = ap length (leased_generations pool family pair rest) ∙ length-set pool.generations pair (generation pool pair + 1) ∙ stands.count_is;
  free_is = λ other.
      leased_free pool family other pair rest
      ∙ ap (λ ps. cond (family_eq family other) rest ps) (stands.free_is other)
      ∙ sym (family_left config free family other pair rest once is (family_eq family other) refl);
  leases_are = λ q below.
      ap (λ gs. slice_index_or gs q 0) (leased_generations pool family pair rest)
      ∙ generation_after pool.generations pair q (generation pool pair) (pair == q) refl (let e = stands.count_is in omega (arith, e, within)) refl
      ∙ ap (λ n. n + (0 + cond (pair == q) 1 0)) (stands.leases_are q below);
}

-- the lease of a pair that the pool makes is its next one
pub lease_same : (config : Config) (free : List ℕ) (leases : ℕ → ℕ) (pool : Pairs) (pair : ℕ) → pools.PoolStandsFor config free leases pool → pair < pair_count config → lease_of pool pair ≡ lease_at config leases pair
lease_same config free leases pool pair stands within =
    let family = same_family config free leases pool pair stands in
    let port : pool.first_port + 2 * place_in_family pool.per_family pair ≡ pair_port config pair =
    ap (λ n. n + 2 * place_in_family pool.per_family pair) stands.first_is ∙ ap (λ n. first_port config + 2 * place_in_family n pair) stands.per_is in
    let generation = ap (λ n. n + 1) (stands.leases_are pair within) in
    λ i. record { pair = pair; family = family i; rtp_port = port i; generation = generation i }

-- The board after leases.

-- the board after one more lease
pub one_more_leased : (config : Config) (board : Board) (v : View) (some : List ℕ) (pair : ℕ) → BoardMatches config board (with_leases (with_leases v some) (pair ∷ [])) →
    BoardMatches config board (with_leases v (some ++ pair ∷ []))
one_more_leased config board v some pair s = record {
  config_is = s.config_is;
  moment_is = s.moment_is;
  begun_is = s.begun_is;
  drawn_is = s.drawn_is;
  calls_for = s.calls_for;
  cells_for = s.cells_for;
  pool_for = subst (λ (free : List ℕ). pools.PoolStandsFor config free (with_leases v (some ++ pair ∷ [])).leases board.pool) (without_more v.free some (pair ∷ []))
      (stands_alike config (filter (λ p. not (has (pair ∷ []) p)) (with_leases v some).free) (with_leases (with_leases v some) (pair ∷ [])).leases (with_leases v (some ++ pair ∷ [])).leases board.pool s.pool_for
      (λ q within. let sum = counted q some (pair ∷ []) in omega (arith, sum)));
  replies_for = s.replies_for;
}

-- no lease was made yet
pub none_leased : (config : Config) (board : Board) (v : View) → BoardMatches config board v → BoardMatches config board (with_leases v [])
none_leased config board v s = record {
  config_is = s.config_is;
  moment_is = s.moment_is;
  begun_is = s.begun_is;
  drawn_is = s.drawn_is;
  calls_for = s.calls_for;
  cells_for = s.cells_for;
  pool_for = subst (λ (free : List ℕ). pools.PoolStandsFor config free (with_leases v []).leases board.pool) (sym (filter_whole (λ p. not (has [] p)) v.free (λ p i. refl)))
      (stands_alike config v.free v.leases (with_leases v []).leases board.pool s.pool_for (λ pair within. omega arith));
  replies_for = s.replies_for;
}

-- a pair that does not stand among others was not counted among them
pub count-none : (p : ℕ) (xs : List ℕ) → has xs p ≡ false → count_by (λ q. q == p) xs ≡ 0
count-none p [] e = refl
count-none p (x ∷ xs) e = go (x == p) refl e (count-none p xs)
  where
    go : (b : Bool) → (x == p) ≡ b → cond (x == p) true (has xs p) ≡ false → (has xs p ≡ false → count_by (λ q. q == p) xs ≡ 0) → count_by (λ q. q == p) (x ∷ xs) ≡ 0
    go true is e more = absurd (let f : true ≡ false = sym (ap (λ (b : Bool). cond b true (has xs p)) is) ∙ e in cc)
    go false is e more =
        let rest = more (sym (ap (λ (b : Bool). cond b true (has xs p)) is) ∙ e) in
        let sum = counted p (x ∷ []) xs in
        let here = ap {B = ℕ} (λ (b : Bool). cond b 1 0) is in omega (arith, rest, here, sum)

not_taken : (b : Bool) → not b ≡ true → b ≡ false
not_taken true h = absurd (let e = h in cc)
not_taken false h = refl

-- the front of a family's pairs that are left is none of those that were leased
front_new : (config : Config) (v : View) (some : List ℕ) (family : Family) (pair : ℕ) (rest : List ℕ) → pairs_of_family config (with_leases v some).free family ≡ pair ∷ rest → has some pair ≡ false
front_new config v some family pair rest is =
    let among : In pair (pairs_of_family config (with_leases v some).free family) = subst (λ ps. In pair ps) (sym is) (here refl) in
    not_taken (has some pair) (filtered (λ p. not (has some p)) v.free (filtered (λ p. family_eq (pair_family config p) family) (with_leases v some).free among).0).1

-- the leases with one more
pub one_more_lease : (config : Config) (v : View) (some : List ℕ) (family : Family) (pair : ℕ) (rest : List ℕ) (made : List Lease) → pairs_of_family config (with_leases v some).free family ≡ pair ∷ rest →
    made ≡ leases_at config v some → made ++ lease_at config (with_leases v some).leases pair ∷ [] ≡ leases_at config v (some ++ pair ∷ [])
one_more_lease config v some family pair rest made left is =
    let none = count-none pair some (front_new config v some family pair rest left) in
    let same : lease_at config (with_leases v some).leases pair ≡ lease_at config v.leases pair =
    ap (λ n. record { pair = pair; family = pair_family config pair; rtp_port = pair_port config pair; generation = n }) (omega (arith, none)) in
    ap (λ (lease : Lease). made ++ lease ∷ []) same
    ∙ ap (λ (those : List Lease). those ++ lease_at config v.leases pair ∷ []) is
    ∙ sym (map_push (lease_at config v.leases) some pair)

pub front_of : (xs : List ℕ) → 0 < length xs → (pair : ℕ) × (rest : List ℕ) × (xs ≡ pair ∷ rest)
front_of [] some = absurd (omega (arith, some))
front_of (x ∷ xs) some = (x, xs, refl)

-- what is left free is still of the range, each once
pub free_left : (count : ℕ) (some pairs : List ℕ) → AreFree count pairs → AreFree count (filter (λ p. not (has some p)) pairs)
free_left count some [] free = tt
free_left count some (p ∷ pairs) free = go (not (has some p)) (free_left count some pairs free.2)
  where
    still_out : has (filter (λ q. not (has some q)) pairs) p ≡ false
    still_out = is_out p (filter (λ q. not (has some q)) pairs)
        (λ i. let among : has pairs p ≡ true = it_has p pairs (filtered (λ q. not (has some q)) pairs i).0 in let wrong : true ≡ false = sym among ∙ free.1 in cc)

    go : (b : Bool) → AreFree count (filter (λ q. not (has some q)) pairs) → AreFree count (cond b (p ∷ filter (λ q. not (has some q)) pairs) (filter (λ q. not (has some q)) pairs))
    go true rest = (free.0, still_out, rest)
    go false rest = rest

-- A leg by its place.

leg_here : (legs : List NewLeg) (k : ℕ) (family : Family) → option_map (λ (leg : NewLeg). leg.family) (slice_get legs k) ≡ Some family →
    (leg : NewLeg) × (drop k legs ≡ leg ∷ drop (suc k) legs) × (take (suc k) legs ≡ take k legs ++ leg ∷ []) × (leg.family ≡ family)
leg_here [] zero family is = absurd (let e = is in cc)
leg_here [] (suc k) family is = absurd (let e = is in cc)
leg_here (leg ∷ []) zero family is = (leg, refl, refl, (let e : Some leg.family ≡ Some family = is in cc))
leg_here (leg ∷ next ∷ legs) zero family is = (leg, refl, refl, (let e : Some leg.family ≡ Some family = is in cc))
leg_here (first ∷ legs) (suc k) family is =
    let here = leg_here legs k family is in (here.0, here.1, ap (λ more. first ∷ more) here.2, here.3)

-- the leg of a place, after those before it
pub leg_at_place : (legs : List NewLeg) (k : ℕ) (family : Family) → option_map (λ (leg : NewLeg). leg.family) (slice_get legs k) ≡ Some family →
    (leg : NewLeg) × (drop k legs ≡ leg ∷ drop (k + 1) legs) × (take (k + 1) legs ≡ take k legs ++ leg ∷ []) × (leg.family ≡ family)
leg_at_place legs k family is =
    let here = leg_here legs k family is in
    let on : suc k ≡ k + 1 = omega arith in
    (here.0, here.1 ∙ ap (λ n. here.0 ∷ drop n legs) on, ap (λ n. take n legs) (sym on) ∙ here.2, here.3)

-- the room that was reserved
pub room_had : (count : ℕ) (o p : Option LeaseList) (leases : LeaseList) → RoomFor count o → p ≡ o → p ≡ Some leases → (leases.list ≡ []) × (leases.room ≡ count)
room_had count o p leases room same is = subst (RoomFor count) (sym same ∙ is) room
