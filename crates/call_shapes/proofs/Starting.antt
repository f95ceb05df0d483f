-- What a relay begins with goes together.
use Rattle.std.proofs.Common.{◌≡◌, ◌∙◌, refl, sym, ap, subst, ℕ, ◌+◌, ◌<◌, Bool, true, false, cond, ◌==◌, List, [], ◌∷◌, length, nat_lt, replicate, slice_index_or, arith}
use Rattle.std.proofs.lemmas.List.{length-replicate, get_or-replicate}
use Rattle.std.proofs.lemmas.Bool.{ltb-true, ltb-false}
use Rattle.relay_outside.specs.Settings.{AreFamilies}
use Rattle.relay_outside.specs.declared.settings.Config.{Config}
use Rattle.relay_outside.specs.declared.address.Family.TheVariants.{V4, V6}
use Rattle.histories.specs.Words.{In, has, numbers}
use Rattle.port_pool.specs.declared.holder.Holder.{Holder}
use Rattle.port_pool.specs.Ports.{pair_count, range_pairs, family_eq, pairs_of_family}
use Rattle.port_pool.specs.Pools.{Pairs, IsFresh, AreFree, AreFrom}
use Rattle.port_pool.proofs.Queue.{all_numbers}
use Rattle.call_board.specs.Shapes.{LiveShape}
use Rattle.call_shapes.specs.WholeRelay.{AreWhole, PoolHolds, AreMarked, ShapesRise, cells_of_calls, held_legs, holder_among}
use Rattle.call_shapes.specs.Turns.{RelayShape, RelayBegins}
use Rattle.call_shapes.proofs.Times.{times, one_if, none_times, times_none, numbers_once}
use Rattle.call_shapes.proofs.Pools.{times_once}

-- The free pairs of a family.

family_case : (config : Config) (n pair : ℕ) (pairs : List ℕ) → times n (pairs_of_family config pairs V4) + times n (pairs_of_family config pairs V6) ≡ times n pairs
    → (b : Bool) → times n (cond (family_eq (cond b V4 V6) V4) (pair ∷ pairs_of_family config pairs V4) (pairs_of_family config pairs V4))
    + times n (cond (family_eq (cond b V4 V6) V6) (pair ∷ pairs_of_family config pairs V6) (pairs_of_family config pairs V6)) ≡ one_if (pair == n) + times n pairs
family_case config n pair pairs rest true = omega (arith, rest)
family_case config n pair pairs rest false = omega (arith, rest)

pub family_times : (config : Config) (n : ℕ) (pairs : List ℕ) → times n (pairs_of_family config pairs V4) + times n (pairs_of_family config pairs V6) ≡ times n pairs
family_times config n [] = refl
family_times config n (pair ∷ pairs) = family_case config n pair pairs (family_times config n pairs) (nat_lt pair (range_pairs config))

not_in_family4 : (config : Config) (n : ℕ) (pairs : List ℕ) → has pairs n ≡ false → has (pairs_of_family config pairs V4) n ≡ false
not_in_family4 config n pairs out =
    let none = none_times n pairs out in let both = family_times config n pairs in times_none n (pairs_of_family config pairs V4) (omega (arith, none, both))

not_in_family6 : (config : Config) (n : ℕ) (pairs : List ℕ) → has pairs n ≡ false → has (pairs_of_family config pairs V6) n ≡ false
not_in_family6 config n pairs out =
    let none = none_times n pairs out in let both = family_times config n pairs in times_none n (pairs_of_family config pairs V6) (omega (arith, none, both))

first_case : (config : Config) (pair : ℕ) (pairs : List ℕ) → has pairs pair ≡ false → AreFree (range_pairs config) (pairs_of_family config pairs V4)
    → (b : Bool) → nat_lt pair (range_pairs config) ≡ b
    → AreFree (range_pairs config) (cond (family_eq (cond b V4 V6) V4) (pair ∷ pairs_of_family config pairs V4) (pairs_of_family config pairs V4))
first_case config pair pairs new rest true is = (ltb-true pair (range_pairs config) is, not_in_family4 config pair pairs new, rest)
first_case config pair pairs new rest false is = rest

first_family : (config : Config) (count : ℕ) (pairs : List ℕ) → AreFree count pairs → AreFree (range_pairs config) (pairs_of_family config pairs V4)
first_family config count [] free = tt
first_family config count (pair ∷ pairs) free = first_case config pair pairs free.1 (first_family config count pairs free.2) (nat_lt pair (range_pairs config)) refl

other_case : (config : Config) (count pair : ℕ) (pairs : List ℕ) → pair < count → has pairs pair ≡ false → AreFree count (pairs_of_family config pairs V6)
    → (b : Bool) → AreFree count (cond (family_eq (cond b V4 V6) V6) (pair ∷ pairs_of_family config pairs V6) (pairs_of_family config pairs V6))
other_case config count pair pairs within new rest true = rest
other_case config count pair pairs within new rest false = (within, not_in_family6 config pair pairs new, rest)

other_family : (config : Config) (count : ℕ) (pairs : List ℕ) → AreFree count pairs → AreFree count (pairs_of_family config pairs V6)
other_family config count [] free = tt
other_family config count (pair ∷ pairs) free = other_case config count pair pairs free.0 free.1 (other_family config count pairs free.2) (nat_lt pair (range_pairs config))

later_case : (config : Config) (pair : ℕ) (pairs : List ℕ) → AreFrom (range_pairs config) (pairs_of_family config pairs V6)
    → (b : Bool) → nat_lt pair (range_pairs config) ≡ b
    → AreFrom (range_pairs config) (cond (family_eq (cond b V4 V6) V6) (pair ∷ pairs_of_family config pairs V6) (pairs_of_family config pairs V6))
later_case config pair pairs rest true is = rest
later_case config pair pairs rest false is = (ltb-false pair (range_pairs config) is, rest)

later_family : (config : Config) (pairs : List ℕ) → AreFrom (range_pairs config) (pairs_of_family config pairs V6)
later_family config [] = tt
later_family config (pair ∷ pairs) = later_case config pair pairs (later_family config pairs) (nat_lt pair (range_pairs config)) refl

pub fresh_holds : (config : Config) (pool : Pairs) → IsFresh config pool → PoolHolds config pool []
fresh_holds config pool fresh =
    let count = pair_count config in
    let all : AreFree count (numbers 0 count) = subst (λ n. AreFree n (numbers 0 count)) (let e : 0 + count ≡ count = omega arith in e) (all_numbers 0 count) in
    let long : length pool.generations ≡ count = ap length fresh.none_leased ∙ length-replicate count 0 in
    record {
      first_is = fresh.first_is;
      per_is = fresh.per_is;
      count_is = long;
      families4 = subst (λ (l : List ℕ). AreFree pool.per_family l) (sym (fresh.all_free V4))
          (subst (λ n. AreFree n (pairs_of_family config (numbers 0 count) V4)) (sym fresh.per_is) (first_family config count (numbers 0 count) all));
      families6 = subst (λ (l : List ℕ). AreFrom pool.per_family l) (sym (fresh.all_free V6))
          (subst (λ n. AreFrom n (pairs_of_family config (numbers 0 count) V6)) (sym fresh.per_is) (later_family config (numbers 0 count)));
      below = subst (λ (l : List ℕ). AreFree (length pool.generations) l) (sym (fresh.all_free V6))
          (subst (λ n. AreFree n (pairs_of_family config (numbers 0 count) V6)) (sym long) (other_family config count (numbers 0 count) all));
      once = λ pair below. times_once pair pool.free4 pool.free6 []
          (let a : times pair pool.free4 ≡ times pair (pairs_of_family config (numbers 0 count) V4) = ap (times pair) (fresh.all_free V4) in
          let b : times pair pool.free6 ≡ times pair (pairs_of_family config (numbers 0 count) V6) = ap (times pair) (fresh.all_free V6) in
          let both = family_times config pair (numbers 0 count) in
          let one = numbers_once pair 0 count (omega arith) (omega (arith, below)) in
          omega (arith, a, b, both, one));
      generations = λ leg i. elim i [ ];
    }

unmarked : (count : ℕ) (taken : List Bool) → taken ≡ replicate count false → AreMarked count taken []
unmarked count taken is =
    let long : length taken ≡ count = ap length is ∙ length-replicate count false in
    record {
      count_is = long;
      marks = λ k d h. subst (λ (l : List Bool). slice_index_or l k d ≡ false) (sym is) (get_or-replicate count k false d (omega (arith, h, long)));
    }

-- a relay that begins
pub fresh_whole : (config : Config) (relay : RelayShape) → AreFamilies config → RelayBegins config relay → AreWhole config relay.board relay.cells relay.holders
fresh_whole config relay families begins =
    let none = ap cells_of_calls begins.board.calls_are in
    let held : held_legs relay.cells relay.board.calls ≡ [] = ap (held_legs relay.cells) begins.board.calls_are in
    record {
      families = families;
      config_is = begins.board.config_is;
      numbers = subst (λ (l : List LiveShape). ShapesRise 0 l relay.board.begun) (sym begins.board.calls_are) (omega arith);
      apart = subst (AreFree (config.max_sessions + 1)) (sym none) tt;
      low = subst (AreFrom 1) (sym none) tt;
      marked = subst (AreMarked config.max_sessions relay.board.taken) (sym none) (unmarked config.max_sessions relay.board.taken begins.board.taken_are);
      calls = λ call i. elim (subst (λ (l : List LiveShape). In call l) begins.board.calls_are i) [ ];
      empty = λ k low high out. begins.cells k low high;
      pool = subst (PoolHolds config relay.board.pool) (sym held) (fresh_holds config relay.board.pool begins.board.pool_is);
      held = λ pair below. begins.boxes pair below ∙ ap (λ (l : List Holder). holder_among l pair) (sym held);
    }
