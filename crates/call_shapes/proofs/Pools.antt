-- The pool under leases and returns, and what it says of the legs that hold its pairs.
use Rattle.std.proofs.Common.{◌≡◌, ◌∙◌, refl, sym, ap, subst, ℕ, ◌+◌, ◌<◌, ◌≤◌, ◌≢◌, ◌⊎◌, inl, inr, Bool, true, false, cond, List, [], ◌∷◌, ◌++◌, length, nat_lt, slice_index_or, slice_set, ◌==◌, arith}
use Rattle.std.specs.Prelude.{count_by}
use Rattle.std.proofs.lemmas.List.{map-append, append_assoc, append-nil, length-set, get_or-set_same, get_or-set_other}
use Rattle.std.proofs.lemmas.Bool.{ltb-true, ltb-false}
use Rattle.relay_outside.specs.declared.settings.Config.{Config}
use Rattle.relay_outside.specs.declared.address.Family.{Family}
use Rattle.relay_outside.specs.declared.address.Family.TheVariants.{V4, V6}
use Rattle.histories.specs.Words.{In, here, there}
use Rattle.histories.proofs.Lists.{in_append, in_left, in_right, maps}
use Rattle.port_pool.specs.declared.holder.Holder.{Holder}
use Rattle.port_pool.specs.Ports.{pair_count}
use Rattle.port_pool.specs.Pools.{Pairs, AreFree, AreFrom, generation, free_pairs, after_lease, after_return, with_free}
use Rattle.port_pool.proofs.Addresses.{at_least_once}
use Rattle.port_pool.proofs.Queue.{one_behind, later_behind}
use Rattle.call_shapes.specs.WholeRelay.{PoolHolds}
use Rattle.call_board.specs.Shapes.{after_returns}
use Rattle.call_shapes.specs.Turns.{pairs_held, LegsLeased}
use Rattle.call_shapes.proofs.Times.{times, one_if, count_times, times_three, times_append, times_none, stands}

-- each pair is once free or held
pub once_times : (config : Config) (pool : Pairs) (held : List Holder) → PoolHolds config pool held → (pair : ℕ) → pair < pair_count config
    → times pair pool.free4 + times pair pool.free6 + times pair (pairs_held held) ≡ 1
once_times config pool held h pair below =
    let all = pool.free4 ++ pool.free6 ++ pairs_held held in
    let counted = count_times pair all in
    let three = times_three pair pool.free4 pool.free6 (pairs_held held) in
    let one = h.once pair below in
    omega (arith, counted, three, one)

pub times_once : (pair : ℕ) (free4 free6 held : List ℕ) → times pair free4 + times pair free6 + times pair held ≡ 1
    → count_by (λ p. p == pair) (free4 ++ free6 ++ held) ≡ 1
times_once pair free4 free6 held h =
    let counted = count_times pair (free4 ++ free6 ++ held) in
    let three = times_three pair free4 free6 held in
    omega (arith, counted, three, h)

-- the pool holds for the legs in any order
pub reordered : (config : Config) (pool : Pairs) (old new : List Holder) → PoolHolds config pool old
    → ((leg : Holder) → In leg new → In leg old) → ((pair : ℕ) → times pair (pairs_held new) ≡ times pair (pairs_held old)) → PoolHolds config pool new
reordered config pool old new h from same = record {
  first_is = h.first_is;
  per_is = h.per_is;
  count_is = h.count_is;
  families4 = h.families4;
  families6 = h.families6;
  below = h.below;
  once = λ pair below. times_once pair pool.free4 pool.free6 (pairs_held new)
      (let one = once_times config pool old h pair below in let e = same pair in omega (arith, one, e));
  generations = λ leg i. h.generations leg (from leg i);
}

-- A lease.

-- a free pair is held by no leg
pub free4_not_held : (config : Config) (pool : Pairs) (held : List Holder) → PoolHolds config pool held → (pair : ℕ) → pair < pair_count config
    → 1 ≤ times pair pool.free4 → (leg : Holder) → In leg held → leg.pair ≢ pair
free4_not_held config pool held h pair below free leg i same =
    let one = once_times config pool held h pair below in
    let there_ = stands leg.pair (pairs_held held) (maps (λ (l : Holder). l.pair) held i) in
    let at : 1 ≤ times pair (pairs_held held) = subst (λ p. 1 ≤ times p (pairs_held held)) same there_ in
    absurd (omega (arith, one, at, free))

pub free6_not_held : (config : Config) (pool : Pairs) (held : List Holder) → PoolHolds config pool held → (pair : ℕ) → pair < pair_count config
    → 1 ≤ times pair pool.free6 → (leg : Holder) → In leg held → leg.pair ≢ pair
free6_not_held config pool held h pair below free leg i same =
    let one = once_times config pool held h pair below in
    let there_ = stands leg.pair (pairs_held held) (maps (λ (l : Holder). l.pair) held i) in
    let at : 1 ≤ times pair (pairs_held held) = subst (λ p. 1 ≤ times p (pairs_held held)) same there_ in
    absurd (omega (arith, one, at, free))

-- the generations after one lease more
raised : (config : Config) (generations : List ℕ) (held : List Holder) (leg : Holder) (next : ℕ) → length generations ≡ pair_count config
    → ((other : Holder) → In other held → (other.pair < pair_count config) × (slice_index_or generations other.pair 0 ≡ other.generation))
    → ((other : Holder) → In other held → other.pair ≢ leg.pair)
    → leg.pair < pair_count config → leg.generation ≡ next
    → (other : Holder) → In other (leg ∷ held) → (other.pair < pair_count config) × (slice_index_or (slice_set generations leg.pair next) other.pair 0 ≡ other.generation)
raised config generations held leg next long kept apart below is other (here e) = (
  subst (λ (l : Holder). l.pair < pair_count config) (sym e) below,
  subst (λ (l : Holder). slice_index_or (slice_set generations leg.pair next) l.pair 0 ≡ l.generation) (sym e)
      (get_or-set_same generations leg.pair next 0 (omega (arith, long, below)) ∙ sym is),
)
raised config generations held leg next long kept apart below is other (there i) =
    ((kept other i).0, get_or-set_other generations leg.pair other.pair next 0 (apart other i) ∙ (kept other i).1)

at_front : (pair : ℕ) (rest : List ℕ) → 1 ≤ times pair (pair ∷ rest)
at_front pair rest = stands pair (pair ∷ rest) (here refl)

pub leases_front : (config : Config) (pool : Pairs) (held : List Holder) (family : Family) (leg : Holder) (rest : List ℕ) → PoolHolds config pool held
    → free_pairs pool family ≡ leg.pair ∷ rest → leg.generation ≡ generation pool leg.pair + 1
    → PoolHolds config (after_lease pool family leg.pair rest) (leg ∷ held)
leases_front config pool held V4 leg rest h front next =
    let old = subst (AreFree pool.per_family) front h.families4 in
    let stood : 1 ≤ times leg.pair pool.free4 = subst (λ l. 1 ≤ times leg.pair l) (sym front) (at_front leg.pair rest) in
    let most : leg.pair < pair_count config = let a = old.0 in let b = h.per_is in let c = at_least_once config in omega (arith, a, b, c) in
    record {
      first_is = h.first_is;
      per_is = h.per_is;
      count_is = length-set pool.generations leg.pair (generation pool leg.pair + 1) ∙ h.count_is;
      families4 = old.2;
      families6 = h.families6;
      below = subst (λ n. AreFree n pool.free6) (sym (length-set pool.generations leg.pair (generation pool leg.pair + 1))) h.below;
      once = λ pair below. times_once pair rest pool.free6 (leg.pair ∷ pairs_held held)
          (let one = once_times config pool held h pair below in
          let fronts : times pair pool.free4 ≡ one_if (leg.pair == pair) + times pair rest = ap (times pair) front in
          omega (arith, one, fronts));
      generations = raised config pool.generations held leg (generation pool leg.pair + 1) h.count_is h.generations
          (free4_not_held config pool held h leg.pair most stood) most next;
    }
leases_front config pool held V6 leg rest h front next =
    let old = subst (AreFree (length pool.generations)) front h.below in
    let stood : 1 ≤ times leg.pair pool.free6 = subst (λ l. 1 ≤ times leg.pair l) (sym front) (at_front leg.pair rest) in
    let most : leg.pair < pair_count config = let a = old.0 in let b = h.count_is in omega (arith, a, b) in
    record {
      first_is = h.first_is;
      per_is = h.per_is;
      count_is = length-set pool.generations leg.pair (generation pool leg.pair + 1) ∙ h.count_is;
      families4 = h.families4;
      families6 = (subst (AreFrom pool.per_family) front h.families6).1;
      below = subst (λ n. AreFree n rest) (sym (length-set pool.generations leg.pair (generation pool leg.pair + 1))) old.2;
      once = λ pair below. times_once pair pool.free4 rest (leg.pair ∷ pairs_held held)
          (let one = once_times config pool held h pair below in
          let fronts : times pair pool.free6 ≡ one_if (leg.pair == pair) + times pair rest = ap (times pair) front in
          omega (arith, one, fronts));
      generations = raised config pool.generations held leg (generation pool leg.pair + 1) h.count_is h.generations
          (free6_not_held config pool held h leg.pair most stood) most next;
    }

-- A return.

-- how often a pair is free in one family's queue, with one at its end
one_more : (p pair : ℕ) (free : List ℕ) → times p (free ++ pair ∷ []) ≡ times p free + one_if (pair == p)
one_more p pair free = let both = times_append p free (pair ∷ []) in omega (arith, both)

pub held_here : (leg : Holder) (held : List Holder) → 1 ≤ times leg.pair (pairs_held (leg ∷ held))
held_here leg held = stands leg.pair (leg.pair ∷ pairs_held held) (here refl)

back_by : (config : Config) (pool : Pairs) (kept : List Holder) (leg : Holder) → PoolHolds config pool (leg ∷ kept) → (b : Bool) → nat_lt leg.pair pool.per_family ≡ b
    → PoolHolds config (with_free pool (cond b V4 V6) (free_pairs pool (cond b V4 V6) ++ leg.pair ∷ [])) kept
back_by config pool kept leg h true is =
    let range = (h.generations leg (here refl)).0 in
    let one = once_times config pool (leg ∷ kept) h leg.pair range in
    let here_ = held_here leg kept in
    record {
      first_is = h.first_is;
      per_is = h.per_is;
      count_is = h.count_is;
      families4 = one_behind pool.per_family pool.free4 leg.pair h.families4 (ltb-true leg.pair pool.per_family is)
          (times_none leg.pair pool.free4 (omega (arith, one, here_)));
      families6 = h.families6;
      below = h.below;
      once = λ pair below. times_once pair (pool.free4 ++ leg.pair ∷ []) pool.free6 (pairs_held kept)
          (let all = once_times config pool (leg ∷ kept) h pair below in let more = one_more pair leg.pair pool.free4 in omega (arith, all, more));
      generations = λ other i. h.generations other (there i);
    }
back_by config pool kept leg h false is =
    let range = (h.generations leg (here refl)).0 in
    let one = once_times config pool (leg ∷ kept) h leg.pair range in
    let here_ = held_here leg kept in
    record {
      first_is = h.first_is;
      per_is = h.per_is;
      count_is = h.count_is;
      families4 = h.families4;
      families6 = later_behind pool.per_family pool.free6 leg.pair h.families6 (ltb-false leg.pair pool.per_family is);
      below = one_behind (length pool.generations) pool.free6 leg.pair h.below (let count = h.count_is in omega (arith, count, range))
          (times_none leg.pair pool.free6 (omega (arith, one, here_)));
      once = λ pair below. times_once pair pool.free4 (pool.free6 ++ leg.pair ∷ []) (pairs_held kept)
          (let all = once_times config pool (leg ∷ kept) h pair below in let more = one_more pair leg.pair pool.free6 in omega (arith, all, more));
      generations = λ other i. h.generations other (there i);
    }

pub comes_back : (config : Config) (pool : Pairs) (kept : List Holder) (leg : Holder) → PoolHolds config pool (leg ∷ kept) → PoolHolds config (after_return pool leg.pair) kept
comes_back config pool kept leg h = back_by config pool kept leg h (nat_lt leg.pair pool.per_family) refl

-- Several in turn.

in_turned : (leg other : Holder) (legs held : List Holder) → In leg (other ∷ legs ++ held) → In leg (legs ++ (other ∷ held))
in_turned leg other legs held (here e) = in_right legs (other ∷ held) (here e)
in_turned leg other legs held (there i) = in_turned_by (in_append legs held i)
  where
    in_turned_by : In leg legs ⊎ In leg held → In leg (legs ++ (other ∷ held))
    in_turned_by (inl j) = in_left legs (other ∷ held) j
    in_turned_by (inr j) = in_right legs (other ∷ held) (there j)

pub pairs_append : (legs more : List Holder) → pairs_held (legs ++ more) ≡ pairs_held legs ++ pairs_held more
pairs_append legs more = map-append (λ (leg : Holder). leg.pair) legs more

pub pairs_times : (pair : ℕ) (legs more : List Holder) → times pair (pairs_held (legs ++ more)) ≡ times pair (pairs_held legs) + times pair (pairs_held more)
pairs_times pair legs more = ap (times pair) (pairs_append legs more) ∙ times_append pair (pairs_held legs) (pairs_held more)

pub leases_hold : (config : Config) (pool new : Pairs) (came held : List Holder) → PoolHolds config pool held → LegsLeased pool came new → PoolHolds config new (came ++ held)
leases_hold config pool new [] held h leases = subst (λ (p : Pairs). PoolHolds config p held) (sym leases) h
leases_hold config pool new (leg ∷ came) held h (family, rest, front, next, more) =
    let first = leases_front config pool held family leg rest h front next in
    let all = leases_hold config (after_lease pool family leg.pair rest) new came (leg ∷ held) first more in
    reordered config new (came ++ (leg ∷ held)) (leg ∷ came ++ held) all (λ other i. in_turned other leg came held i)
    (λ pair. (let a = pairs_times pair came held in let b = pairs_times pair came (leg ∷ held) in omega (arith, a, b)))

-- one after the other comes back as all of them
split_free : (pool : Pairs) (pair : ℕ) (pairs : List ℕ) (b : Bool) → nat_lt pair pool.per_family ≡ b
    → after_returns pool (pair ∷ pairs) ≡ after_returns (with_free pool (cond b V4 V6) (free_pairs pool (cond b V4 V6) ++ pair ∷ [])) pairs
split_free pool pair pairs true is = rw (is, append_assoc) refl
split_free pool pair pairs false is = rw (is, append_assoc) refl

pub returns_step : (pool : Pairs) (pair : ℕ) (pairs : List ℕ) → after_returns pool (pair ∷ pairs) ≡ after_returns (after_return pool pair) pairs
returns_step pool pair pairs = split_free pool pair pairs (nat_lt pair pool.per_family) refl

pub returns_none : (pool : Pairs) → after_returns pool [] ≡ pool
returns_none pool = ap (λ (free : List ℕ). record pool { free4 = free; free6 = pool.free6 ++ [] }) (append-nil pool.free4) ∙ ap (λ (free : List ℕ). record pool { free6 = free }) (append-nil pool.free6)

pub come_back : (config : Config) (pool : Pairs) (gone kept : List Holder) → PoolHolds config pool (gone ++ kept) → PoolHolds config (after_returns pool (pairs_held gone)) kept
come_back config pool [] kept h = subst (λ (p : Pairs). PoolHolds config p kept) (sym (returns_none pool)) h
come_back config pool (leg ∷ gone) kept h =
    subst (λ (p : Pairs). PoolHolds config p kept) (sym (returns_step pool leg.pair (pairs_held gone)))
    (come_back config (after_return pool leg.pair) gone kept (comes_back config pool (gone ++ kept) leg h))
