-- What a pool stands for after each of its calls.
use Rattle.std.proofs.Common.{◌≡◌, ◌∙◌, sym, ap, subst, ℕ, ◌+◌, ◌<◌, List, [], ◌∷◌, ◌++◌, length, slice_index_or, slice_set, Bool, true, false, cond, eqb, eqb-true, refl, nat_lt, append-nil}
use Rattle.std.proofs.lemmas.Bool.{eqb-false}
use Rattle.std.proofs.lemmas.List.{get_or-set_same, get_or-set_other, get_or-replicate, length-replicate}
use Rattle.std.proofs.lemmas.List.Elements.{filter-append}
use Rattle.relay_outside.specs.declared.settings.Config.{Config}
use Rattle.histories.specs.Words.{numbers}
use Rattle.relay_outside.specs.declared.address.Family.{Family}
use Rattle.relay_outside.specs.declared.address.Family.TheVariants.{V4, V6}
use Rattle.port_pool.specs.Ports.{pair_count, pair_family, family_eq, pairs_of_family}
use Rattle.port_pool.specs.Pools.{Pairs, IsFresh, PoolStandsFor, after_return, free_pairs, family_in, with_free}

-- a new pool: all pairs are free, upwards, and none was leased
pub fresh_stands : (config : Config) (pool : Pairs) → IsFresh config pool → PoolStandsFor config (numbers 0 (pair_count config)) (λ pair. 0) pool
fresh_stands config pool fresh = record {
  first_is = fresh.first_is;
  per_is = fresh.per_is;
  count_is = ap length fresh.none_leased ∙ length-replicate (pair_count config) 0;
  free_is = fresh.all_free;
  leases_are = λ pair within. ap (λ generations. slice_index_or generations pair 0) fresh.none_leased ∙ get_or-replicate (pair_count config) pair 0 0 within;
}

leased_by : (generations : List ℕ) (leases : ℕ → ℕ) (pair other : ℕ) (b : Bool) → eqb pair other ≡ b → pair < length generations
    → slice_index_or generations pair 0 ≡ leases pair → slice_index_or generations other 0 ≡ leases other
    → slice_index_or (slice_set generations pair (slice_index_or generations pair 0 + 1)) other 0 ≡ cond b (leases other + 1) (leases other)
leased_by generations leases pair other true is within last there =
    let same : pair ≡ other = eqb-true pair other is in
    subst (λ q. slice_index_or (slice_set generations pair (slice_index_or generations pair 0 + 1)) q 0 ≡ leases q + 1) same
    (get_or-set_same generations pair (slice_index_or generations pair 0 + 1) 0 within ∙ ap (λ n. n + 1) last)
leased_by generations leases pair other false is within last there =
    get_or-set_other generations pair other (slice_index_or generations pair 0 + 1) 0 (λ e. eqb-false pair other is (sym e)) ∙ there

of_family : (config : Config) (free : List ℕ) (pair : ℕ) (asked is : Family) → pair_family config pair ≡ is
    → pairs_of_family config (free ++ pair ∷ []) asked ≡ cond (family_eq is asked) (pairs_of_family config free asked ++ pair ∷ []) (pairs_of_family config free asked)
of_family config free pair asked is same =
    filter-append (λ (p : ℕ). family_eq (pair_family config p) asked) free (pair ∷ [])
    ∙ ap (λ f. pairs_of_family config free asked ++ cond (family_eq f asked) (pair ∷ []) []) same
    ∙ kept (family_eq is asked)
  where
    kept : (b : Bool) → pairs_of_family config free asked ++ cond b (pair ∷ []) [] ≡ cond b (pairs_of_family config free asked ++ pair ∷ []) (pairs_of_family config free asked)
    kept true = refl
    kept false = append-nil (pairs_of_family config free asked)

returned_free : (pool : Pairs) (pair : ℕ) (is asked : Family) → free_pairs (with_free pool is (free_pairs pool is ++ pair ∷ [])) asked
    ≡ cond (family_eq is asked) (free_pairs pool asked ++ pair ∷ []) (free_pairs pool asked)
returned_free pool pair V4 V4 = refl
returned_free pool pair V4 V6 = refl
returned_free pool pair V6 V4 = refl
returned_free pool pair V6 V6 = refl

-- a pool of the configuration has its families
pub same_family : (config : Config) (free : List ℕ) (leases : ℕ → ℕ) (pool : Pairs) (pair : ℕ) → PoolStandsFor config free leases pool → family_in pool pair ≡ pair_family config pair
same_family config free leases pool pair stands = ap (λ n. cond (nat_lt pair n) V4 V6) stands.per_is

with_free_first : (pool : Pairs) (family : Family) (pairs : List ℕ) → (with_free pool family pairs).first_port ≡ pool.first_port
with_free_first pool V4 pairs = refl
with_free_first pool V6 pairs = refl

pub with_free_per : (pool : Pairs) (family : Family) (pairs : List ℕ) → (with_free pool family pairs).per_family ≡ pool.per_family
with_free_per pool V4 pairs = refl
with_free_per pool V6 pairs = refl

pub with_free_generations : (pool : Pairs) (family : Family) (pairs : List ℕ) → (with_free pool family pairs).generations ≡ pool.generations
with_free_generations pool V4 pairs = refl
with_free_generations pool V6 pairs = refl

-- a return: the pair stands after the others that are free
pub returned_stands : (config : Config) (free : List ℕ) (leases : ℕ → ℕ) (pool : Pairs) (pair : ℕ) → PoolStandsFor config free leases pool
    → PoolStandsFor config (free ++ pair ∷ []) leases (after_return pool pair)
returned_stands config free leases pool pair stands =
    let is = family_in pool pair in
    let pairs = free_pairs pool is ++ pair ∷ [] in
    record {
      first_is = with_free_first pool is pairs ∙ stands.first_is;
      per_is = with_free_per pool is pairs ∙ stands.per_is;
      count_is = ap length (with_free_generations pool is pairs) ∙ stands.count_is;
      free_is = λ asked.
          returned_free pool pair is asked
          ∙ ap (λ ps. cond (family_eq is asked) (ps ++ pair ∷ []) ps) (stands.free_is asked)
          ∙ sym (of_family config free pair asked is (sym (same_family config free leases pool pair stands)));
      leases_are = λ p within. ap (λ gs. slice_index_or gs p 0) (with_free_generations pool is pairs) ∙ stands.leases_are p within;
    }

-- the same numbers of leases, told in another way
pub stands_alike : (config : Config) (free : List ℕ) (leases log : ℕ → ℕ) (pool : Pairs) → PoolStandsFor config free leases pool
    → ((pair : ℕ) → pair < pair_count config → leases pair ≡ log pair) → PoolStandsFor config free log pool
stands_alike config free leases log pool stands alike = record {
  first_is = stands.first_is;
  per_is = stands.per_is;
  count_is = stands.count_is;
  free_is = stands.free_is;
  leases_are = λ pair within. stands.leases_are pair within ∙ alike pair within;
}
