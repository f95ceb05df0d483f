-- What a pool of port pairs holds: the free pairs, and how often each pair was leased.
use Rattle.std.specs.Prelude.{◌≡◌, ℕ, ◌+◌, ◌*◌, ◌<◌, ◌≤◌, false, nat_lt, ◌==◌, List, [], ◌∷◌, ◌++◌, length, replicate, slice_index_or, slice_set, if◌then◌else◌}
use Rattle.relay_outside.specs.declared.address.Family.{Family}
use Rattle.relay_outside.specs.declared.address.Family.TheVariants.{V4, V6}
use Rattle.relay_outside.specs.declared.settings.Config.{Config}
use Rattle.histories.specs.Words.{has, numbers}
use Rattle.port_pool.specs.Ports.{first_port, range_pairs, pair_count, pairs_of_family}

-- the first even port of the range; how many pairs each family has; the free pairs of version 4 and of version 6, the next to be leased in
-- front; and for each pair the number of its leases
pub record Pairs : Type 0 where
  pub first_port : ℕ
  pub per_family : ℕ
  pub free4 : List ℕ
  pub free6 : List ℕ
  pub generations : List ℕ

-- the free pairs of a family
abbrev pub free_pairs : Pairs → Family → List ℕ
free_pairs pool V4 = pool.free4
free_pairs pool V6 = pool.free6

-- the family of a pair: those of version 4 are numbered first
abbrev pub family_in : Pairs → ℕ → Family
family_in pool pair = if nat_lt pair pool.per_family then V4 else V6

-- how often the pair was leased: the generation of its last lease
abbrev pub generation : Pairs → ℕ → ℕ
generation pool pair = slice_index_or pool.generations pair 0

-- pairs below the count, each once
abbrev pub AreFree : ℕ → List ℕ → Type 0
AreFree count [] = Unit {0}
AreFree count (pair ∷ pairs) = (pair < count) × (has pairs pair ≡ false) × AreFree count pairs

-- pairs from this one on
abbrev pub AreFrom : ℕ → List ℕ → Type 0
AreFrom first [] = Unit {0}
AreFrom first (pair ∷ pairs) = (first ≤ pair) × AreFrom first pairs

-- A pool whose queues have this much room holds its pairs: the ports are of 16 bits, each family has as many pairs, or that of version 6
-- has none, and in each queue stand pairs of its own, each once, and there is room for all of them.
pub record HoldsPairs (first_port per_family capacity4 capacity6 : ℕ) (queue4 queue6 generations : List ℕ) : Type 0 where
  pub ports : first_port + 2 * per_family ≤ 65536
  pub first : per_family ≤ length generations
  pub others : length generations ≤ 2 * per_family
  pub room4 : per_family ≤ capacity4
  pub room6 : length generations ≤ per_family + capacity6
  pub free4 : AreFree per_family queue4
  pub free6 : AreFree (length generations) queue6
  pub later : AreFrom per_family queue6

-- the pool of a range of ports of which no pair was leased yet: all are free, upwards
pub record IsFresh (config : Config) (pool : Pairs) : Type 0 where
  pub first_is : pool.first_port ≡ first_port config
  pub per_is : pool.per_family ≡ range_pairs config
  pub all_free : (family : Family) → free_pairs pool family ≡ pairs_of_family config (numbers 0 (pair_count config)) family
  pub none_leased : pool.generations ≡ replicate (pair_count config) 0

-- the pool with these free pairs of a family
abbrev pub with_free : Pairs → Family → List ℕ → Pairs
with_free pool V4 pairs =
    record { first_port = pool.first_port; per_family = pool.per_family; free4 = pairs; free6 = pool.free6; generations = pool.generations }
with_free pool V6 pairs =
    record { first_port = pool.first_port; per_family = pool.per_family; free4 = pool.free4; free6 = pairs; generations = pool.generations }

-- the pool after one more lease of a pair
abbrev pub with_generation : Pairs → ℕ → Pairs
with_generation pool pair = record {
  first_port = pool.first_port;
  per_family = pool.per_family;
  free4 = pool.free4;
  free6 = pool.free6;
  generations = slice_set pool.generations pair (generation pool pair + 1);
}

-- the pool after a lease of the front of a family's queue, and after the return of a pair to the end of its family's
abbrev pub after_lease : Pairs → Family → ℕ → List ℕ → Pairs
after_lease pool family pair rest = with_generation (with_free pool family rest) pair

abbrev pub after_return : Pairs → ℕ → Pairs
after_return pool pair = with_free pool (family_in pool pair) (free_pairs pool (family_in pool pair) ++ pair ∷ [])

-- The pool stands for these free pairs, of which each family's queue has its own in order, and these numbers of leases, over the ports of
-- the configuration.
pub record PoolStandsFor (config : Config) (free : List ℕ) (leases : ℕ → ℕ) (pool : Pairs) : Type 0 where
  pub first_is : pool.first_port ≡ first_port config
  pub per_is : pool.per_family ≡ range_pairs config
  pub count_is : length pool.generations ≡ pair_count config
  pub free_is : (family : Family) → free_pairs pool family ≡ pairs_of_family config free family
  pub leases_are : (pair : ℕ) → pair < pair_count config → generation pool pair ≡ leases pair

-- one lease of the pair more
abbrev pub one_lease_more : (ℕ → ℕ) → ℕ → ℕ → ℕ
one_lease_more leases pair other = if pair == other then leases other + 1 else leases other
