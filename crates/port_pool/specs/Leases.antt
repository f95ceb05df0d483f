-- What a lease of a pool gives.
use Rattle.std.specs.Prelude.{◌≡◌, ℕ, ◌+◌, ◌*◌, List, [], ◌∷◌, Option, Some, None}
use Rattle.relay_outside.specs.declared.address.Family.{Family}
use Rattle.port_pool.specs.declared.pairs.Lease.{Lease}
use Rattle.port_pool.specs.Ports.{place_in_family}
use Rattle.port_pool.specs.Pools.{Pairs, generation, after_lease, family_in, with_free}

-- the next lease of the pair
abbrev pub lease_of : Pairs → ℕ → Lease
lease_of pool pair = record {
  pair = pair;
  family = family_in pool pair;
  rtp_port = pool.first_port + 2 * place_in_family pool.per_family pair;
  generation = generation pool pair + 1;
}

-- the front of the family's queue is taken out of it; nothing exactly where the queue is empty
abbrev pub TakesFront : Pairs → Family → List ℕ → Option ℕ → Pairs → Type 0
TakesFront old family [] given new = (given ≡ None) × (new ≡ old)
TakesFront old family (pair ∷ rest) given new = (given ≡ Some pair) × (new ≡ with_free old family rest)

-- the front of the family's queue is leased and leaves it; nothing is leased exactly where the queue is empty
abbrev pub LeasesFront : Pairs → Family → List ℕ → Option Lease → Pairs → Type 0
LeasesFront old family [] given new = (given ≡ None) × (new ≡ old)
LeasesFront old family (pair ∷ rest) given new = (given ≡ Some (lease_of old pair)) × (new ≡ after_lease old family pair rest)
