-- How a lease is saved.
use Rattle.std.specs.Prelude.{ℕ, ◌<◌, ◌^◌, List, ◌∷◌, ◌++◌}
use Rattle.std.specs.Int.{w16, w32, w64, to_be_bytes}
use Rattle.relay_outside.specs.declared.address.Family.{Family}
use Rattle.relay_outside.specs.declared.address.Family.TheVariants.{V4, V6}
use Rattle.port_pool.specs.declared.pairs.Lease.{Lease}

-- the version of a family
abbrev pub family_version : Family → ℕ
family_version V4 = 4
family_version V6 = 6

-- the pair's number in 4 bytes, the version of its family, its even port in 2 bytes and the generation in 8, the highest byte of each
-- first: 15 bytes
unfoldable pub saved_lease : Lease → List ℕ
saved_lease lease = to_be_bytes w32 lease.pair ++ (family_version lease.family ∷ (to_be_bytes w16 lease.rtp_port ++ to_be_bytes w64 lease.generation))

-- the leases that there are
pub record FitsLease (lease : Lease) : Type 0 where
  pub pair : lease.pair < 2 ^ 32
  pub rtp_port : lease.rtp_port < 2 ^ 16
  pub generation : lease.generation < 2 ^ 64
