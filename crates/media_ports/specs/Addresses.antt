-- The addresses of the ports of leased pairs.
use Rattle.std.specs.Prelude.{ℕ, List, [], ◌∷◌, map}
use Rattle.relay_outside.specs.declared.address.Addr.{Addr}
use Rattle.relay_outside.specs.declared.settings.Config.{Config}
use Rattle.rtp_packet.specs.declared.head.Half.TheVariants.{Rtp, Rtcp}
use Rattle.histories.specs.Words.{In}
use Rattle.port_pool.specs.declared.pairs.Lease.{Lease}
pub use Rattle.port_pool.specs.Ports.{pair_count, pair_port, port_at, port_address}
use Rattle.port_pool.specs.Pools.{AreFree}

-- the addresses of the ports of these pairs of the configuration, pair by pair, that for RTP before that for RTCP
abbrev pub pair_addresses : Config → (pairs : List ℕ) → List Addr
pair_addresses config [] = []
pair_addresses config (pair ∷ pairs) = port_address config pair Rtp ∷ port_address config pair Rtcp ∷ pair_addresses config pairs

abbrev pub pairs_of_leases : List Lease → List ℕ
pairs_of_leases leases = map (λ (lease : Lease). lease.pair) leases

-- those of leased pairs, in the order of leases
abbrev pub addresses_of : Config → List Lease → List Addr
addresses_of config leases = pair_addresses config (pairs_of_leases leases)

-- each address stands once
abbrev pub AreDistinct : List Addr → Type 0
AreDistinct [] = Unit {0}
AreDistinct (at ∷ ats) = (In at ats → ⊥) × AreDistinct ats

-- the leases are of different pairs of the configuration
pub record AreLeased (config : Config) (leases : List Lease) : Type 0 where
  pub differ : AreFree (pair_count config) (pairs_of_leases leases)
