-- The ports of the pairs of a configuration. A pair is an even port and the next one, both in the range, at the interface of its family.
use Rattle.std.specs.Prelude.{◌≡◌, ℕ, ◌+◌, ◌-◌, ◌*◌, List, filter, nat_lt, if◌then◌else◌}
use Rattle.rtp_packet.specs.declared.head.Half.{Half}
use Rattle.rtp_packet.specs.declared.head.Half.TheVariants.{Rtp, Rtcp}
use Rattle.relay_outside.specs.declared.address.Addr.{Addr}
use Rattle.relay_outside.specs.declared.address.Ip.{Ip}
use Rattle.relay_outside.specs.declared.settings.Config.{Config}
use Rattle.relay_outside.specs.declared.address.Family.{Family}
pub use Rattle.relay_outside.specs.Settings.{first_port, pair_family, family_eq, interface_of}
unfoldable pub use Rattle.relay_outside.specs.Settings.{range_pairs, pair_count}
use Rattle.relay_outside.specs.DeviceLogs.{EndLog}

-- the place of a pair among those of its family, of which there are so many
abbrev pub place_in_family : ℕ → ℕ → ℕ
place_in_family per_family pair = if nat_lt pair per_family then pair else pair - per_family

-- the even port of a pair, which takes RTP (RFC 3550 section 11)
abbrev pub pair_port : Config → ℕ → ℕ
pair_port config pair = first_port config + 2 * place_in_family (range_pairs config) pair

-- those of the pairs that are of this family
abbrev pub pairs_of_family : Config → List ℕ → Family → List ℕ
pairs_of_family config pairs family = filter (λ pair. family_eq (pair_family config pair) family) pairs

-- the port of a pair's half
abbrev pub half_port : Config → ℕ → Half → ℕ
half_port config pair Rtp = pair_port config pair
half_port config pair Rtcp = pair_port config pair + 1

-- a port of an interface
abbrev pub port_at : Ip → ℕ → Addr
port_at interface port = record { ip = interface; port = port }

-- the address of the port of a pair's half, at the interface of the pair's family
abbrev pub port_address : Config → (pair : ℕ) → Half → Addr
port_address config pair half = port_at (interface_of config (pair_family config pair)) (half_port config pair half)

-- the address of the port for RTCP of a pair, by that of its port for RTP
abbrev pub rtcp_address : Addr → Addr
rtcp_address at = port_at at.ip (at.port + 1)

-- the two ends, for RTP and for RTCP, were opened for the ports of the pair whose port for RTP has this address
pub record AreOfPair {E C : Type 0} (log : E → EndLog C) (at : Addr) (rtp rtcp : E) : Type 0 where
  pub rtp_at : (log rtp).at ≡ at
  pub rtcp_at : (log rtcp).at ≡ rtcp_address at
