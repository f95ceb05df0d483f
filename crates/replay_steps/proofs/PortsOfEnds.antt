-- Which end has a port.
use Rattle.std.proofs.Common.{◌≡◌, sym, ◌∙◌, ap, ℕ, ◌+◌, ◌-◌, ◌*◌, ◌/◌, ◌<◌, ◌≤◌, arith}
use Rattle.relay_outside.specs.declared.settings.Config.{Config}
use Rattle.rtp_packet.specs.declared.head.Half.{Half}
use Rattle.rtp_packet.specs.declared.head.Half.TheVariants.{Rtp, Rtcp}
use Rattle.port_pool.specs.Ports.{first_port, range_pairs, pair_count, half_port, place_in_family}
use Rattle.port_pool.proofs.Addresses.{at_most_twice, place_within}

-- the ports of a pair are those of its place in its family, which is in the range
pub port_within : (config : Config) (pair port : ℕ) (half : Half) → pair < pair_count config → half_port config pair half ≡ port → (port - first_port config) / 2 < range_pairs config
port_within config pair port Rtp within is =
    let place = place_within (range_pairs config) pair (let twice = at_most_twice config in omega (arith, within, twice)) in
    omega (arith, place, is)
port_within config pair port Rtcp within is =
    let place = place_within (range_pairs config) pair (let twice = at_most_twice config in omega (arith, within, twice)) in
    omega (arith, place, is)
