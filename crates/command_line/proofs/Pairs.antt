-- The numbers of pairs: a relay has some exactly where the range of its ports holds one.
use Rattle.std.proofs.Common.{ℕ, ◌<◌, ◌≤◌, Option, Some, None, arith}
use Rattle.relay_outside.specs.declared.address.Ip.{Ip}
use Rattle.relay_outside.specs.declared.settings.Config.{Config}
use Rattle.relay_outside.specs.Settings.{first_port, for_each_interface, pair_count, range_pairs}

for_each : (other : Option Ip) (count : ℕ) → 0 < count → 0 < for_each_interface other count
for_each None count some = some
for_each (Some ip) count some = omega (arith, some)

for_one : (other : Option Ip) (count : ℕ) → 0 < for_each_interface other count → 0 < count
for_one None count some = some
for_one (Some ip) count some = omega (arith, some)

pub pairs_there : (config : Config) → 0 < range_pairs config → 0 < pair_count config
unfolding pair_count
pairs_there config some = for_each config.interface6 (range_pairs config) some

pub pairs_in_range : (config : Config) → 0 < pair_count config → 0 < range_pairs config
unfolding pair_count
pairs_in_range config some = for_one config.interface6 (range_pairs config) some

-- the first port is one of the range then
pub first_port_is_port : (config : Config) → config.port_max ≤ 65535 → 0 < pair_count config → first_port config ≤ 65535
unfolding range_pairs
first_port_is_port config most some =
    let held : 0 < range_pairs config = pairs_in_range config some in
    omega (arith, most, held)
