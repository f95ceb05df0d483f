-- The port pairs of a configuration. A pair is an even port and the next one, both in the range, at the interface of one family.
use Rattle.std.specs.Prelude.{◌≡◌, ℕ, ◌+◌, ◌-◌, ◌*◌, ◌/◌, ◌%◌, Bool, true, false, nat_lt, Option, Some, None, IfSome, unwrap_or, if◌then◌else◌}
use Rattle.relay_outside.specs.declared.address.Family.{Family}
use Rattle.relay_outside.specs.declared.address.Family.TheVariants.{V4, V6}
use Rattle.relay_outside.specs.declared.address.Ip.{Ip}
use Rattle.relay_outside.specs.declared.address.Ip.TheVariants as ips
use Rattle.relay_outside.specs.declared.settings.Config.{Config}

abbrev pub ip_family : Ip → Family
ip_family (ips.V4 bytes) = V4
ip_family (ips.V6 bytes) = V6

abbrev pub family_eq : Family → Family → Bool
family_eq V4 V4 = true
family_eq V6 V6 = true
family_eq V4 V6 = false
family_eq V6 V4 = false

-- the interface is of version 4, and the other one, where there is one, of version 6
pub record AreFamilies (config : Config) : Type 0 where
  pub first_is : ip_family config.interface ≡ V4
  pub other_is : IfSome config.interface6 (λ ip. ip_family ip ≡ V6)

-- the interface of a family; the first one, where there is none of version 6
abbrev pub interface_of : Config → Family → Ip
interface_of config V4 = config.interface
interface_of config V6 = unwrap_or config.interface6 config.interface

-- the first even port of the range
abbrev pub first_port : Config → ℕ
first_port config = config.port_min + config.port_min % 2

-- how many pairs the range has
unfoldable pub range_pairs : Config → ℕ
range_pairs config = (config.port_max + 1 - first_port config) / 2

-- so many for each interface
abbrev pub for_each_interface : Option Ip → ℕ → ℕ
for_each_interface None count = count
for_each_interface (Some ip) count = 2 * count

-- how many pairs there are: those of the range at the interface of version 4 and, where there is one, as many of version 6
unfoldable pub pair_count : Config → ℕ
pair_count config = for_each_interface config.interface6 (range_pairs config)

-- pairs of version 4 are numbered first
abbrev pub pair_family : Config → ℕ → Family
pair_family config pair = if nat_lt pair (range_pairs config) then V4 else V6
