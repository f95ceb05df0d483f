-- Configurations that are written alike, and that each is spelled.
use Rattle.std.proofs.Common.{◌≡◌, refl, arith}
use Rattle.relay_outside.specs.declared.address.Ip.{Ip}
use Rattle.relay_outside.specs.declared.settings.Config.{Config}
use Rattle.endpoint_learn.specs.SavedLearners.{FitsIp}
use Rattle.ng_bencode.specs.Spells.{spelling, Spells}
use Rattle.state_values.specs.CacheTrees.{source_octets}
use Rattle.state_values.specs.ConfigTrees.{interface_tree, config_tree, FitsConfig}
use Rattle.state_values.proofs.NumberTrees.{same_number}
use Rattle.state_values.proofs.OptionTrees.{same_options, option_spelled}
use Rattle.state_values.proofs.KeyedTrees.{same_entries, same_value, same_rest}
use Rattle.state_values.proofs.SourceForms.{same_host}
use Rattle.state_values.proofs.Spelled.{Spelled, number_spelled}

same_interface : (a b : Ip) → FitsIp a → FitsIp b → interface_tree a ≡ interface_tree b → a ≡ b
same_interface a b fits_a fits_b e = let bytes : source_octets a ≡ source_octets b = cc in same_host a b fits_a fits_b bytes

pub same_configs : (a b : Config) → FitsConfig a → FitsConfig b → config_tree a ≡ config_tree b → a ≡ b
same_configs a b fits_a fits_b same =
    let first = same_entries same in
    let second = same_rest first in
    let third = same_rest second in
    let fourth = same_rest third in
    let fifth = same_rest fourth in
    let sixth = same_rest fifth in
    let seventh = same_rest sixth in
    let interface = same_interface a.interface b.interface fits_a.interface fits_b.interface (same_value first) in
    let interface6 = same_options interface_tree FitsIp same_interface a.interface6 b.interface6 fits_a.interface6 fits_b.interface6 (same_value second) in
    let max_sessions = same_number a.max_sessions b.max_sessions (omega (arith, fits_a.max_sessions)) (omega (arith, fits_b.max_sessions)) (same_value third) in
    let offer_timeout_ms = same_number a.offer_timeout_ms b.offer_timeout_ms fits_a.offer_timeout_ms fits_b.offer_timeout_ms (same_value fourth) in
    let port_max = same_number a.port_max b.port_max (omega (arith, fits_a.port_max)) (omega (arith, fits_b.port_max)) (same_value fifth) in
    let port_min = same_number a.port_min b.port_min (omega (arith, fits_a.port_min)) (omega (arith, fits_b.port_min)) (same_value sixth) in
    let timeout_ms = same_number a.timeout_ms b.timeout_ms fits_a.timeout_ms fits_b.timeout_ms (same_value seventh) in
    λ i. record {
      interface = interface i;
      interface6 = interface6 i;
      port_min = port_min i;
      port_max = port_max i;
      timeout_ms = timeout_ms i;
      offer_timeout_ms = offer_timeout_ms i;
      max_sessions = max_sessions i;
    }

interface_spelled : (interface : Ip) → Spelled 0 (interface_tree interface)
interface_spelled interface = record { ints = tt; deep = omega arith }

-- and is 2 deep
pub config_deep : (config : Config) → Spelled 2 (config_tree config)
config_deep config =
    let interface6 = option_spelled interface_tree 0 interface_spelled config.interface6 in
    let max_sessions = number_spelled config.max_sessions in
    let offer_timeout_ms = number_spelled config.offer_timeout_ms in
    let port_max = number_spelled config.port_max in
    let port_min = number_spelled config.port_min in
    let timeout_ms = number_spelled config.timeout_ms in
    record {
      ints = (tt, (interface6.ints, (max_sessions.ints, (offer_timeout_ms.ints, (port_max.ints, (port_min.ints, (timeout_ms.ints, tt)))))));
      deep = omega (arith, interface6.deep, max_sessions.deep, offer_timeout_ms.deep, port_max.deep, port_min.deep, timeout_ms.deep);
    }

pub config_spelled : (config : Config) → Spells (spelling (config_tree config)) (config_tree config)
config_spelled config =
    let it = config_deep config in
    record { ints = it.ints; deep = omega (arith, it.deep); spelled = refl }
