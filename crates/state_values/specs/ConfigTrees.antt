-- How a configuration is written: its interfaces, its ports, its timeouts in milliseconds and the most calls at a time.
use Rattle.std.specs.Prelude.{codes, ◌<◌, ◌^◌, IfSome}
use Rattle.relay_outside.specs.declared.address.Ip.{Ip}
use Rattle.relay_outside.specs.declared.settings.Config.{Config}
use Rattle.endpoint_learn.specs.SavedLearners.{FitsIp}
use Rattle.ng_bencode.specs.Tree.{Tree, Bytes, Dict, entry, no_entries}
use Rattle.state_values.specs.Numbers.{number_tree}
use Rattle.state_values.specs.Forms.{option_tree}
use Rattle.state_values.specs.CacheTrees.{source_octets}

-- an address without a port: its 4 or 16 bytes
abbrev pub interface_tree : Ip → Tree
interface_tree interface = Bytes (source_octets interface)

abbrev pub config_tree : Config → Tree
config_tree config = Dict
    (entry (codes "interface") (interface_tree config.interface)
    (entry (codes "interface6") (option_tree interface_tree config.interface6)
    (entry (codes "max_sessions") (number_tree config.max_sessions)
    (entry (codes "offer_timeout_ms") (number_tree config.offer_timeout_ms)
    (entry (codes "port_max") (number_tree config.port_max)
    (entry (codes "port_min") (number_tree config.port_min)
    (entry (codes "timeout_ms") (number_tree config.timeout_ms) no_entries)))))))

-- the ranges of the fields
pub record FitsConfig (config : Config) : Type 0 where
  pub interface : FitsIp config.interface
  pub interface6 : IfSome config.interface6 FitsIp
  pub max_sessions : config.max_sessions < 2 ^ 32
  pub offer_timeout_ms : config.offer_timeout_ms < 2 ^ 64
  pub port_max : config.port_max < 2 ^ 16
  pub port_min : config.port_min < 2 ^ 16
  pub timeout_ms : config.timeout_ms < 2 ^ 64
