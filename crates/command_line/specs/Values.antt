-- What the values of the options say: addresses, and the configuration of a relay.
use Rattle.std.specs.Prelude.{◌≡◌, ℕ, ◌+◌, ◌*◌, ◌%◌, ◌≤◌, ◌<◌, ◌==◌, List, [], ◌∷◌, take, drop, position, Bool, Option, Some, None, nat_lt, if◌then◌else◌}
use Rattle.std.specs.Option.{option_map}
use Rattle.relay_outside.specs.declared.address.Addr.{Addr}
use Rattle.relay_outside.specs.declared.address.Ip.{Ip}
use Rattle.relay_outside.specs.declared.address.Ip.TheVariants.{V4, V6}
use Rattle.relay_outside.specs.declared.settings.Config.{Config}
use Rattle.relay_outside.specs.Settings.{AreFamilies, first_port, pair_count, range_pairs}
use Rattle.sdp_text.specs.Hosts.{bytes_of_groups, eight_groups, ipv4_bytes}
use Rattle.command_line.specs.Numbers.{whole_number}
use Rattle.command_line.specs.declared.settings.LoadSettings.{LoadSettings}
use Rattle.command_line.specs.declared.settings.Media.{Media}
use Rattle.command_line.specs.declared.settings.ReplaySettings.{ReplaySettings}
use Rattle.command_line.specs.declared.settings.Settings.{Settings}

-- an IPv4 address
abbrev pub ipv4_address : List ℕ → Option Ip
ipv4_address text = option_map V4 (ipv4_bytes text)

-- an IPv6 address
abbrev pub ipv6_address : List ℕ → Option Ip
ipv6_address text = option_map (λ groups. V6 (bytes_of_groups groups)) (eight_groups text)

-- the interface of version 6, where there is one
abbrev pub other_interface : List ℕ → Option (Option Ip)
other_interface text = option_map Some (ipv6_address text)

-- the address with a port, where both are there
abbrev pub addr_with_port : Option Ip → Option ℕ → Option Addr
addr_with_port None port = None
addr_with_port (Some ip) None = None
addr_with_port (Some ip) (Some port) = Some (record { ip = ip; port = port })

-- an IPv4 address and a port, with a colon at this place between them
abbrev pub address_and_port : List ℕ → Option ℕ → Option Addr
address_and_port text None = None
address_and_port text (Some at) = addr_with_port (ipv4_address (take at text)) (whole_number 65535 (drop (at + 1) text))

-- an IPv4 address, a colon, a port
abbrev pub listen_address : List ℕ → Option Addr
listen_address text = address_and_port text (position (λ byte. byte == 58) text)

-- the configuration of a relay of this interface and of the other one, if any, of these ports and of this many calls at most: a call without packets
-- ends after `timeout` seconds, and an offer without an answer after `offer_timeout`
abbrev pub config_with : Ip → Option Ip → (port_min port_max max_sessions timeout offer_timeout : ℕ) → Config
config_with interface interface6 port_min port_max max_sessions timeout offer_timeout = record {
  interface = interface;
  interface6 = interface6;
  port_min = port_min;
  port_max = port_max;
  timeout_ms = 1000 * timeout;
  offer_timeout_ms = 1000 * offer_timeout;
  max_sessions = max_sessions;
}

-- 203.0.113.1, an address that documents may use and no host has (RFC 5737)
abbrev pub replay_interface : Ip
replay_interface = V4 (203 ∷ 0 ∷ 113 ∷ 1 ∷ [])

-- the configuration of a replay whose words say nothing of it
abbrev pub default_config : Config
default_config = config_with replay_interface None 30000 40000 2048 60 3600

-- this port and the next one are a pair of the range of ports: the first is even
abbrev pub IsPair : Config → ℕ → Type 0
IsPair config port = (port % 2 ≡ 0) × (config.port_min ≤ port) × (port + 1 ≤ config.port_max)

-- whether the range of ports holds a pair
abbrev pub has_pair : Config → Bool
has_pair config = nat_lt 0 (range_pairs config)

-- the configuration, where its range of ports holds a pair
abbrev pub where_pair_fits : Config → Option Config
where_pair_fits config = if has_pair config then Some config else None

-- the configuration that the options say, where each says something and the range of ports holds a pair
abbrev pub config_from : Option Ip → Option (Option Ip) → (port_min port_max max_sessions timeout offer_timeout : Option ℕ) → Option Config
config_from (Some interface) (Some interface6) (Some port_min) (Some port_max) (Some max_sessions) (Some timeout) (Some offer_timeout) =
    where_pair_fits (config_with interface interface6 port_min port_max max_sessions timeout offer_timeout)
config_from interface interface6 port_min port_max max_sessions timeout offer_timeout = None

-- what holds of each configuration that words say
pub record IsInLimits (config : Config) : Type 0 where
  pub families : AreFamilies config
  pub port_min : 1024 ≤ config.port_min
  pub port_max : config.port_max ≤ 65535
  pub pairs : 0 < pair_count config
  pub least_sessions : 1 ≤ config.max_sessions
  pub most_sessions : config.max_sessions ≤ 2048

-- what the options of `serve` say, where each says something
abbrev pub settings_from : Option Config → Option Addr → Option ℕ → Option ℕ → Option Settings
settings_from (Some config) (Some listen) (Some turns) (Some threads) = Some (record { config = config; listen = listen; turns = turns; threads = threads })
settings_from config listen turns threads = None

-- what the options of `replay` say, where each says something
abbrev pub replay_from : Option Config → Option ℕ → Option ReplaySettings
replay_from (Some config) (Some seed) = Some (record { config = config; seed = seed })
replay_from config seed = None

-- what the options of `load` say, where each says something; for the configuration it has none
abbrev pub load_from : (calls packets lanes seed : Option ℕ) → Option LoadSettings
load_from (Some calls) (Some packets) (Some lanes) (Some seed) =
    Some (record { config = default_config; calls = calls; packets = packets; lanes = lanes; seed = seed })
load_from calls packets lanes seed = None

-- what holds of what the words of `load` say
pub record IsLoadInLimits (settings : LoadSettings) : Type 0 where
  pub config : settings.config ≡ default_config
  pub limits : IsInLimits settings.config
  pub least_calls : 1 ≤ settings.calls
  pub most_calls : settings.calls ≤ 1000
  pub least_packets : 1 ≤ settings.packets
  pub most_packets : settings.packets ≤ 1000
  pub least_lanes : 1 ≤ settings.lanes
  pub most_lanes : settings.lanes ≤ 16
  pub seed : settings.seed ≤ 18446744073709551615

-- how a run with these settings relays media: by how many threads, at how many pairs of ports, of which the range holds how many, and where
-- the first pair begins
abbrev pub media_settings : Option Settings → Option Media
media_settings None = None
media_settings (Some settings) = Some (record { threads = settings.threads; pairs = pair_count settings.config; range_pairs = range_pairs settings.config; first_port = first_port settings.config })
