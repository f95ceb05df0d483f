-- The words that may follow a command in the form `--name=value`, each name once at most, and what they say.
use Rattle.std.specs.Prelude.{ℕ, ◌==◌, ◌&&◌, ◌||◌, not, List, [], ◌∷◌, filter_map, Bool, false, Option, Some, None, if◌then◌else◌, codes, option_and_then}
use Rattle.std.specs.List.{list_all, list_any, before_first, after_first}
use Rattle.std.specs.Option.{option_map_or}
use Rattle.std.specs.Str.{bytes_eq}
use Rattle.relay_outside.specs.declared.address.Addr.{Addr}
use Rattle.relay_outside.specs.declared.address.Ip.{Ip}
use Rattle.relay_outside.specs.declared.address.Ip.TheVariants.{V4}
use Rattle.relay_outside.specs.declared.settings.Config.{Config}
use Rattle.sdp_text.specs.Pieces.{is_digit, is_filled}
use Rattle.command_line.specs.Numbers.{number_within}
use Rattle.command_line.specs.Values.{ipv4_address, listen_address, other_interface, config_from, settings_from, replay_from, load_from, replay_interface}
use Rattle.command_line.specs.declared.settings.LoadSettings.{LoadSettings}
use Rattle.command_line.specs.declared.settings.ReplaySettings.{ReplaySettings}
use Rattle.command_line.specs.declared.settings.Settings.{Settings}

-- a port of the range for media: those below 1,024 are the system's (RFC 6335 section 6)
abbrev pub media_port_value : List ℕ → Option ℕ
media_port_value text = number_within 1024 65535 text

-- how many calls may be live at a time
abbrev pub session_count : List ℕ → Option ℕ
session_count text = number_within 1 2048 text

-- a number of 1 to 10 ^ 15
abbrev pub turn_count : List ℕ → Option ℕ
turn_count text = number_within 1 1000000000000000 text

-- how many threads relay media besides the one that answers commands; where there is none, that one relays it too
abbrev pub thread_count : List ℕ → Option ℕ
thread_count text = number_within 0 16 text

-- a time: a number of seconds, from one to a day
abbrev pub second_count : List ℕ → Option ℕ
second_count text = number_within 1 86400 text

-- a seed: a number that fits 64 bits
abbrev pub seed_number : List ℕ → Option ℕ
seed_number text = number_within 0 18446744073709551615 text

-- how many calls are made
abbrev pub call_count : List ℕ → Option ℕ
call_count text = number_within 1 1000 text

-- how many packets each side of a call sends
abbrev pub packet_count : List ℕ → Option ℕ
packet_count text = number_within 1 1000 text

-- how many lanes relay them
abbrev pub lanes_value : List ℕ → Option ℕ
lanes_value text = number_within 1 16 text

-- `--name=value`, as the name and the value
abbrev pub option_named : List ℕ → Option (List ℕ × List ℕ)
option_named [] = None
option_named (a ∷ []) = None
option_named (a ∷ b ∷ rest) =
    if a == 45 && (b == 45 && list_any (λ byte. byte == 61) rest)
    then Some (before_first (λ byte. byte == 61) rest, after_first (λ byte. byte == 61) rest)
    else None

-- a decimal number in a spelling that the grammar doesn't have: behind a plus, or behind a zero
abbrev pub is_respelled : List ℕ → Bool
is_respelled [] = false
is_respelled (first ∷ rest) = (first == 43 || first == 48) && (is_filled rest && list_all is_digit rest)

-- a word in the form `--name=value`, whose value is no number in another spelling
abbrev pub is_in_form : List ℕ → Bool
is_in_form word = option_map_or (λ said. not (is_respelled said.1)) (option_named word) false

-- the value that a word gives to an option, where it is that option's word
abbrev pub value_for : List ℕ → List ℕ → Option (List ℕ)
value_for name word = option_and_then (λ said. if bytes_eq said.0 name then Some said.1 else None) (option_named word)

-- the values that the words give to an option
abbrev pub values_of : List ℕ → List (List ℕ) → List (List ℕ)
values_of name words = filter_map (value_for name) words

-- whether a word is that of one of these options
abbrev pub is_option : List (List ℕ) → List ℕ → Bool
is_option names word = option_map_or (λ said. list_any (bytes_eq said.0) names) (option_named word) false

-- the options that `serve` and `replay` share, but the interfaces
abbrev pub shared_names : List (List ℕ)
shared_names = codes "port-min" ∷ codes "port-max" ∷ codes "max-sessions" ∷ codes "timeout" ∷ codes "offer-timeout" ∷ []

abbrev pub serve_names : List (List ℕ)
serve_names = codes "interface" ∷ codes "interface6" ∷ codes "listen-ng" ∷ codes "turns" ∷ codes "num-threads" ∷ shared_names

abbrev pub replay_names : List (List ℕ)
replay_names = codes "interface" ∷ codes "interface6" ∷ codes "seed" ∷ shared_names

abbrev pub load_names : List (List ℕ)
load_names = codes "calls" ∷ codes "packets" ∷ codes "lanes" ∷ codes "seed" ∷ []

-- what the one value reads as; where there is none, the default; an option stands once at most
abbrev pub one_value : {X : Type 0} → (List ℕ → Option X) → Option X → List (List ℕ) → Option X
one_value read default [] = default
one_value read default (value ∷ []) = read value
one_value read default (value ∷ again ∷ values) = None

-- 127.0.0.1:2223
abbrev pub default_listen : Addr
default_listen = record { ip = V4 (127 ∷ 0 ∷ 0 ∷ 1 ∷ []); port = 2223 }

-- `interface` with an IPv4 address, which is required where no default is given for it, `interface6` with an IPv6 address, without which there is no
-- interface of version 6, `port-min` and `port-max` with a port each, `max-sessions` with a number, `timeout` and `offer-timeout` with a number of
-- seconds each
abbrev pub configuration : Option Ip → List (List ℕ) → Option Config
configuration interface words =
    config_from
    (one_value ipv4_address interface (values_of (codes "interface") words))
    (one_value other_interface (Some None) (values_of (codes "interface6") words))
    (one_value media_port_value (Some 30000) (values_of (codes "port-min") words))
    (one_value media_port_value (Some 40000) (values_of (codes "port-max") words))
    (one_value session_count (Some 2048) (values_of (codes "max-sessions") words))
    (one_value second_count (Some 60) (values_of (codes "timeout") words))
    (one_value second_count (Some 3600) (values_of (codes "offer-timeout") words))

-- what the words after `serve` say: those of the configuration, `listen-ng` with an IPv4 address and a port, `turns` and
-- `num-threads` with a number each
abbrev pub allowed_serve : List (List ℕ) → Option Settings
allowed_serve words =
    if list_all (is_option serve_names) words
    then settings_from
    (configuration None words)
    (one_value listen_address (Some default_listen) (values_of (codes "listen-ng") words))
    (one_value turn_count (Some 1000000000000000) (values_of (codes "turns") words))
    (one_value thread_count (Some 4) (values_of (codes "num-threads") words))
    else None

-- what the words after `replay` say: those of the configuration, and `seed` with a number
abbrev pub allowed_replay : List (List ℕ) → Option ReplaySettings
allowed_replay words =
    if list_all (is_option replay_names) words
    then replay_from
    (configuration (Some replay_interface) words)
    (one_value seed_number (Some 1) (values_of (codes "seed") words))
    else None

-- what the words after `load` say: `calls`, `packets`, `lanes` and `seed` with a number each
abbrev pub allowed_load : List (List ℕ) → Option LoadSettings
allowed_load words =
    if list_all (is_option load_names) words
    then load_from
    (one_value call_count (Some 50) (values_of (codes "calls") words))
    (one_value packet_count (Some 200) (values_of (codes "packets") words))
    (one_value lanes_value (Some 4) (values_of (codes "lanes") words))
    (one_value seed_number (Some 1) (values_of (codes "seed") words))
    else None
