-- What `clap` is told of the commands: the options of each, with their names, ranges and defaults.
use Rattle.std.specs.Prelude.{ℕ, List, [], ◌∷◌, ◌++◌, Some, true, codes, fold}
use Rattle.clap.specs.Walk.{Rule, Text}
use Rattle.clap.specs.Simple.{App, new_rule, new_shape, with_rule}
use Rattle.clap.specs.declared.builder.value_parser.ValueParser.TheVariants.{Unsigned}

-- an option with one value, any text
abbrev pub option_rule : Text → Rule
option_rule name = record (new_rule name) { long = Some name; value_names = 1 }

abbrev pub required_rule : Text → Rule
required_rule name = record (option_rule name) { required = true }

abbrev pub default_rule : Text → Text → Rule
default_rule name default = record (option_rule name) { defaults = default ∷ [] }

-- an option whose value is a number from the one limit to the other
abbrev pub number_rule : Text → (least most : ℕ) → Text → Rule
number_rule name least most default = record (default_rule name default) { parser = Some (Unsigned least most) }

-- the options that `serve` and `replay` share, but the interfaces
abbrev pub shared_rules : List Rule
shared_rules =
    number_rule (codes "port-min") 1024 65535 (codes "30000")
    ∷ number_rule (codes "port-max") 1024 65535 (codes "40000")
    ∷ number_rule (codes "max-sessions") 1 2048 (codes "2048")
    ∷ number_rule (codes "timeout") 1 86400 (codes "60")
    ∷ number_rule (codes "offer-timeout") 1 86400 (codes "3600")
    ∷ []

abbrev pub serve_rules : List Rule
serve_rules =
    (required_rule (codes "interface") ∷ option_rule (codes "interface6") ∷ default_rule (codes "listen-ng") (codes "127.0.0.1:2223") ∷ [])
    ++ shared_rules
    ++ (number_rule (codes "turns") 1 1000000000000000 (codes "1000000000000000")
    ∷ number_rule (codes "num-threads") 0 16 (codes "4")
    ∷ [])

abbrev pub replay_rules : List Rule
replay_rules =
    (default_rule (codes "interface") (codes "203.0.113.1") ∷ option_rule (codes "interface6") ∷ [])
    ++ shared_rules
    ++ (number_rule (codes "seed") 0 18446744073709551615 (codes "1") ∷ [])

abbrev pub load_rules : List Rule
load_rules =
    number_rule (codes "calls") 1 1000 (codes "50")
    ∷ number_rule (codes "packets") 1 1000 (codes "200")
    ∷ number_rule (codes "lanes") 1 16 (codes "4")
    ∷ number_rule (codes "seed") 0 18446744073709551615 (codes "1")
    ∷ []

-- the command with these options more
abbrev pub with_rules : App → List Rule → App
with_rules app rules = fold with_rule app rules

-- a command of these options, whose words are those after the command's name
abbrev pub app_of_rules : Text → List Rule → App
app_of_rules name rules = record {
  top = record (new_shape name) { rules = rules; no_binary_name = true };
  subs = [];
}

unfoldable pub serve_app : App
serve_app = app_of_rules (codes "rtpengine serve") serve_rules

unfoldable pub replay_app : App
replay_app = app_of_rules (codes "rtpengine replay") replay_rules

unfoldable pub load_app : App
load_app = app_of_rules (codes "rtpengine load") load_rules
