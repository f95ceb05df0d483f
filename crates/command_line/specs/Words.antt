-- What the words of a command line say, as `clap` reads them.
use Rattle.std.specs.Prelude.{ℕ, ◌≤◌, List, [], ◌∷◌, Option, Some, None, codes, if◌then◌else◌, option_and_then}
use Rattle.std.specs.Option.{option_map}
use Rattle.std.specs.Str.{bytes_eq}
use Rattle.std.specs.Str.Parse.{digits_value, without_leading_plus}
use Rattle.clap.specs.Walk.{Row, Text, first_of, one_of}
use Rattle.clap.specs.Words.{App, Kinds, fault_of, matches_of}
use Rattle.clap.specs.ValueTests.{is_unsigned_in}
use Rattle.relay_outside.specs.declared.settings.Config.{Config}
use Rattle.command_line.specs.Commands.{serve_app, replay_app, load_app}
use Rattle.command_line.specs.Values.{ipv4_address, listen_address, other_interface, config_from, settings_from, replay_from, load_from, IsInLimits, IsLoadInLimits}
use Rattle.command_line.specs.declared.settings.LoadSettings.{LoadSettings}
use Rattle.command_line.specs.declared.settings.ReplaySettings.{ReplaySettings}
use Rattle.command_line.specs.declared.settings.Settings.{Settings}
use Rattle.command_line.specs.declared.settings.Task.{Task}
use Rattle.command_line.specs.declared.settings.Task.TheVariants.{Serve, Replay, Load}

-- the rows, where nothing is at fault
abbrev pub rows_if : Kinds → List Row → Option (List Row)
rows_if [] rows = Some rows
rows_if (kind ∷ kinds) rows = None

-- the values that `clap` gives the options of a command, by the words after the command's name, where it refuses nothing
unfoldable pub taken : App → List Text → Option (List Row)
taken app words = rows_if (fault_of app words) (matches_of app words)

-- the number that a text says as `clap` reads it, where it is from the one limit to the other
abbrev pub number_in : (least most : ℕ) → Text → Option ℕ
number_in least most text = if is_unsigned_in least most text then Some (digits_value 10 (without_leading_plus text)) else None

-- the number that an option has
abbrev pub option_number : (least most : ℕ) → Text → List Row → Option ℕ
option_number least most name rows = option_and_then (number_in least most) (one_of name rows)

-- what the text of an option reads as; where there is none, the default
abbrev pub read_or : {X : Type 0} → X → (Text → Option X) → Option Text → Option X
read_or default read None = Some default
read_or default read (Some text) = read text

-- the configuration by the values of the options
abbrev pub config_of : List Row → Option Config
config_of rows =
    config_from
    (option_and_then ipv4_address (first_of (codes "interface") rows))
    (read_or None other_interface (first_of (codes "interface6") rows))
    (option_number 1024 65535 (codes "port-min") rows)
    (option_number 1024 65535 (codes "port-max") rows)
    (option_number 1 2048 (codes "max-sessions") rows)
    (option_number 1 86400 (codes "timeout") rows)
    (option_number 1 86400 (codes "offer-timeout") rows)

abbrev pub settings_of : List Row → Option Settings
settings_of rows =
    settings_from
    (config_of rows)
    (option_and_then listen_address (first_of (codes "listen-ng") rows))
    (option_number 1 1000000000000000 (codes "turns") rows)
    (option_number 0 16 (codes "num-threads") rows)

abbrev pub replay_of : List Row → Option ReplaySettings
replay_of rows = replay_from (config_of rows) (option_number 0 18446744073709551615 (codes "seed") rows)

abbrev pub load_of : List Row → Option LoadSettings
load_of rows =
    load_from
    (option_number 1 1000 (codes "calls") rows)
    (option_number 1 1000 (codes "packets") rows)
    (option_number 1 16 (codes "lanes") rows)
    (option_number 0 18446744073709551615 (codes "seed") rows)

-- what the words after `serve` say
abbrev pub serve_settings : List Text → Option Settings
serve_settings words = option_and_then settings_of (taken serve_app words)

-- what the words after `replay` say
abbrev pub replay_words : List Text → Option ReplaySettings
replay_words words = option_and_then replay_of (taken replay_app words)

-- what the words after `load` say
abbrev pub load_words : List Text → Option LoadSettings
load_words words = option_and_then load_of (taken load_app words)

-- what the words after a command's name ask for: `clap` reads them
unfoldable pub task_after : Text → List Text → Option Task
task_after command words =
    if bytes_eq command (codes "serve") then option_map Serve (serve_settings words)
    else (if bytes_eq command (codes "replay") then option_map Replay (replay_words words)
    else (if bytes_eq command (codes "load") then option_map Load (load_words words) else None))

-- what a command line asks for: the first word is a command's name
abbrev pub task_of : List Text → Option Task
task_of [] = None
task_of (command ∷ words) = task_after command words

abbrev pub serve_of : Option Task → Option Settings
serve_of (Some (Serve settings)) = Some settings
serve_of task = None

abbrev pub replays_of : Option Task → Option ReplaySettings
replays_of (Some (Replay settings)) = Some settings
replays_of task = None

abbrev pub loads_of : Option Task → Option LoadSettings
loads_of (Some (Load settings)) = Some settings
loads_of task = None

-- what a command line says, where its command is `serve`
abbrev pub settings : List Text → Option Settings
settings words = serve_of (task_of words)

-- what a command line says, where its command is `replay`
abbrev pub replay_settings : List Text → Option ReplaySettings
replay_settings words = replays_of (task_of words)

-- what a command line says, where its command is `load`
abbrev pub load_settings : List Text → Option LoadSettings
load_settings words = loads_of (task_of words)

-- what holds of each task that words say
abbrev pub IsTaskInLimits : Task → Type 0
IsTaskInLimits (Serve settings) = IsInLimits settings.config × (settings.turns ≤ 1000000000000000) × (settings.threads ≤ 16)
IsTaskInLimits (Replay settings) = IsInLimits settings.config
IsTaskInLimits (Load settings) = IsLoadInLimits settings
