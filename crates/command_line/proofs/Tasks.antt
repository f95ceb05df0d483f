-- What a command line asks for, by its first word.
use Rattle.std.proofs.Common.{◌≡◌, ap, true, false, List, Option, None, refl, codes}
use Rattle.std.specs.Option.{option_map}
use Rattle.std.specs.Str.{bytes_eq}
use Rattle.clap.specs.Walk.{Text}
use Rattle.command_line.specs.Words.{load_words, replay_words, serve_settings, task_after}
use Rattle.command_line.specs.declared.settings.LoadSettings.{LoadSettings}
use Rattle.command_line.specs.declared.settings.Settings.{Settings}
use Rattle.command_line.specs.declared.settings.ReplaySettings.{ReplaySettings}
use Rattle.command_line.specs.declared.settings.Task.TheVariants.{Serve, Replay, Load}

pub serves : (command : Text) (options : List Text) (said : Option Settings) → bytes_eq command (codes "serve") ≡ true → serve_settings options ≡ said
    → task_after command options ≡ option_map Serve said
unfolding task_after
serves command options said named e = rw named (ap (option_map Serve) e)

pub replays : (command : Text) (options : List Text) (said : Option ReplaySettings) → bytes_eq command (codes "serve") ≡ false → bytes_eq command (codes "replay") ≡ true
    → replay_words options ≡ said → task_after command options ≡ option_map Replay said
unfolding task_after
replays command options said other named e = rw (other, named) (ap (option_map Replay) e)

pub loads : (command : Text) (options : List Text) (said : Option LoadSettings) → bytes_eq command (codes "serve") ≡ false → bytes_eq command (codes "replay") ≡ false
    → bytes_eq command (codes "load") ≡ true → load_words options ≡ said → task_after command options ≡ option_map Load said
unfolding task_after
loads command options said first second named e = rw (first, second, named) (ap (option_map Load) e)

pub none_of_them : (command : Text) (options : List Text) → bytes_eq command (codes "serve") ≡ false → bytes_eq command (codes "replay") ≡ false → bytes_eq command (codes "load") ≡ false
    → task_after command options ≡ None
unfolding task_after
none_of_them command options first second third = rw (first, second, third) refl
