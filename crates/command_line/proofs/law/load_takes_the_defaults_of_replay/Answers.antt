use Rattle.std.proofs.Common.{[], Some, codes, refl}
use Rattle.command_line.specs.Values.{default_config}
use Rattle.command_line.proofs.LoadLaw.{load_config, replay_alone}
use Rattle.command_line.proofs.Tasks.{replays}
use Rattle.command_line.proofs.law.load_takes_the_defaults_of_replay.Goals as goal

pub returns : goal.returns
returns c words load is =
    (record { config = default_config; seed = 1 }, replays (codes "replay") [] (Some (record { config = default_config; seed = 1 })) refl refl replay_alone, load_config words load is)
