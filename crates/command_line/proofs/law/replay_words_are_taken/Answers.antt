use Rattle.std.proofs.Common.{Some, codes, refl}
use Rattle.command_line.proofs.ReplayLaw.{replay_law}
use Rattle.command_line.proofs.Tasks.{replays}
use Rattle.command_line.proofs.law.replay_words_are_taken.Goals as goal

pub returns : goal.returns
returns c words settings is = replays (codes "replay") words (Some settings) refl refl (replay_law words settings is)
