use Rattle.std.proofs.Common.{None, codes, refl}
use Rattle.command_line.proofs.LoadLaw.{load_else}
use Rattle.command_line.proofs.ReplayLaw.{replay_else}
use Rattle.command_line.proofs.ServeLaw.{serve_else}
use Rattle.command_line.proofs.Tasks.{loads, replays, serves}
use Rattle.command_line.proofs.law.other_words_are_refused.Goals as goal

pub returns-clause-serve : goal.returns-clause-serve
returns-clause-serve c words form none = serves (codes "serve") words None refl (serve_else words form none)

pub returns-clause-replay : goal.returns-clause-replay
returns-clause-replay c words form none = replays (codes "replay") words None refl refl (replay_else words form none)

pub returns-clause-load : goal.returns-clause-load
returns-clause-load c words form none = loads (codes "load") words None refl refl refl (load_else words form none)
