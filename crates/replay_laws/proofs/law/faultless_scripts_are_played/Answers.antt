use Rattle.replay_laws.proofs.law.faultless_scripts_are_played.Goals as goal
use Rattle.replay_laws.proofs.Faultless.{ends_faultless, tried}

pub returns-clause-ends : goal.returns-clause-ends
returns-clause-ends c = ends_faultless

pub returns-clause-tried : goal.returns-clause-tried
returns-clause-tried c = tried
