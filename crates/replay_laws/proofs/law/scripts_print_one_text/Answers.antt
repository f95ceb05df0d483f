use Rattle.replay_laws.proofs.law.scripts_print_one_text.Goals as goal
use Rattle.replay_laws.proofs.Scripts.{scripts_once, scripts_broken}

pub returns-clause-same : goal.returns-clause-same
returns-clause-same c = scripts_once

pub returns-clause-broken : goal.returns-clause-broken
returns-clause-broken c = scripts_broken
