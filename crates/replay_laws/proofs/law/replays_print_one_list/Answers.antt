use Rattle.replay_laws.proofs.law.replays_print_one_list.Goals as goal
use Rattle.replay_laws.proofs.Whole.{replays_once, replays_faulty}
use Rattle.replay_laws.proofs.Texts.{writes_once}
use Rattle.replay_laws.proofs.Broken.{writes_broken}

pub returns-clause-prints : goal.returns-clause-prints
returns-clause-prints c = replays_once

pub returns-clause-faults : goal.returns-clause-faults
returns-clause-faults c = replays_faulty

pub returns-clause-texts : goal.returns-clause-texts
returns-clause-texts c = writes_once

pub returns-clause-broken : goal.returns-clause-broken
returns-clause-broken c = writes_broken
