use Rattle.replay_laws.proofs.law.steps_print_alike.Goals as goal
use Rattle.replay_laws.proofs.Steps.{step_once}

pub returns : goal.returns
returns c = step_once
