use Rattle.relay_script.proofs.Once.{one_step}
use Rattle.relay_script.proofs.law.one_step.Goals as goal

pub returns : goal.returns
returns c = one_step
