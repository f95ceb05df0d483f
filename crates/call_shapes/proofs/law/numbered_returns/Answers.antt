use Rattle.call_shapes.proofs.NumberedSteps.{numbered_gone_out, numbered_all_out, leases_out}
use Rattle.call_shapes.proofs.law.numbered_returns.Goals as goal

pub returns-clause-gone : goal.returns-clause-gone
returns-clause-gone c = numbered_gone_out

pub returns-clause-ended : goal.returns-clause-ended
returns-clause-ended c = numbered_all_out

pub returns-clause-undone : goal.returns-clause-undone
returns-clause-undone c = leases_out
