use Rattle.state_values.proofs.CallLaws.{same_calls}
use Rattle.state_values.proofs.law.calls_differ.Goals as goal

pub returns : goal.returns
returns c = same_calls
