use Rattle.state_values.proofs.CallLaws.{calls_spelled}
use Rattle.state_values.proofs.law.calls_are_spelled.Goals as goal

pub returns : goal.returns
returns c = calls_spelled
