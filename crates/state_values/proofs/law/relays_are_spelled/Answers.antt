use Rattle.state_values.proofs.RelayLaws.{relay_spelled}
use Rattle.state_values.proofs.law.relays_are_spelled.Goals as goal

pub returns : goal.returns
returns c = relay_spelled
