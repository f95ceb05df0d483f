use Rattle.state_values.proofs.RelayLaws.{same_relays}
use Rattle.state_values.proofs.law.relays_differ.Goals as goal

pub returns : goal.returns
returns c = same_relays
