use Rattle.relay_core.proofs.laws.legal_is_safe.Goals as goal
use Rattle.relay_core.proofs.Safety.{legal_safe}

pub returns : goal.returns
returns c = legal_safe
