use Rattle.relay_core.proofs.laws.orderly_is_safe.Goals as goal
use Rattle.relay_core.proofs.Safety.{board_is_safe}

pub returns : goal.returns
returns c = board_is_safe
