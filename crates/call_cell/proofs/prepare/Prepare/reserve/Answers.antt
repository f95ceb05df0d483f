use Rattle.call_cell.proofs.Prepared.{nothing, no_flags}
use Rattle.call_cell.proofs.prepare.Prepare.reserve.Goals as goal

pub returns-clause-nothing : goal.returns-clause-nothing
returns-clause-nothing g c = nothing _ c.in_ok-keys.ensures.items c.in_ok-legs.ensures.legs.0 no_flags
