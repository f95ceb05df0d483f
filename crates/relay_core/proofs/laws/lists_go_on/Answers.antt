use Rattle.relay_core.proofs.Firsts.{continues_nothing, takes_later}
use Rattle.relay_core.proofs.laws.lists_go_on.Goals as goal

pub returns-clause-from_nothing : goal.returns-clause-from_nothing
returns-clause-from_nothing c = continues_nothing

pub returns-clause-takes_later : goal.returns-clause-takes_later
returns-clause-takes_later c = takes_later
