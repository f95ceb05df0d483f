use Rattle.call_shapes.proofs.NewHolders.{new_holders_leased, leases_follow}
use Rattle.call_shapes.proofs.law.new_legs_are_leased.Goals as goal

pub returns-clause-leased : goal.returns-clause-leased
returns-clause-leased c = new_holders_leased

pub returns-clause-follow : goal.returns-clause-follow
returns-clause-follow c = leases_follow
