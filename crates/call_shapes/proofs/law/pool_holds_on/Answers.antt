use Rattle.std.proofs.Common.{◌∙◌, sym}
use Rattle.call_shapes.specs.Turns.{pairs_held}
use Rattle.call_shapes.proofs.Times.{count_times}
use Rattle.call_shapes.proofs.Pools.{leases_front, leases_hold, comes_back, come_back, reordered}
use Rattle.call_shapes.proofs.Starting.{fresh_holds}
use Rattle.call_shapes.proofs.law.pool_holds_on.Goals as goal

pub returns-clause-fresh : goal.returns-clause-fresh
returns-clause-fresh c = fresh_holds

pub returns-clause-lease : goal.returns-clause-lease
returns-clause-lease c = leases_front

pub returns-clause-leases : goal.returns-clause-leases
returns-clause-leases c = leases_hold

pub returns-clause-back : goal.returns-clause-back
returns-clause-back c = comes_back

pub returns-clause-all_back : goal.returns-clause-all_back
returns-clause-all_back c = come_back

pub returns-clause-order : goal.returns-clause-order
returns-clause-order c = λ config pool old new h from same. reordered config pool old new h from (λ pair. sym (count_times pair (pairs_held new)) ∙ same pair ∙ count_times pair (pairs_held old))
