use Rattle.state_values.proofs.KeyedTrees.{opened, after, refused}
use Rattle.state_values.proofs.caches.cache_fields.Goals as goal

pub returns-in_err-moment-clause-none : goal.returns-in_err-moment-clause-none
returns-in_err-moment-clause-none c = refused c.from_residual-in_err-moment.ensures (λ saved fits same.
    c.in_err-moment.ensures.none _ _ (after c.in_ok-kept.ensures.some (after c.in_ok-count.ensures.some (opened c.in_ok-pairs.ensures.some same))))
