use Rattle.state_values.proofs.KeyedTrees.{opened, after, refused}
use Rattle.state_values.proofs.pools.pool_fields.Goals as goal

pub returns-in_err-generations-clause-none : goal.returns-in_err-generations-clause-none
returns-in_err-generations-clause-none c = refused c.from_residual-in_err-generations.ensures (λ saved same.
    c.in_err-generations.ensures.none _ _ (after c.in_ok-free6.ensures.some (after c.in_ok-free4.ensures.some (opened c.in_ok-pairs.ensures.some same))))
