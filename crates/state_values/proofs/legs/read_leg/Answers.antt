use Rattle.state_values.proofs.KeyedTrees.{opened, after, refused}
use Rattle.state_values.proofs.legs.read_leg.Goals as goal

pub returns-in_err-family-clause-none : goal.returns-in_err-family-clause-none
returns-in_err-family-clause-none c = refused c.from_residual-in_err-family.ensures (λ saved fits same.
    c.in_err-family.ensures.none _ _ (opened c.in_ok-pairs.ensures.some same))

pub returns-in_err-in_force-clause-none : goal.returns-in_err-in_force-clause-none
returns-in_err-in_force-clause-none c = refused c.from_residual-in_err-in_force.ensures (λ saved fits same.
    c.in_err-in_force.ensures.none _ _ (after c.in_ok-family.ensures.some (opened c.in_ok-pairs.ensures.some same)))

pub returns-in_err-key_in_force-clause-none : goal.returns-in_err-key_in_force-clause-none
returns-in_err-key_in_force-clause-none c = refused c.from_residual-in_err-key_in_force.ensures (λ saved fits same.
    c.in_err-key_in_force.ensures.none _ _ (after c.in_ok-in_force.ensures.some (after c.in_ok-family.ensures.some (opened c.in_ok-pairs.ensures.some same))))

pub returns-in_err-long_key-clause-none : goal.returns-in_err-long_key-clause-none
returns-in_err-long_key-clause-none c = refused c.from_residual-in_err-long_key.ensures (λ saved fits same.
    c.in_err-long_key.ensures.none _ _ (after c.in_ok-key_in_force.ensures.some (after c.in_ok-in_force.ensures.some (after c.in_ok-family.ensures.some (opened c.in_ok-pairs.ensures.some same)))))

pub returns-in_err-offered-clause-none : goal.returns-in_err-offered-clause-none
returns-in_err-offered-clause-none c = refused c.from_residual-in_err-offered.ensures (λ saved fits same.
    c.in_err-offered.ensures.none _ _ (after c.in_ok-long_key.ensures.some (after c.in_ok-key_in_force.ensures.some (after c.in_ok-in_force.ensures.some (after c.in_ok-family.ensures.some (opened c.in_ok-pairs.ensures.some same))))))

pub returns-in_err-port-clause-none : goal.returns-in_err-port-clause-none
returns-in_err-port-clause-none c = refused c.from_residual-in_err-port.ensures (λ saved fits same.
    c.in_err-port.ensures.none _ _ (after c.in_ok-offered.ensures.some (after c.in_ok-long_key.ensures.some (after c.in_ok-key_in_force.ensures.some (after c.in_ok-in_force.ensures.some (after c.in_ok-family.ensures.some (opened c.in_ok-pairs.ensures.some same)))))))

pub returns-in_err-short_key-clause-none : goal.returns-in_err-short_key-clause-none
returns-in_err-short_key-clause-none c = refused c.from_residual-in_err-short_key.ensures (λ saved fits same.
    c.in_err-short_key.ensures.none _ _ (after c.in_ok-port.ensures.some (after c.in_ok-offered.ensures.some (after c.in_ok-long_key.ensures.some (after c.in_ok-key_in_force.ensures.some (after c.in_ok-in_force.ensures.some (after c.in_ok-family.ensures.some (opened c.in_ok-pairs.ensures.some same))))))))
