use Rattle.state_values.proofs.KeyedTrees.{opened, after, refused}
use Rattle.state_values.proofs.options.read_flags.Goals as goal

pub returns-in_err-asymmetric-clause-none : goal.returns-in_err-asymmetric-clause-none
returns-in_err-asymmetric-clause-none c = refused c.from_residual-in_err-asymmetric.ensures (λ saved same.
    c.in_err-asymmetric.ensures.none _ _ (opened c.in_ok-pairs.ensures.some same))

pub returns-in_err-handover-clause-none : goal.returns-in_err-handover-clause-none
returns-in_err-handover-clause-none c = refused c.from_residual-in_err-handover.ensures (λ saved same.
    c.in_err-handover.ensures.none _ _ (after c.in_ok-asymmetric.ensures.some (opened c.in_ok-pairs.ensures.some same)))

pub returns-in_err-strict-clause-none : goal.returns-in_err-strict-clause-none
returns-in_err-strict-clause-none c = refused c.from_residual-in_err-strict.ensures (λ saved same.
    c.in_err-strict.ensures.none _ _ (after c.in_ok-handover.ensures.some (after c.in_ok-asymmetric.ensures.some (opened c.in_ok-pairs.ensures.some same))))
