use Rattle.state_values.proofs.KeyedTrees.{opened, after, refused}
use Rattle.state_values.proofs.drawn_keys.read_key.Goals as goal

pub returns-in_err-bytes-clause-none : goal.returns-in_err-bytes-clause-none
returns-in_err-bytes-clause-none c = refused c.from_residual-in_err-bytes.ensures (λ saved fits same.
    c.in_err-bytes.ensures.none _ _ (opened c.in_ok-pairs.ensures.some same))

pub returns-in_err-number-clause-none : goal.returns-in_err-number-clause-none
returns-in_err-number-clause-none c = refused c.from_residual-in_err-number.ensures (λ saved fits same.
    c.in_err-number.ensures.none _ _ (after c.in_ok-bytes.ensures.some (opened c.in_ok-pairs.ensures.some same)))

pub returns-in_err-suite-clause-none : goal.returns-in_err-suite-clause-none
returns-in_err-suite-clause-none c = refused c.from_residual-in_err-suite.ensures (λ saved fits same.
    c.in_err-suite.ensures.none _ _ (after c.in_ok-number.ensures.some (after c.in_ok-bytes.ensures.some (opened c.in_ok-pairs.ensures.some same))))
