use Rattle.state_values.proofs.KeyedTrees.{opened, after, refused}
use Rattle.state_values.proofs.lines.read_line.Goals as goal

pub returns-in_err-key-clause-none : goal.returns-in_err-key-clause-none
returns-in_err-key-clause-none c = refused c.from_residual-in_err-key.ensures (λ saved fits same.
    c.in_err-key.ensures.none _ _ (opened c.in_ok-pairs.ensures.some same))

pub returns-in_err-suite-clause-none : goal.returns-in_err-suite-clause-none
returns-in_err-suite-clause-none c = refused c.from_residual-in_err-suite.ensures (λ saved fits same.
    c.in_err-suite.ensures.none _ _ (after c.in_ok-key.ensures.some (opened c.in_ok-pairs.ensures.some same)))

pub returns-in_err-tag-clause-none : goal.returns-in_err-tag-clause-none
returns-in_err-tag-clause-none c = refused c.from_residual-in_err-tag.ensures (λ saved fits same.
    c.in_err-tag.ensures.none _ _ (after c.in_ok-suite.ensures.some (after c.in_ok-key.ensures.some (opened c.in_ok-pairs.ensures.some same))))
