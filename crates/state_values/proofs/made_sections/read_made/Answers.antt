use Rattle.state_values.proofs.KeyedTrees.{opened, after, refused}
use Rattle.state_values.proofs.made_sections.read_made.Goals as goal

pub returns-in_err-line-clause-none : goal.returns-in_err-line-clause-none
returns-in_err-line-clause-none c = refused c.from_residual-in_err-line.ensures (λ saved fits same.
    c.in_err-line.ensures.none _ _ (opened c.in_ok-pairs.ensures.some same))

pub returns-in_err-lines-clause-none : goal.returns-in_err-lines-clause-none
returns-in_err-lines-clause-none c = refused c.from_residual-in_err-lines.ensures (λ saved fits same.
    c.in_err-lines.ensures.none _ _ (after c.in_ok-line.ensures.some (opened c.in_ok-pairs.ensures.some same)))

pub returns-in_err-section-clause-none : goal.returns-in_err-section-clause-none
returns-in_err-section-clause-none c = refused c.from_residual-in_err-section.ensures (λ saved fits same.
    c.in_err-section.ensures.none _ _ (after c.in_ok-lines.ensures.some (after c.in_ok-line.ensures.some (opened c.in_ok-pairs.ensures.some same))))

pub returns-in_err-written-clause-none : goal.returns-in_err-written-clause-none
returns-in_err-written-clause-none c = refused c.from_residual-in_err-written.ensures (λ saved fits same.
    c.in_err-written.ensures.none _ _ (after c.in_ok-section.ensures.some (after c.in_ok-lines.ensures.some (after c.in_ok-line.ensures.some (opened c.in_ok-pairs.ensures.some same)))))
