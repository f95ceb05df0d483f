use Rattle.state_values.proofs.KeyedTrees.{opened, after, refused}
use Rattle.state_values.proofs.kept_sections.read_kept.Goals as goal

pub returns-in_err-a-clause-none : goal.returns-in_err-a-clause-none
returns-in_err-a-clause-none c = refused c.from_residual-in_err-a.ensures (λ saved fits same.
    c.in_err-a.ensures.none _ _ (opened c.in_ok-pairs.ensures.some same))

pub returns-in_err-b-clause-none : goal.returns-in_err-b-clause-none
returns-in_err-b-clause-none c = refused c.from_residual-in_err-b.ensures (λ saved fits same.
    c.in_err-b.ensures.none _ _ (after c.in_ok-a.ensures.some (opened c.in_ok-pairs.ensures.some same)))

pub returns-in_err-has_pairs-clause-none : goal.returns-in_err-has_pairs-clause-none
returns-in_err-has_pairs-clause-none c = refused c.from_residual-in_err-has_pairs.ensures (λ saved fits same.
    c.in_err-has_pairs.ensures.none _ _ (after c.in_ok-b.ensures.some (after c.in_ok-a.ensures.some (opened c.in_ok-pairs.ensures.some same))))

pub returns-in_err-is_committed-clause-none : goal.returns-in_err-is_committed-clause-none
returns-in_err-is_committed-clause-none c = refused c.from_residual-in_err-is_committed.ensures (λ saved fits same.
    c.in_err-is_committed.ensures.none _ _ (after c.in_ok-has_pairs.ensures.some (after c.in_ok-b.ensures.some (after c.in_ok-a.ensures.some (opened c.in_ok-pairs.ensures.some same)))))
