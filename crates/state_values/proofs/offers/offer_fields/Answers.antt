use Rattle.state_values.proofs.KeyedTrees.{opened, after, refused}
use Rattle.state_values.proofs.offers.offer_fields.Goals as goal

pub returns-in_err-count-clause-none : goal.returns-in_err-count-clause-none
returns-in_err-count-clause-none c = refused c.from_residual-in_err-count.ensures (λ saved fits same.
    c.in_err-count.ensures.none _ _ (opened c.in_ok-pairs.ensures.some same))

pub returns-in_err-from_tag-clause-none : goal.returns-in_err-from_tag-clause-none
returns-in_err-from_tag-clause-none c = refused c.from_residual-in_err-from_tag.ensures (λ saved fits same.
    c.in_err-from_tag.ensures.none _ _ (after c.in_ok-count.ensures.some (opened c.in_ok-pairs.ensures.some same)))

pub returns-in_err-maker-clause-none : goal.returns-in_err-maker-clause-none
returns-in_err-maker-clause-none c = refused c.from_residual-in_err-maker.ensures (λ saved fits same.
    c.in_err-maker.ensures.none _ _ (after c.in_ok-from_tag.ensures.some (after c.in_ok-count.ensures.some (opened c.in_ok-pairs.ensures.some same))))

pub returns-in_err-options-clause-none : goal.returns-in_err-options-clause-none
returns-in_err-options-clause-none c = refused c.from_residual-in_err-options.ensures (λ saved fits same.
    c.in_err-options.ensures.none _ _ (after c.in_ok-maker.ensures.some (after c.in_ok-from_tag.ensures.some (after c.in_ok-count.ensures.some (opened c.in_ok-pairs.ensures.some same)))))

pub returns-in_err-sections-clause-none : goal.returns-in_err-sections-clause-none
returns-in_err-sections-clause-none c = refused c.from_residual-in_err-sections.ensures (λ saved fits same.
    c.in_err-sections.ensures.none _ _ (after c.in_ok-options.ensures.some (after c.in_ok-maker.ensures.some (after c.in_ok-from_tag.ensures.some (after c.in_ok-count.ensures.some (opened c.in_ok-pairs.ensures.some same))))))
