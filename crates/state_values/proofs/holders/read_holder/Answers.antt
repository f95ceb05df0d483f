use Rattle.std.proofs.Common.{◌∙◌, sym}
use Rattle.state_values.specs.SignalTrees.{holder_tree}
use Rattle.state_values.proofs.KeyedTrees.{opened, after, same_value, refused}
use Rattle.state_values.proofs.RecordTrees.{whole, field}
use Rattle.state_values.proofs.holders.read_holder.Goals as goal

pub returns-in_err-next_field-clause-none : goal.returns-in_err-next_field-clause-none
unfolding holder_tree
returns-in_err-next_field-clause-none c = refused c.from_residual-in_err-next_field.ensures (λ saved fits same.
    c.in_err-next_field.ensures.none _ _ (opened c.in_ok-pairs.ensures.some same))

pub returns-in_err-call-clause-none : goal.returns-in_err-call-clause-none
unfolding holder_tree
returns-in_err-call-clause-none c = refused c.from_residual-in_err-call.ensures (λ saved fits same.
    c.in_err-call.ensures.none saved.call (fits.call) (same_value (sym c.in_ok-next_field.ensures.some ∙ opened c.in_ok-pairs.ensures.some same)))

pub returns-in_err-next_field-2-clause-none : goal.returns-in_err-next_field-2-clause-none
unfolding holder_tree
returns-in_err-next_field-2-clause-none c = refused c.from_residual-in_err-next_field-2.ensures (λ saved fits same.
    c.in_err-next_field-2.ensures.none _ _ (after c.in_ok-next_field.ensures.some (opened c.in_ok-pairs.ensures.some same)))

pub returns-in_err-cell-clause-none : goal.returns-in_err-cell-clause-none
unfolding holder_tree
returns-in_err-cell-clause-none c = refused c.from_residual-in_err-cell.ensures (λ saved fits same.
    c.in_err-cell.ensures.none saved.cell (fits.cell) (same_value (sym c.in_ok-next_field-2.ensures.some ∙ after c.in_ok-next_field.ensures.some (opened c.in_ok-pairs.ensures.some same))))

pub returns-in_err-next_field-3-clause-none : goal.returns-in_err-next_field-3-clause-none
unfolding holder_tree
returns-in_err-next_field-3-clause-none c = refused c.from_residual-in_err-next_field-3.ensures (λ saved fits same.
    c.in_err-next_field-3.ensures.none _ _ (after c.in_ok-next_field-2.ensures.some (after c.in_ok-next_field.ensures.some (opened c.in_ok-pairs.ensures.some same))))

pub returns-in_err-generation-clause-none : goal.returns-in_err-generation-clause-none
unfolding holder_tree
returns-in_err-generation-clause-none c = refused c.from_residual-in_err-generation.ensures (λ saved fits same.
    c.in_err-generation.ensures.none saved.generation (fits.generation) (same_value (sym c.in_ok-next_field-3.ensures.some ∙ after c.in_ok-next_field-2.ensures.some (after c.in_ok-next_field.ensures.some (opened c.in_ok-pairs.ensures.some same)))))

pub returns-in_err-next_field-4-clause-none : goal.returns-in_err-next_field-4-clause-none
unfolding holder_tree
returns-in_err-next_field-4-clause-none c = refused c.from_residual-in_err-next_field-4.ensures (λ saved fits same.
    c.in_err-next_field-4.ensures.none _ _ (after c.in_ok-next_field-3.ensures.some (after c.in_ok-next_field-2.ensures.some (after c.in_ok-next_field.ensures.some (opened c.in_ok-pairs.ensures.some same)))))

pub returns-in_err-pair-clause-none : goal.returns-in_err-pair-clause-none
unfolding holder_tree
returns-in_err-pair-clause-none c = refused c.from_residual-in_err-pair.ensures (λ saved fits same.
    c.in_err-pair.ensures.none saved.pair (fits.pair) (same_value (sym c.in_ok-next_field-4.ensures.some ∙ after c.in_ok-next_field-3.ensures.some (after c.in_ok-next_field-2.ensures.some (after c.in_ok-next_field.ensures.some (opened c.in_ok-pairs.ensures.some same))))))

pub returns-in_err-next_field-5-clause-none : goal.returns-in_err-next_field-5-clause-none
unfolding holder_tree
returns-in_err-next_field-5-clause-none c = refused c.from_residual-in_err-next_field-5.ensures (λ saved fits same.
    c.in_err-next_field-5.ensures.none _ _ (after c.in_ok-next_field-4.ensures.some (after c.in_ok-next_field-3.ensures.some (after c.in_ok-next_field-2.ensures.some (after c.in_ok-next_field.ensures.some (opened c.in_ok-pairs.ensures.some same))))))

pub returns-in_err-section-clause-none : goal.returns-in_err-section-clause-none
unfolding holder_tree
returns-in_err-section-clause-none c = refused c.from_residual-in_err-section.ensures (λ saved fits same.
    c.in_err-section.ensures.none saved.section (fits.section) (same_value (sym c.in_ok-next_field-5.ensures.some ∙ after c.in_ok-next_field-4.ensures.some (after c.in_ok-next_field-3.ensures.some (after c.in_ok-next_field-2.ensures.some (after c.in_ok-next_field.ensures.some (opened c.in_ok-pairs.ensures.some same)))))))

pub returns-in_err-next_field-6-clause-none : goal.returns-in_err-next_field-6-clause-none
unfolding holder_tree
returns-in_err-next_field-6-clause-none c = refused c.from_residual-in_err-next_field-6.ensures (λ saved fits same.
    c.in_err-next_field-6.ensures.none _ _ (after c.in_ok-next_field-5.ensures.some (after c.in_ok-next_field-4.ensures.some (after c.in_ok-next_field-3.ensures.some (after c.in_ok-next_field-2.ensures.some (after c.in_ok-next_field.ensures.some (opened c.in_ok-pairs.ensures.some same)))))))

pub returns-in_err-side-clause-none : goal.returns-in_err-side-clause-none
unfolding holder_tree
returns-in_err-side-clause-none c = refused c.from_residual-in_err-side.ensures (λ saved fits same.
    c.in_err-side.ensures.none saved.side (same_value (sym c.in_ok-next_field-6.ensures.some ∙ after c.in_ok-next_field-5.ensures.some (after c.in_ok-next_field-4.ensures.some (after c.in_ok-next_field-3.ensures.some (after c.in_ok-next_field-2.ensures.some (after c.in_ok-next_field.ensures.some (opened c.in_ok-pairs.ensures.some same))))))))

pub returns-in_err-none_left-clause-none : goal.returns-in_err-none_left-clause-none
unfolding holder_tree
returns-in_err-none_left-clause-none c = refused c.from_residual-in_err-none_left.ensures (λ saved fits same.
    c.in_err-none_left.ensures.none (after c.in_ok-next_field-6.ensures.some (after c.in_ok-next_field-5.ensures.some (after c.in_ok-next_field-4.ensures.some (after c.in_ok-next_field-3.ensures.some (after c.in_ok-next_field-2.ensures.some (after c.in_ok-next_field.ensures.some (opened c.in_ok-pairs.ensures.some same))))))))

pub returns-clause-some : goal.returns-clause-some
unfolding holder_tree
returns-clause-some c = whole c.in_ok-pairs.ensures.some (field c.in_ok-next_field.ensures.some c.in_ok-call.ensures.some
    (field c.in_ok-next_field-2.ensures.some c.in_ok-cell.ensures.some
    (field c.in_ok-next_field-3.ensures.some c.in_ok-generation.ensures.some
    (field c.in_ok-next_field-4.ensures.some c.in_ok-pair.ensures.some
    (field c.in_ok-next_field-5.ensures.some c.in_ok-section.ensures.some
    (field c.in_ok-next_field-6.ensures.some c.in_ok-side.ensures.some
    (c.in_ok-none_left.ensures.some)))))))
