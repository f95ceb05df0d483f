use Rattle.std.proofs.Common.{◌∙◌, sym, refl}
use Rattle.state_values.specs.CellTrees.{cell_tree}
use Rattle.state_values.proofs.KeyedTrees.{opened, after, same_value, refused}
use Rattle.state_values.proofs.RecordTrees.{whole, field}
use Rattle.state_values.proofs.cells.cell_fields.Goals as goal

pub returns-in_err-next_field-clause-none : goal.returns-in_err-next_field-clause-none
unfolding cell_tree
returns-in_err-next_field-clause-none c = refused c.from_residual-in_err-next_field.ensures (λ saved fits same.
    c.in_err-next_field.ensures.none _ _ (opened c.in_ok-pairs.ensures.some same))

pub returns-in_err-active-clause-none : goal.returns-in_err-active-clause-none
unfolding cell_tree
returns-in_err-active-clause-none c = refused c.from_residual-in_err-active.ensures (λ saved fits same.
    c.in_err-active.ensures.none saved.active (fits.active) (same_value (sym c.in_ok-next_field.ensures.some ∙ opened c.in_ok-pairs.ensures.some same)))

pub returns-in_err-next_field-2-clause-none : goal.returns-in_err-next_field-2-clause-none
unfolding cell_tree
returns-in_err-next_field-2-clause-none c = refused c.from_residual-in_err-next_field-2.ensures (λ saved fits same.
    c.in_err-next_field-2.ensures.none _ _ (after c.in_ok-next_field.ensures.some (opened c.in_ok-pairs.ensures.some same)))

pub returns-in_err-began-clause-none : goal.returns-in_err-began-clause-none
unfolding cell_tree
returns-in_err-began-clause-none c = refused c.from_residual-in_err-began.ensures (λ saved fits same.
    c.in_err-began.ensures.none saved.began (fits.began) (same_value (sym c.in_ok-next_field-2.ensures.some ∙ after c.in_ok-next_field.ensures.some (opened c.in_ok-pairs.ensures.some same))))

pub returns-in_err-next_field-3-clause-none : goal.returns-in_err-next_field-3-clause-none
unfolding cell_tree
returns-in_err-next_field-3-clause-none c = refused c.from_residual-in_err-next_field-3.ensures (λ saved fits same.
    c.in_err-next_field-3.ensures.none _ _ (after c.in_ok-next_field-2.ensures.some (after c.in_ok-next_field.ensures.some (opened c.in_ok-pairs.ensures.some same))))

pub returns-in_err-call-clause-none : goal.returns-in_err-call-clause-none
unfolding cell_tree
returns-in_err-call-clause-none c = refused c.from_residual-in_err-call.ensures (λ saved fits same.
    c.in_err-call.ensures.none saved.call (fits.call) (same_value (sym c.in_ok-next_field-3.ensures.some ∙ after c.in_ok-next_field-2.ensures.some (after c.in_ok-next_field.ensures.some (opened c.in_ok-pairs.ensures.some same)))))

pub returns-in_err-next_field-4-clause-none : goal.returns-in_err-next_field-4-clause-none
unfolding cell_tree
returns-in_err-next_field-4-clause-none c = refused c.from_residual-in_err-next_field-4.ensures (λ saved fits same.
    c.in_err-next_field-4.ensures.none _ _ (after c.in_ok-next_field-3.ensures.some (after c.in_ok-next_field-2.ensures.some (after c.in_ok-next_field.ensures.some (opened c.in_ok-pairs.ensures.some same)))))

pub returns-in_err-config-clause-none : goal.returns-in_err-config-clause-none
unfolding cell_tree
returns-in_err-config-clause-none c = refused c.from_residual-in_err-config.ensures (λ saved fits same.
    c.in_err-config.ensures.none saved.config (fits.config) (same_value (sym c.in_ok-next_field-4.ensures.some ∙ after c.in_ok-next_field-3.ensures.some (after c.in_ok-next_field-2.ensures.some (after c.in_ok-next_field.ensures.some (opened c.in_ok-pairs.ensures.some same))))))

pub returns-in_err-next_field-5-clause-none : goal.returns-in_err-next_field-5-clause-none
unfolding cell_tree
returns-in_err-next_field-5-clause-none c = refused c.from_residual-in_err-next_field-5.ensures (λ saved fits same.
    c.in_err-next_field-5.ensures.none _ _ (after c.in_ok-next_field-4.ensures.some (after c.in_ok-next_field-3.ensures.some (after c.in_ok-next_field-2.ensures.some (after c.in_ok-next_field.ensures.some (opened c.in_ok-pairs.ensures.some same))))))

pub returns-in_err-is_committed-clause-none : goal.returns-in_err-is_committed-clause-none
unfolding cell_tree
returns-in_err-is_committed-clause-none c = refused c.from_residual-in_err-is_committed.ensures (λ saved fits same.
    c.in_err-is_committed.ensures.none saved.is_committed (same_value (sym c.in_ok-next_field-5.ensures.some ∙ after c.in_ok-next_field-4.ensures.some (after c.in_ok-next_field-3.ensures.some (after c.in_ok-next_field-2.ensures.some (after c.in_ok-next_field.ensures.some (opened c.in_ok-pairs.ensures.some same)))))))

pub returns-in_err-legs-clause-none : goal.returns-in_err-legs-clause-none
unfolding cell_tree
returns-in_err-legs-clause-none c = refused c.from_residual-in_err-legs.ensures (λ saved fits same.
    c.in_err-legs.ensures.none _ _ (after c.in_ok-next_field-5.ensures.some (after c.in_ok-next_field-4.ensures.some (after c.in_ok-next_field-3.ensures.some (after c.in_ok-next_field-2.ensures.some (after c.in_ok-next_field.ensures.some (opened c.in_ok-pairs.ensures.some same)))))))

pub returns-in_err-next_field-6-clause-none : goal.returns-in_err-next_field-6-clause-none
unfolding cell_tree
returns-in_err-next_field-6-clause-none c = refused c.from_residual-in_err-next_field-6.ensures (λ saved fits same.
    c.in_err-next_field-6.ensures.none _ _ (after c.in_ok-legs.ensures.some (after c.in_ok-next_field-5.ensures.some (after c.in_ok-next_field-4.ensures.some (after c.in_ok-next_field-3.ensures.some (after c.in_ok-next_field-2.ensures.some (after c.in_ok-next_field.ensures.some (opened c.in_ok-pairs.ensures.some same))))))))

pub returns-in_err-moment-clause-none : goal.returns-in_err-moment-clause-none
unfolding cell_tree
returns-in_err-moment-clause-none c = refused c.from_residual-in_err-moment.ensures (λ saved fits same.
    c.in_err-moment.ensures.none saved.moment (fits.moment) (same_value (sym c.in_ok-next_field-6.ensures.some ∙ after c.in_ok-legs.ensures.some (after c.in_ok-next_field-5.ensures.some (after c.in_ok-next_field-4.ensures.some (after c.in_ok-next_field-3.ensures.some (after c.in_ok-next_field-2.ensures.some (after c.in_ok-next_field.ensures.some (opened c.in_ok-pairs.ensures.some same)))))))))

pub returns-in_err-none_left-clause-none : goal.returns-in_err-none_left-clause-none
unfolding cell_tree
returns-in_err-none_left-clause-none c = refused c.from_residual-in_err-none_left.ensures (λ saved fits same.
    c.in_err-none_left.ensures.none (after c.in_ok-next_field-6.ensures.some (after c.in_ok-legs.ensures.some (after c.in_ok-next_field-5.ensures.some (after c.in_ok-next_field-4.ensures.some (after c.in_ok-next_field-3.ensures.some (after c.in_ok-next_field-2.ensures.some (after c.in_ok-next_field.ensures.some (opened c.in_ok-pairs.ensures.some same)))))))))

pub returns-clause-some : goal.returns-clause-some
unfolding cell_tree
returns-clause-some c = whole c.in_ok-pairs.ensures.some (field c.in_ok-next_field.ensures.some c.in_ok-active.ensures.some
    (field c.in_ok-next_field-2.ensures.some c.in_ok-began.ensures.some
    (field c.in_ok-next_field-3.ensures.some c.in_ok-call.ensures.some
    (field c.in_ok-next_field-4.ensures.some c.in_ok-config.ensures.some
    (field c.in_ok-next_field-5.ensures.some c.in_ok-is_committed.ensures.some
    (field c.in_ok-legs.ensures.some refl
    (field c.in_ok-next_field-6.ensures.some c.in_ok-moment.ensures.some
    (c.in_ok-none_left.ensures.some))))))))
