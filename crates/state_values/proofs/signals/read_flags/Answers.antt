use Rattle.std.proofs.Common.{◌∙◌, sym}
use Rattle.state_values.specs.SignalTrees.{signal_flags_tree}
use Rattle.state_values.proofs.KeyedTrees.{opened, after, same_value, refused}
use Rattle.state_values.proofs.RecordTrees.{whole, field}
use Rattle.state_values.proofs.signals.read_flags.Goals as goal

pub returns-in_err-next_field-clause-none : goal.returns-in_err-next_field-clause-none
unfolding signal_flags_tree
returns-in_err-next_field-clause-none c = refused c.from_residual-in_err-next_field.ensures (λ saved same.
    c.in_err-next_field.ensures.none _ _ (opened c.in_ok-pairs.ensures.some same))

pub returns-in_err-asymmetric-clause-none : goal.returns-in_err-asymmetric-clause-none
unfolding signal_flags_tree
returns-in_err-asymmetric-clause-none c = refused c.from_residual-in_err-asymmetric.ensures (λ saved same.
    c.in_err-asymmetric.ensures.none saved.asymmetric (same_value (sym c.in_ok-next_field.ensures.some ∙ opened c.in_ok-pairs.ensures.some same)))

pub returns-in_err-next_field-2-clause-none : goal.returns-in_err-next_field-2-clause-none
unfolding signal_flags_tree
returns-in_err-next_field-2-clause-none c = refused c.from_residual-in_err-next_field-2.ensures (λ saved same.
    c.in_err-next_field-2.ensures.none _ _ (after c.in_ok-next_field.ensures.some (opened c.in_ok-pairs.ensures.some same)))

pub returns-in_err-handover-clause-none : goal.returns-in_err-handover-clause-none
unfolding signal_flags_tree
returns-in_err-handover-clause-none c = refused c.from_residual-in_err-handover.ensures (λ saved same.
    c.in_err-handover.ensures.none saved.handover (same_value (sym c.in_ok-next_field-2.ensures.some ∙ after c.in_ok-next_field.ensures.some (opened c.in_ok-pairs.ensures.some same))))

pub returns-in_err-next_field-3-clause-none : goal.returns-in_err-next_field-3-clause-none
unfolding signal_flags_tree
returns-in_err-next_field-3-clause-none c = refused c.from_residual-in_err-next_field-3.ensures (λ saved same.
    c.in_err-next_field-3.ensures.none _ _ (after c.in_ok-next_field-2.ensures.some (after c.in_ok-next_field.ensures.some (opened c.in_ok-pairs.ensures.some same))))

pub returns-in_err-strict-clause-none : goal.returns-in_err-strict-clause-none
unfolding signal_flags_tree
returns-in_err-strict-clause-none c = refused c.from_residual-in_err-strict.ensures (λ saved same.
    c.in_err-strict.ensures.none saved.strict (same_value (sym c.in_ok-next_field-3.ensures.some ∙ after c.in_ok-next_field-2.ensures.some (after c.in_ok-next_field.ensures.some (opened c.in_ok-pairs.ensures.some same)))))

pub returns-in_err-none_left-clause-none : goal.returns-in_err-none_left-clause-none
unfolding signal_flags_tree
returns-in_err-none_left-clause-none c = refused c.from_residual-in_err-none_left.ensures (λ saved same.
    c.in_err-none_left.ensures.none (after c.in_ok-next_field-3.ensures.some (after c.in_ok-next_field-2.ensures.some (after c.in_ok-next_field.ensures.some (opened c.in_ok-pairs.ensures.some same)))))

pub returns-clause-some : goal.returns-clause-some
unfolding signal_flags_tree
returns-clause-some c = whole c.in_ok-pairs.ensures.some (field c.in_ok-next_field.ensures.some c.in_ok-asymmetric.ensures.some
    (field c.in_ok-next_field-2.ensures.some c.in_ok-handover.ensures.some
    (field c.in_ok-next_field-3.ensures.some c.in_ok-strict.ensures.some
    (c.in_ok-none_left.ensures.some))))
