use Rattle.std.proofs.Common.{◌∙◌, sym}
use Rattle.state_values.specs.SignalTrees.{inbound_key_tree}
use Rattle.state_values.proofs.KeyedTrees.{opened, after, same_value, refused}
use Rattle.state_values.proofs.RecordTrees.{whole, field}
use Rattle.state_values.proofs.signals.read_key.Goals as goal

pub returns-in_err-next_field-clause-none : goal.returns-in_err-next_field-clause-none
unfolding inbound_key_tree
returns-in_err-next_field-clause-none c = refused c.from_residual-in_err-next_field.ensures (λ saved fits same.
    c.in_err-next_field.ensures.none _ _ (opened c.in_ok-pairs.ensures.some same))

pub returns-in_err-key-clause-none : goal.returns-in_err-key-clause-none
unfolding inbound_key_tree
returns-in_err-key-clause-none c = refused c.from_residual-in_err-key.ensures (λ saved fits same.
    c.in_err-key.ensures.none saved.0 (fits) (same_value (sym c.in_ok-next_field.ensures.some ∙ opened c.in_ok-pairs.ensures.some same)))

pub returns-in_err-next_field-2-clause-none : goal.returns-in_err-next_field-2-clause-none
unfolding inbound_key_tree
returns-in_err-next_field-2-clause-none c = refused c.from_residual-in_err-next_field-2.ensures (λ saved fits same.
    c.in_err-next_field-2.ensures.none _ _ (after c.in_ok-next_field.ensures.some (opened c.in_ok-pairs.ensures.some same)))

pub returns-in_err-suite-clause-none : goal.returns-in_err-suite-clause-none
unfolding inbound_key_tree
returns-in_err-suite-clause-none c = refused c.from_residual-in_err-suite.ensures (λ saved fits same.
    c.in_err-suite.ensures.none saved.1 (same_value (sym c.in_ok-next_field-2.ensures.some ∙ after c.in_ok-next_field.ensures.some (opened c.in_ok-pairs.ensures.some same))))

pub returns-in_err-none_left-clause-none : goal.returns-in_err-none_left-clause-none
unfolding inbound_key_tree
returns-in_err-none_left-clause-none c = refused c.from_residual-in_err-none_left.ensures (λ saved fits same.
    c.in_err-none_left.ensures.none (after c.in_ok-next_field-2.ensures.some (after c.in_ok-next_field.ensures.some (opened c.in_ok-pairs.ensures.some same))))

pub returns-clause-some : goal.returns-clause-some
unfolding inbound_key_tree
returns-clause-some c = whole c.in_ok-pairs.ensures.some (field c.in_ok-next_field.ensures.some c.in_ok-key.ensures.some
    (field c.in_ok-next_field-2.ensures.some c.in_ok-suite.ensures.some
    (c.in_ok-none_left.ensures.some)))
