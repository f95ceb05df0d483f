use Rattle.std.proofs.Common.{◌∙◌, sym}
use Rattle.state_values.specs.CellLegTrees.{inbound_tree}
use Rattle.state_values.proofs.KeyedTrees.{opened, after, same_value, refused}
use Rattle.state_values.proofs.RecordTrees.{whole, field}
use Rattle.state_values.proofs.cell_contexts.read_inbound.Goals as goal

pub returns-in_err-next_field-clause-none : goal.returns-in_err-next_field-clause-none
unfolding inbound_tree
returns-in_err-next_field-clause-none c = refused c.from_residual-in_err-next_field.ensures (λ saved fits same.
    c.in_err-next_field.ensures.none _ _ (opened c.in_ok-pairs.ensures.some same))

pub returns-in_err-rtcp-clause-none : goal.returns-in_err-rtcp-clause-none
unfolding inbound_tree
returns-in_err-rtcp-clause-none c = refused c.from_residual-in_err-rtcp.ensures (λ saved fits same.
    c.in_err-rtcp.ensures.none saved.rtcp (fits.rtcp) (same_value (sym c.in_ok-next_field.ensures.some ∙ opened c.in_ok-pairs.ensures.some same)))

pub returns-in_err-next_field-2-clause-none : goal.returns-in_err-next_field-2-clause-none
unfolding inbound_tree
returns-in_err-next_field-2-clause-none c = refused c.from_residual-in_err-next_field-2.ensures (λ saved fits same.
    c.in_err-next_field-2.ensures.none _ _ (after c.in_ok-next_field.ensures.some (opened c.in_ok-pairs.ensures.some same)))

pub returns-in_err-rtp-clause-none : goal.returns-in_err-rtp-clause-none
unfolding inbound_tree
returns-in_err-rtp-clause-none c = refused c.from_residual-in_err-rtp.ensures (λ saved fits same.
    c.in_err-rtp.ensures.none saved.rtp (fits.rtp) (same_value (sym c.in_ok-next_field-2.ensures.some ∙ after c.in_ok-next_field.ensures.some (opened c.in_ok-pairs.ensures.some same))))

pub returns-in_err-none_left-clause-none : goal.returns-in_err-none_left-clause-none
unfolding inbound_tree
returns-in_err-none_left-clause-none c = refused c.from_residual-in_err-none_left.ensures (λ saved fits same.
    c.in_err-none_left.ensures.none (after c.in_ok-next_field-2.ensures.some (after c.in_ok-next_field.ensures.some (opened c.in_ok-pairs.ensures.some same))))

pub returns-clause-some : goal.returns-clause-some
unfolding inbound_tree
returns-clause-some c = whole c.in_ok-pairs.ensures.some (field c.in_ok-next_field.ensures.some c.in_ok-rtcp.ensures.some
    (field c.in_ok-next_field-2.ensures.some c.in_ok-rtp.ensures.some
    (c.in_ok-none_left.ensures.some)))
