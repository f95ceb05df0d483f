use Rattle.std.proofs.Common.{◌∙◌, sym}
use Rattle.state_values.specs.CellLegTrees.{packet_counts_tree}
use Rattle.state_values.proofs.KeyedTrees.{opened, after, same_value, refused}
use Rattle.state_values.proofs.RecordTrees.{whole, field}
use Rattle.state_values.proofs.cell_leg_parts.read_counts.Goals as goal

pub returns-in_err-next_field-clause-none : goal.returns-in_err-next_field-clause-none
unfolding packet_counts_tree
returns-in_err-next_field-clause-none c = refused c.from_residual-in_err-next_field.ensures (λ saved fits same.
    c.in_err-next_field.ensures.none _ _ (opened c.in_ok-pairs.ensures.some same))

pub returns-in_err-rtcp_accepted-clause-none : goal.returns-in_err-rtcp_accepted-clause-none
unfolding packet_counts_tree
returns-in_err-rtcp_accepted-clause-none c = refused c.from_residual-in_err-rtcp_accepted.ensures (λ saved fits same.
    c.in_err-rtcp_accepted.ensures.none saved.rtcp_accepted (fits.rtcp_accepted) (same_value (sym c.in_ok-next_field.ensures.some ∙ opened c.in_ok-pairs.ensures.some same)))

pub returns-in_err-next_field-2-clause-none : goal.returns-in_err-next_field-2-clause-none
unfolding packet_counts_tree
returns-in_err-next_field-2-clause-none c = refused c.from_residual-in_err-next_field-2.ensures (λ saved fits same.
    c.in_err-next_field-2.ensures.none _ _ (after c.in_ok-next_field.ensures.some (opened c.in_ok-pairs.ensures.some same)))

pub returns-in_err-rtcp_sent-clause-none : goal.returns-in_err-rtcp_sent-clause-none
unfolding packet_counts_tree
returns-in_err-rtcp_sent-clause-none c = refused c.from_residual-in_err-rtcp_sent.ensures (λ saved fits same.
    c.in_err-rtcp_sent.ensures.none saved.rtcp_sent (fits.rtcp_sent) (same_value (sym c.in_ok-next_field-2.ensures.some ∙ after c.in_ok-next_field.ensures.some (opened c.in_ok-pairs.ensures.some same))))

pub returns-in_err-next_field-3-clause-none : goal.returns-in_err-next_field-3-clause-none
unfolding packet_counts_tree
returns-in_err-next_field-3-clause-none c = refused c.from_residual-in_err-next_field-3.ensures (λ saved fits same.
    c.in_err-next_field-3.ensures.none _ _ (after c.in_ok-next_field-2.ensures.some (after c.in_ok-next_field.ensures.some (opened c.in_ok-pairs.ensures.some same))))

pub returns-in_err-rtp_accepted-clause-none : goal.returns-in_err-rtp_accepted-clause-none
unfolding packet_counts_tree
returns-in_err-rtp_accepted-clause-none c = refused c.from_residual-in_err-rtp_accepted.ensures (λ saved fits same.
    c.in_err-rtp_accepted.ensures.none saved.rtp_accepted (fits.rtp_accepted) (same_value (sym c.in_ok-next_field-3.ensures.some ∙ after c.in_ok-next_field-2.ensures.some (after c.in_ok-next_field.ensures.some (opened c.in_ok-pairs.ensures.some same)))))

pub returns-in_err-next_field-4-clause-none : goal.returns-in_err-next_field-4-clause-none
unfolding packet_counts_tree
returns-in_err-next_field-4-clause-none c = refused c.from_residual-in_err-next_field-4.ensures (λ saved fits same.
    c.in_err-next_field-4.ensures.none _ _ (after c.in_ok-next_field-3.ensures.some (after c.in_ok-next_field-2.ensures.some (after c.in_ok-next_field.ensures.some (opened c.in_ok-pairs.ensures.some same)))))

pub returns-in_err-rtp_sent-clause-none : goal.returns-in_err-rtp_sent-clause-none
unfolding packet_counts_tree
returns-in_err-rtp_sent-clause-none c = refused c.from_residual-in_err-rtp_sent.ensures (λ saved fits same.
    c.in_err-rtp_sent.ensures.none saved.rtp_sent (fits.rtp_sent) (same_value (sym c.in_ok-next_field-4.ensures.some ∙ after c.in_ok-next_field-3.ensures.some (after c.in_ok-next_field-2.ensures.some (after c.in_ok-next_field.ensures.some (opened c.in_ok-pairs.ensures.some same))))))

pub returns-in_err-none_left-clause-none : goal.returns-in_err-none_left-clause-none
unfolding packet_counts_tree
returns-in_err-none_left-clause-none c = refused c.from_residual-in_err-none_left.ensures (λ saved fits same.
    c.in_err-none_left.ensures.none (after c.in_ok-next_field-4.ensures.some (after c.in_ok-next_field-3.ensures.some (after c.in_ok-next_field-2.ensures.some (after c.in_ok-next_field.ensures.some (opened c.in_ok-pairs.ensures.some same))))))

pub returns-clause-some : goal.returns-clause-some
unfolding packet_counts_tree
returns-clause-some c = whole c.in_ok-pairs.ensures.some (field c.in_ok-next_field.ensures.some c.in_ok-rtcp_accepted.ensures.some
    (field c.in_ok-next_field-2.ensures.some c.in_ok-rtcp_sent.ensures.some
    (field c.in_ok-next_field-3.ensures.some c.in_ok-rtp_accepted.ensures.some
    (field c.in_ok-next_field-4.ensures.some c.in_ok-rtp_sent.ensures.some
    (c.in_ok-none_left.ensures.some)))))
