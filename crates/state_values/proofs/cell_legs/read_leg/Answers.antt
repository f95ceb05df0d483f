use Rattle.std.proofs.Common.{◌∙◌, sym}
use Rattle.state_values.specs.CellTrees.{cell_leg_tree}
use Rattle.state_values.proofs.KeyedTrees.{opened, after, same_value, refused}
use Rattle.state_values.proofs.RecordTrees.{whole, field}
use Rattle.state_values.proofs.cell_legs.read_leg.Goals as goal

pub returns-in_err-next_field-clause-none : goal.returns-in_err-next_field-clause-none
unfolding cell_leg_tree
returns-in_err-next_field-clause-none c = refused c.from_residual-in_err-next_field.ensures (λ saved fits same.
    c.in_err-next_field.ensures.none _ _ (opened c.in_ok-pairs.ensures.some same))

pub returns-in_err-counts-clause-none : goal.returns-in_err-counts-clause-none
unfolding cell_leg_tree
returns-in_err-counts-clause-none c = refused c.from_residual-in_err-counts.ensures (λ saved fits same.
    c.in_err-counts.ensures.none saved.counts (fits.counts) (same_value (sym c.in_ok-next_field.ensures.some ∙ opened c.in_ok-pairs.ensures.some same)))

pub returns-in_err-next_field-2-clause-none : goal.returns-in_err-next_field-2-clause-none
unfolding cell_leg_tree
returns-in_err-next_field-2-clause-none c = refused c.from_residual-in_err-next_field-2.ensures (λ saved fits same.
    c.in_err-next_field-2.ensures.none _ _ (after c.in_ok-next_field.ensures.some (opened c.in_ok-pairs.ensures.some same)))

pub returns-in_err-holder-clause-none : goal.returns-in_err-holder-clause-none
unfolding cell_leg_tree
returns-in_err-holder-clause-none c = refused c.from_residual-in_err-holder.ensures (λ saved fits same.
    c.in_err-holder.ensures.none saved.holder (fits.holder) (same_value (sym c.in_ok-next_field-2.ensures.some ∙ after c.in_ok-next_field.ensures.some (opened c.in_ok-pairs.ensures.some same))))

pub returns-in_err-next_field-3-clause-none : goal.returns-in_err-next_field-3-clause-none
unfolding cell_leg_tree
returns-in_err-next_field-3-clause-none c = refused c.from_residual-in_err-next_field-3.ensures (λ saved fits same.
    c.in_err-next_field-3.ensures.none _ _ (after c.in_ok-next_field-2.ensures.some (after c.in_ok-next_field.ensures.some (opened c.in_ok-pairs.ensures.some same))))

pub returns-in_err-inbound-clause-none : goal.returns-in_err-inbound-clause-none
unfolding cell_leg_tree
returns-in_err-inbound-clause-none c = refused c.from_residual-in_err-inbound.ensures (λ saved fits same.
    c.in_err-inbound.ensures.none saved.inbound (fits.inbound) (same_value (sym c.in_ok-next_field-3.ensures.some ∙ after c.in_ok-next_field-2.ensures.some (after c.in_ok-next_field.ensures.some (opened c.in_ok-pairs.ensures.some same)))))

pub returns-in_err-next_field-4-clause-none : goal.returns-in_err-next_field-4-clause-none
unfolding cell_leg_tree
returns-in_err-next_field-4-clause-none c = refused c.from_residual-in_err-next_field-4.ensures (λ saved fits same.
    c.in_err-next_field-4.ensures.none _ _ (after c.in_ok-next_field-3.ensures.some (after c.in_ok-next_field-2.ensures.some (after c.in_ok-next_field.ensures.some (opened c.in_ok-pairs.ensures.some same)))))

pub returns-in_err-lease-clause-none : goal.returns-in_err-lease-clause-none
unfolding cell_leg_tree
returns-in_err-lease-clause-none c = refused c.from_residual-in_err-lease.ensures (λ saved fits same.
    c.in_err-lease.ensures.none saved.lease (fits.lease) (same_value (sym c.in_ok-next_field-4.ensures.some ∙ after c.in_ok-next_field-3.ensures.some (after c.in_ok-next_field-2.ensures.some (after c.in_ok-next_field.ensures.some (opened c.in_ok-pairs.ensures.some same))))))

pub returns-in_err-next_field-5-clause-none : goal.returns-in_err-next_field-5-clause-none
unfolding cell_leg_tree
returns-in_err-next_field-5-clause-none c = refused c.from_residual-in_err-next_field-5.ensures (λ saved fits same.
    c.in_err-next_field-5.ensures.none _ _ (after c.in_ok-next_field-4.ensures.some (after c.in_ok-next_field-3.ensures.some (after c.in_ok-next_field-2.ensures.some (after c.in_ok-next_field.ensures.some (opened c.in_ok-pairs.ensures.some same))))))

pub returns-in_err-report-clause-none : goal.returns-in_err-report-clause-none
unfolding cell_leg_tree
returns-in_err-report-clause-none c = refused c.from_residual-in_err-report.ensures (λ saved fits same.
    c.in_err-report.ensures.none saved.report (fits.report) (same_value (sym c.in_ok-next_field-5.ensures.some ∙ after c.in_ok-next_field-4.ensures.some (after c.in_ok-next_field-3.ensures.some (after c.in_ok-next_field-2.ensures.some (after c.in_ok-next_field.ensures.some (opened c.in_ok-pairs.ensures.some same)))))))

pub returns-in_err-next_field-6-clause-none : goal.returns-in_err-next_field-6-clause-none
unfolding cell_leg_tree
returns-in_err-next_field-6-clause-none c = refused c.from_residual-in_err-next_field-6.ensures (λ saved fits same.
    c.in_err-next_field-6.ensures.none _ _ (after c.in_ok-next_field-5.ensures.some (after c.in_ok-next_field-4.ensures.some (after c.in_ok-next_field-3.ensures.some (after c.in_ok-next_field-2.ensures.some (after c.in_ok-next_field.ensures.some (opened c.in_ok-pairs.ensures.some same)))))))

pub returns-in_err-rtcp-clause-none : goal.returns-in_err-rtcp-clause-none
unfolding cell_leg_tree
returns-in_err-rtcp-clause-none c = refused c.from_residual-in_err-rtcp.ensures (λ saved fits same.
    c.in_err-rtcp.ensures.none saved.rtcp (fits.rtcp) (same_value (sym c.in_ok-next_field-6.ensures.some ∙ after c.in_ok-next_field-5.ensures.some (after c.in_ok-next_field-4.ensures.some (after c.in_ok-next_field-3.ensures.some (after c.in_ok-next_field-2.ensures.some (after c.in_ok-next_field.ensures.some (opened c.in_ok-pairs.ensures.some same))))))))

pub returns-in_err-next_field-7-clause-none : goal.returns-in_err-next_field-7-clause-none
unfolding cell_leg_tree
returns-in_err-next_field-7-clause-none c = refused c.from_residual-in_err-next_field-7.ensures (λ saved fits same.
    c.in_err-next_field-7.ensures.none _ _ (after c.in_ok-next_field-6.ensures.some (after c.in_ok-next_field-5.ensures.some (after c.in_ok-next_field-4.ensures.some (after c.in_ok-next_field-3.ensures.some (after c.in_ok-next_field-2.ensures.some (after c.in_ok-next_field.ensures.some (opened c.in_ok-pairs.ensures.some same))))))))

pub returns-in_err-rtp-clause-none : goal.returns-in_err-rtp-clause-none
unfolding cell_leg_tree
returns-in_err-rtp-clause-none c = refused c.from_residual-in_err-rtp.ensures (λ saved fits same.
    c.in_err-rtp.ensures.none saved.rtp (fits.rtp) (same_value (sym c.in_ok-next_field-7.ensures.some ∙ after c.in_ok-next_field-6.ensures.some (after c.in_ok-next_field-5.ensures.some (after c.in_ok-next_field-4.ensures.some (after c.in_ok-next_field-3.ensures.some (after c.in_ok-next_field-2.ensures.some (after c.in_ok-next_field.ensures.some (opened c.in_ok-pairs.ensures.some same)))))))))

pub returns-in_err-next_field-8-clause-none : goal.returns-in_err-next_field-8-clause-none
unfolding cell_leg_tree
returns-in_err-next_field-8-clause-none c = refused c.from_residual-in_err-next_field-8.ensures (λ saved fits same.
    c.in_err-next_field-8.ensures.none _ _ (after c.in_ok-next_field-7.ensures.some (after c.in_ok-next_field-6.ensures.some (after c.in_ok-next_field-5.ensures.some (after c.in_ok-next_field-4.ensures.some (after c.in_ok-next_field-3.ensures.some (after c.in_ok-next_field-2.ensures.some (after c.in_ok-next_field.ensures.some (opened c.in_ok-pairs.ensures.some same)))))))))

pub returns-in_err-signal-clause-none : goal.returns-in_err-signal-clause-none
unfolding cell_leg_tree
returns-in_err-signal-clause-none c = refused c.from_residual-in_err-signal.ensures (λ saved fits same.
    c.in_err-signal.ensures.none saved.signal (fits.signal) (same_value (sym c.in_ok-next_field-8.ensures.some ∙ after c.in_ok-next_field-7.ensures.some (after c.in_ok-next_field-6.ensures.some (after c.in_ok-next_field-5.ensures.some (after c.in_ok-next_field-4.ensures.some (after c.in_ok-next_field-3.ensures.some (after c.in_ok-next_field-2.ensures.some (after c.in_ok-next_field.ensures.some (opened c.in_ok-pairs.ensures.some same))))))))))

pub returns-in_err-next_field-9-clause-none : goal.returns-in_err-next_field-9-clause-none
unfolding cell_leg_tree
returns-in_err-next_field-9-clause-none c = refused c.from_residual-in_err-next_field-9.ensures (λ saved fits same.
    c.in_err-next_field-9.ensures.none _ _ (after c.in_ok-next_field-8.ensures.some (after c.in_ok-next_field-7.ensures.some (after c.in_ok-next_field-6.ensures.some (after c.in_ok-next_field-5.ensures.some (after c.in_ok-next_field-4.ensures.some (after c.in_ok-next_field-3.ensures.some (after c.in_ok-next_field-2.ensures.some (after c.in_ok-next_field.ensures.some (opened c.in_ok-pairs.ensures.some same))))))))))

pub returns-in_err-tag32-clause-none : goal.returns-in_err-tag32-clause-none
unfolding cell_leg_tree
returns-in_err-tag32-clause-none c = refused c.from_residual-in_err-tag32.ensures (λ saved fits same.
    c.in_err-tag32.ensures.none saved.tag32 (fits.tag32) (same_value (sym c.in_ok-next_field-9.ensures.some ∙ after c.in_ok-next_field-8.ensures.some (after c.in_ok-next_field-7.ensures.some (after c.in_ok-next_field-6.ensures.some (after c.in_ok-next_field-5.ensures.some (after c.in_ok-next_field-4.ensures.some (after c.in_ok-next_field-3.ensures.some (after c.in_ok-next_field-2.ensures.some (after c.in_ok-next_field.ensures.some (opened c.in_ok-pairs.ensures.some same)))))))))))

pub returns-in_err-next_field-10-clause-none : goal.returns-in_err-next_field-10-clause-none
unfolding cell_leg_tree
returns-in_err-next_field-10-clause-none c = refused c.from_residual-in_err-next_field-10.ensures (λ saved fits same.
    c.in_err-next_field-10.ensures.none _ _ (after c.in_ok-next_field-9.ensures.some (after c.in_ok-next_field-8.ensures.some (after c.in_ok-next_field-7.ensures.some (after c.in_ok-next_field-6.ensures.some (after c.in_ok-next_field-5.ensures.some (after c.in_ok-next_field-4.ensures.some (after c.in_ok-next_field-3.ensures.some (after c.in_ok-next_field-2.ensures.some (after c.in_ok-next_field.ensures.some (opened c.in_ok-pairs.ensures.some same)))))))))))

pub returns-in_err-tag80-clause-none : goal.returns-in_err-tag80-clause-none
unfolding cell_leg_tree
returns-in_err-tag80-clause-none c = refused c.from_residual-in_err-tag80.ensures (λ saved fits same.
    c.in_err-tag80.ensures.none saved.tag80 (fits.tag80) (same_value (sym c.in_ok-next_field-10.ensures.some ∙ after c.in_ok-next_field-9.ensures.some (after c.in_ok-next_field-8.ensures.some (after c.in_ok-next_field-7.ensures.some (after c.in_ok-next_field-6.ensures.some (after c.in_ok-next_field-5.ensures.some (after c.in_ok-next_field-4.ensures.some (after c.in_ok-next_field-3.ensures.some (after c.in_ok-next_field-2.ensures.some (after c.in_ok-next_field.ensures.some (opened c.in_ok-pairs.ensures.some same))))))))))))

pub returns-in_err-none_left-clause-none : goal.returns-in_err-none_left-clause-none
unfolding cell_leg_tree
returns-in_err-none_left-clause-none c = refused c.from_residual-in_err-none_left.ensures (λ saved fits same.
    c.in_err-none_left.ensures.none (after c.in_ok-next_field-10.ensures.some (after c.in_ok-next_field-9.ensures.some (after c.in_ok-next_field-8.ensures.some (after c.in_ok-next_field-7.ensures.some (after c.in_ok-next_field-6.ensures.some (after c.in_ok-next_field-5.ensures.some (after c.in_ok-next_field-4.ensures.some (after c.in_ok-next_field-3.ensures.some (after c.in_ok-next_field-2.ensures.some (after c.in_ok-next_field.ensures.some (opened c.in_ok-pairs.ensures.some same))))))))))))

pub returns-clause-some : goal.returns-clause-some
unfolding cell_leg_tree
returns-clause-some c = whole c.in_ok-pairs.ensures.some (field c.in_ok-next_field.ensures.some c.in_ok-counts.ensures.some
    (field c.in_ok-next_field-2.ensures.some c.in_ok-holder.ensures.some
    (field c.in_ok-next_field-3.ensures.some c.in_ok-inbound.ensures.some
    (field c.in_ok-next_field-4.ensures.some c.in_ok-lease.ensures.some
    (field c.in_ok-next_field-5.ensures.some c.in_ok-report.ensures.some
    (field c.in_ok-next_field-6.ensures.some c.in_ok-rtcp.ensures.some
    (field c.in_ok-next_field-7.ensures.some c.in_ok-rtp.ensures.some
    (field c.in_ok-next_field-8.ensures.some c.in_ok-signal.ensures.some
    (field c.in_ok-next_field-9.ensures.some c.in_ok-tag32.ensures.some
    (field c.in_ok-next_field-10.ensures.some c.in_ok-tag80.ensures.some
    (c.in_ok-none_left.ensures.some)))))))))))
