use Rattle.std.proofs.Common.{◌∙◌, sym}
use Rattle.state_values.specs.SignalTrees.{signal_tree}
use Rattle.state_values.proofs.KeyedTrees.{opened, after, same_value, refused}
use Rattle.state_values.proofs.RecordTrees.{whole, field}
use Rattle.state_values.proofs.signals.read_signal.Goals as goal

pub returns-in_err-next_field-clause-none : goal.returns-in_err-next_field-clause-none
unfolding signal_tree
returns-in_err-next_field-clause-none c = refused c.from_residual-in_err-next_field.ensures (λ saved fits same.
    c.in_err-next_field.ensures.none _ _ (opened c.in_ok-pairs.ensures.some same))

pub returns-in_err-flags-clause-none : goal.returns-in_err-flags-clause-none
unfolding signal_tree
returns-in_err-flags-clause-none c = refused c.from_residual-in_err-flags.ensures (λ saved fits same.
    c.in_err-flags.ensures.none saved.flags (same_value (sym c.in_ok-next_field.ensures.some ∙ opened c.in_ok-pairs.ensures.some same)))

pub returns-in_err-next_field-2-clause-none : goal.returns-in_err-next_field-2-clause-none
unfolding signal_tree
returns-in_err-next_field-2-clause-none c = refused c.from_residual-in_err-next_field-2.ensures (λ saved fits same.
    c.in_err-next_field-2.ensures.none _ _ (after c.in_ok-next_field.ensures.some (opened c.in_ok-pairs.ensures.some same)))

pub returns-in_err-hold-clause-none : goal.returns-in_err-hold-clause-none
unfolding signal_tree
returns-in_err-hold-clause-none c = refused c.from_residual-in_err-hold.ensures (λ saved fits same.
    c.in_err-hold.ensures.none saved.hold (same_value (sym c.in_ok-next_field-2.ensures.some ∙ after c.in_ok-next_field.ensures.some (opened c.in_ok-pairs.ensures.some same))))

pub returns-in_err-next_field-3-clause-none : goal.returns-in_err-next_field-3-clause-none
unfolding signal_tree
returns-in_err-next_field-3-clause-none c = refused c.from_residual-in_err-next_field-3.ensures (λ saved fits same.
    c.in_err-next_field-3.ensures.none _ _ (after c.in_ok-next_field-2.ensures.some (after c.in_ok-next_field.ensures.some (opened c.in_ok-pairs.ensures.some same))))

pub returns-in_err-inbound-clause-none : goal.returns-in_err-inbound-clause-none
unfolding signal_tree
returns-in_err-inbound-clause-none c = refused c.from_residual-in_err-inbound.ensures (λ saved fits same.
    c.in_err-inbound.ensures.none saved.inbound (fits.inbound) (same_value (sym c.in_ok-next_field-3.ensures.some ∙ after c.in_ok-next_field-2.ensures.some (after c.in_ok-next_field.ensures.some (opened c.in_ok-pairs.ensures.some same)))))

pub returns-in_err-next_field-4-clause-none : goal.returns-in_err-next_field-4-clause-none
unfolding signal_tree
returns-in_err-next_field-4-clause-none c = refused c.from_residual-in_err-next_field-4.ensures (λ saved fits same.
    c.in_err-next_field-4.ensures.none _ _ (after c.in_ok-next_field-3.ensures.some (after c.in_ok-next_field-2.ensures.some (after c.in_ok-next_field.ensures.some (opened c.in_ok-pairs.ensures.some same)))))

pub returns-in_err-mux-clause-none : goal.returns-in_err-mux-clause-none
unfolding signal_tree
returns-in_err-mux-clause-none c = refused c.from_residual-in_err-mux.ensures (λ saved fits same.
    c.in_err-mux.ensures.none saved.mux (same_value (sym c.in_ok-next_field-4.ensures.some ∙ after c.in_ok-next_field-3.ensures.some (after c.in_ok-next_field-2.ensures.some (after c.in_ok-next_field.ensures.some (opened c.in_ok-pairs.ensures.some same))))))

pub returns-in_err-next_field-5-clause-none : goal.returns-in_err-next_field-5-clause-none
unfolding signal_tree
returns-in_err-next_field-5-clause-none c = refused c.from_residual-in_err-next_field-5.ensures (λ saved fits same.
    c.in_err-next_field-5.ensures.none _ _ (after c.in_ok-next_field-4.ensures.some (after c.in_ok-next_field-3.ensures.some (after c.in_ok-next_field-2.ensures.some (after c.in_ok-next_field.ensures.some (opened c.in_ok-pairs.ensures.some same))))))

pub returns-in_err-outbound-clause-none : goal.returns-in_err-outbound-clause-none
unfolding signal_tree
returns-in_err-outbound-clause-none c = refused c.from_residual-in_err-outbound.ensures (λ saved fits same.
    c.in_err-outbound.ensures.none saved.outbound (fits.outbound) (same_value (sym c.in_ok-next_field-5.ensures.some ∙ after c.in_ok-next_field-4.ensures.some (after c.in_ok-next_field-3.ensures.some (after c.in_ok-next_field-2.ensures.some (after c.in_ok-next_field.ensures.some (opened c.in_ok-pairs.ensures.some same)))))))

pub returns-in_err-next_field-6-clause-none : goal.returns-in_err-next_field-6-clause-none
unfolding signal_tree
returns-in_err-next_field-6-clause-none c = refused c.from_residual-in_err-next_field-6.ensures (λ saved fits same.
    c.in_err-next_field-6.ensures.none _ _ (after c.in_ok-next_field-5.ensures.some (after c.in_ok-next_field-4.ensures.some (after c.in_ok-next_field-3.ensures.some (after c.in_ok-next_field-2.ensures.some (after c.in_ok-next_field.ensures.some (opened c.in_ok-pairs.ensures.some same)))))))

pub returns-in_err-rtcp-clause-none : goal.returns-in_err-rtcp-clause-none
unfolding signal_tree
returns-in_err-rtcp-clause-none c = refused c.from_residual-in_err-rtcp.ensures (λ saved fits same.
    c.in_err-rtcp.ensures.none saved.rtcp (fits.rtcp) (same_value (sym c.in_ok-next_field-6.ensures.some ∙ after c.in_ok-next_field-5.ensures.some (after c.in_ok-next_field-4.ensures.some (after c.in_ok-next_field-3.ensures.some (after c.in_ok-next_field-2.ensures.some (after c.in_ok-next_field.ensures.some (opened c.in_ok-pairs.ensures.some same))))))))

pub returns-in_err-next_field-7-clause-none : goal.returns-in_err-next_field-7-clause-none
unfolding signal_tree
returns-in_err-next_field-7-clause-none c = refused c.from_residual-in_err-next_field-7.ensures (λ saved fits same.
    c.in_err-next_field-7.ensures.none _ _ (after c.in_ok-next_field-6.ensures.some (after c.in_ok-next_field-5.ensures.some (after c.in_ok-next_field-4.ensures.some (after c.in_ok-next_field-3.ensures.some (after c.in_ok-next_field-2.ensures.some (after c.in_ok-next_field.ensures.some (opened c.in_ok-pairs.ensures.some same))))))))

pub returns-in_err-rtp-clause-none : goal.returns-in_err-rtp-clause-none
unfolding signal_tree
returns-in_err-rtp-clause-none c = refused c.from_residual-in_err-rtp.ensures (λ saved fits same.
    c.in_err-rtp.ensures.none saved.rtp (fits.rtp) (same_value (sym c.in_ok-next_field-7.ensures.some ∙ after c.in_ok-next_field-6.ensures.some (after c.in_ok-next_field-5.ensures.some (after c.in_ok-next_field-4.ensures.some (after c.in_ok-next_field-3.ensures.some (after c.in_ok-next_field-2.ensures.some (after c.in_ok-next_field.ensures.some (opened c.in_ok-pairs.ensures.some same)))))))))

pub returns-in_err-none_left-clause-none : goal.returns-in_err-none_left-clause-none
unfolding signal_tree
returns-in_err-none_left-clause-none c = refused c.from_residual-in_err-none_left.ensures (λ saved fits same.
    c.in_err-none_left.ensures.none (after c.in_ok-next_field-7.ensures.some (after c.in_ok-next_field-6.ensures.some (after c.in_ok-next_field-5.ensures.some (after c.in_ok-next_field-4.ensures.some (after c.in_ok-next_field-3.ensures.some (after c.in_ok-next_field-2.ensures.some (after c.in_ok-next_field.ensures.some (opened c.in_ok-pairs.ensures.some same)))))))))

pub returns-clause-some : goal.returns-clause-some
unfolding signal_tree
returns-clause-some c = whole c.in_ok-pairs.ensures.some (field c.in_ok-next_field.ensures.some c.in_ok-flags.ensures.some
    (field c.in_ok-next_field-2.ensures.some c.in_ok-hold.ensures.some
    (field c.in_ok-next_field-3.ensures.some c.in_ok-inbound.ensures.some
    (field c.in_ok-next_field-4.ensures.some c.in_ok-mux.ensures.some
    (field c.in_ok-next_field-5.ensures.some c.in_ok-outbound.ensures.some
    (field c.in_ok-next_field-6.ensures.some c.in_ok-rtcp.ensures.some
    (field c.in_ok-next_field-7.ensures.some c.in_ok-rtp.ensures.some
    (c.in_ok-none_left.ensures.some))))))))
