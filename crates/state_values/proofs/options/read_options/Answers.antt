use Rattle.state_values.proofs.KeyedTrees.{opened, after, refused}
use Rattle.state_values.proofs.options.read_options.Goals as goal

pub returns-in_err-family-clause-none : goal.returns-in_err-family-clause-none
returns-in_err-family-clause-none c = refused c.from_residual-in_err-family.ensures (λ saved fits same.
    c.in_err-family.ensures.none _ _ (opened c.in_ok-pairs.ensures.some same))

pub returns-in_err-flags-clause-none : goal.returns-in_err-flags-clause-none
returns-in_err-flags-clause-none c = refused c.from_residual-in_err-flags.ensures (λ saved fits same.
    c.in_err-flags.ensures.none _ _ (after c.in_ok-family.ensures.some (opened c.in_ok-pairs.ensures.some same)))

pub returns-in_err-mux_accept-clause-none : goal.returns-in_err-mux_accept-clause-none
returns-in_err-mux_accept-clause-none c = refused c.from_residual-in_err-mux_accept.ensures (λ saved fits same.
    c.in_err-mux_accept.ensures.none _ _ (after c.in_ok-flags.ensures.some (after c.in_ok-family.ensures.some (opened c.in_ok-pairs.ensures.some same))))

pub returns-in_err-mux_demux-clause-none : goal.returns-in_err-mux_demux-clause-none
returns-in_err-mux_demux-clause-none c = refused c.from_residual-in_err-mux_demux.ensures (λ saved fits same.
    c.in_err-mux_demux.ensures.none _ _ (after c.in_ok-mux_accept.ensures.some (after c.in_ok-flags.ensures.some (after c.in_ok-family.ensures.some (opened c.in_ok-pairs.ensures.some same)))))

pub returns-in_err-mux_offer-clause-none : goal.returns-in_err-mux_offer-clause-none
returns-in_err-mux_offer-clause-none c = refused c.from_residual-in_err-mux_offer.ensures (λ saved fits same.
    c.in_err-mux_offer.ensures.none _ _ (after c.in_ok-mux_demux.ensures.some (after c.in_ok-mux_accept.ensures.some (after c.in_ok-flags.ensures.some (after c.in_ok-family.ensures.some (opened c.in_ok-pairs.ensures.some same))))))

pub returns-in_err-replace_origin-clause-none : goal.returns-in_err-replace_origin-clause-none
returns-in_err-replace_origin-clause-none c = refused c.from_residual-in_err-replace_origin.ensures (λ saved fits same.
    c.in_err-replace_origin.ensures.none _ _ (after c.in_ok-mux_offer.ensures.some (after c.in_ok-mux_demux.ensures.some (after c.in_ok-mux_accept.ensures.some (after c.in_ok-flags.ensures.some (after c.in_ok-family.ensures.some (opened c.in_ok-pairs.ensures.some same)))))))

pub returns-in_err-replace_session-clause-none : goal.returns-in_err-replace_session-clause-none
returns-in_err-replace_session-clause-none c = refused c.from_residual-in_err-replace_session.ensures (λ saved fits same.
    c.in_err-replace_session.ensures.none _ _ (after c.in_ok-replace_origin.ensures.some (after c.in_ok-mux_offer.ensures.some (after c.in_ok-mux_demux.ensures.some (after c.in_ok-mux_accept.ensures.some (after c.in_ok-flags.ensures.some (after c.in_ok-family.ensures.some (opened c.in_ok-pairs.ensures.some same))))))))

pub returns-in_err-source-clause-none : goal.returns-in_err-source-clause-none
returns-in_err-source-clause-none c = refused c.from_residual-in_err-source.ensures (λ saved fits same.
    c.in_err-source.ensures.none _ _ (after c.in_ok-replace_session.ensures.some (after c.in_ok-replace_origin.ensures.some (after c.in_ok-mux_offer.ensures.some (after c.in_ok-mux_demux.ensures.some (after c.in_ok-mux_accept.ensures.some (after c.in_ok-flags.ensures.some (after c.in_ok-family.ensures.some (opened c.in_ok-pairs.ensures.some same)))))))))

pub returns-in_err-transport-clause-none : goal.returns-in_err-transport-clause-none
returns-in_err-transport-clause-none c = refused c.from_residual-in_err-transport.ensures (λ saved fits same.
    c.in_err-transport.ensures.none _ _ (after c.in_ok-source.ensures.some (after c.in_ok-replace_session.ensures.some (after c.in_ok-replace_origin.ensures.some (after c.in_ok-mux_offer.ensures.some (after c.in_ok-mux_demux.ensures.some (after c.in_ok-mux_accept.ensures.some (after c.in_ok-flags.ensures.some (after c.in_ok-family.ensures.some (opened c.in_ok-pairs.ensures.some same))))))))))
