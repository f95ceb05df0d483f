use Rattle.state_values.proofs.KeyedTrees.{opened, after, refused}
use Rattle.state_values.proofs.configs.read_config.Goals as goal

pub returns-in_err-interface-clause-none : goal.returns-in_err-interface-clause-none
returns-in_err-interface-clause-none c = refused c.from_residual-in_err-interface.ensures (λ config fits same.
    c.in_err-interface.ensures.none _ _ (opened c.in_ok-pairs.ensures.some same))

pub returns-in_err-interface6-clause-none : goal.returns-in_err-interface6-clause-none
returns-in_err-interface6-clause-none c = refused c.from_residual-in_err-interface6.ensures (λ config fits same.
    c.in_err-interface6.ensures.none _ _ (after c.in_ok-interface.ensures.some (opened c.in_ok-pairs.ensures.some same)))

pub returns-in_err-max_sessions-clause-none : goal.returns-in_err-max_sessions-clause-none
returns-in_err-max_sessions-clause-none c = refused c.from_residual-in_err-max_sessions.ensures (λ config fits same.
    c.in_err-max_sessions.ensures.none _ _ (after c.in_ok-interface6.ensures.some (after c.in_ok-interface.ensures.some (opened c.in_ok-pairs.ensures.some same))))

pub returns-in_err-offer_timeout-clause-none : goal.returns-in_err-offer_timeout-clause-none
returns-in_err-offer_timeout-clause-none c = refused c.from_residual-in_err-offer_timeout.ensures (λ config fits same.
    c.in_err-offer_timeout.ensures.none _ _ (after c.in_ok-max_sessions.ensures.some (after c.in_ok-interface6.ensures.some (after c.in_ok-interface.ensures.some (opened c.in_ok-pairs.ensures.some same)))))

pub returns-in_err-port_max-clause-none : goal.returns-in_err-port_max-clause-none
returns-in_err-port_max-clause-none c = refused c.from_residual-in_err-port_max.ensures (λ config fits same.
    c.in_err-port_max.ensures.none _ _ (after c.in_ok-offer_timeout.ensures.some (after c.in_ok-max_sessions.ensures.some (after c.in_ok-interface6.ensures.some (after c.in_ok-interface.ensures.some (opened c.in_ok-pairs.ensures.some same))))))

pub returns-in_err-port_min-clause-none : goal.returns-in_err-port_min-clause-none
returns-in_err-port_min-clause-none c = refused c.from_residual-in_err-port_min.ensures (λ config fits same.
    c.in_err-port_min.ensures.none _ _ (after c.in_ok-port_max.ensures.some (after c.in_ok-offer_timeout.ensures.some (after c.in_ok-max_sessions.ensures.some (after c.in_ok-interface6.ensures.some (after c.in_ok-interface.ensures.some (opened c.in_ok-pairs.ensures.some same)))))))

pub returns-in_err-timeout-clause-none : goal.returns-in_err-timeout-clause-none
returns-in_err-timeout-clause-none c = refused c.from_residual-in_err-timeout.ensures (λ config fits same.
    c.in_err-timeout.ensures.none _ _ (after c.in_ok-port_min.ensures.some (after c.in_ok-port_max.ensures.some (after c.in_ok-offer_timeout.ensures.some (after c.in_ok-max_sessions.ensures.some (after c.in_ok-interface6.ensures.some (after c.in_ok-interface.ensures.some (opened c.in_ok-pairs.ensures.some same))))))))
