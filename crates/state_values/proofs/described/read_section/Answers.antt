use Rattle.state_values.proofs.KeyedTrees.{opened, after, refused}
use Rattle.state_values.proofs.described.read_section.Goals as goal

pub returns-in_err-address-clause-none : goal.returns-in_err-address-clause-none
returns-in_err-address-clause-none c = refused c.from_residual-in_err-address.ensures (λ saved fits same.
    c.in_err-address.ensures.none _ _ (opened c.in_ok-pairs.ensures.some same))

pub returns-in_err-hold-clause-none : goal.returns-in_err-hold-clause-none
returns-in_err-hold-clause-none c = refused c.from_residual-in_err-hold.ensures (λ saved fits same.
    c.in_err-hold.ensures.none _ _ (after c.in_ok-address.ensures.some (opened c.in_ok-pairs.ensures.some same)))

pub returns-in_err-line-clause-none : goal.returns-in_err-line-clause-none
returns-in_err-line-clause-none c = refused c.from_residual-in_err-line.ensures (λ saved fits same.
    c.in_err-line.ensures.none _ _ (after c.in_ok-hold.ensures.some (after c.in_ok-address.ensures.some (opened c.in_ok-pairs.ensures.some same))))

pub returns-in_err-mux-clause-none : goal.returns-in_err-mux-clause-none
returns-in_err-mux-clause-none c = refused c.from_residual-in_err-mux.ensures (λ saved fits same.
    c.in_err-mux.ensures.none _ _ (after c.in_ok-line.ensures.some (after c.in_ok-hold.ensures.some (after c.in_ok-address.ensures.some (opened c.in_ok-pairs.ensures.some same)))))

pub returns-in_err-port-clause-none : goal.returns-in_err-port-clause-none
returns-in_err-port-clause-none c = refused c.from_residual-in_err-port.ensures (λ saved fits same.
    c.in_err-port.ensures.none _ _ (after c.in_ok-mux.ensures.some (after c.in_ok-line.ensures.some (after c.in_ok-hold.ensures.some (after c.in_ok-address.ensures.some (opened c.in_ok-pairs.ensures.some same))))))

pub returns-in_err-proto-clause-none : goal.returns-in_err-proto-clause-none
returns-in_err-proto-clause-none c = refused c.from_residual-in_err-proto.ensures (λ saved fits same.
    c.in_err-proto.ensures.none _ _ (after c.in_ok-port.ensures.some (after c.in_ok-mux.ensures.some (after c.in_ok-line.ensures.some (after c.in_ok-hold.ensures.some (after c.in_ok-address.ensures.some (opened c.in_ok-pairs.ensures.some same)))))))

pub returns-in_err-rtcp_address-clause-none : goal.returns-in_err-rtcp_address-clause-none
returns-in_err-rtcp_address-clause-none c = refused c.from_residual-in_err-rtcp_address.ensures (λ saved fits same.
    c.in_err-rtcp_address.ensures.none _ _ (after c.in_ok-proto.ensures.some (after c.in_ok-port.ensures.some (after c.in_ok-mux.ensures.some (after c.in_ok-line.ensures.some (after c.in_ok-hold.ensures.some (after c.in_ok-address.ensures.some (opened c.in_ok-pairs.ensures.some same))))))))

pub returns-in_err-rtcp_port-clause-none : goal.returns-in_err-rtcp_port-clause-none
returns-in_err-rtcp_port-clause-none c = refused c.from_residual-in_err-rtcp_port.ensures (λ saved fits same.
    c.in_err-rtcp_port.ensures.none _ _ (after c.in_ok-rtcp_address.ensures.some (after c.in_ok-proto.ensures.some (after c.in_ok-port.ensures.some (after c.in_ok-mux.ensures.some (after c.in_ok-line.ensures.some (after c.in_ok-hold.ensures.some (after c.in_ok-address.ensures.some (opened c.in_ok-pairs.ensures.some same)))))))))
