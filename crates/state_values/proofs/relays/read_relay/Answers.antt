use Rattle.state_values.proofs.KeyedTrees.{opened, after, refused}
use Rattle.state_values.proofs.relays.read_relay.Goals as goal

pub returns-in_err-drawn-clause-none : goal.returns-in_err-drawn-clause-none
returns-in_err-drawn-clause-none c = refused c.from_residual-in_err-drawn.ensures (λ saved fits same.
    c.in_err-drawn.ensures.none _ _ (after c.in_ok-config.ensures.some (after c.in_ok-begun.ensures.some (opened c.in_ok-pairs.ensures.some same))))

pub returns-in_err-moment-clause-none : goal.returns-in_err-moment-clause-none
returns-in_err-moment-clause-none c = refused c.from_residual-in_err-moment.ensures (λ saved fits same.
    c.in_err-moment.ensures.none _ _ (after c.in_ok-drawn.ensures.some (after c.in_ok-config.ensures.some (after c.in_ok-begun.ensures.some (opened c.in_ok-pairs.ensures.some same)))))
