use Rattle.state_values.proofs.KeyedTrees.{opened, after, refused}
use Rattle.state_values.proofs.caches.reply_fields.Goals as goal

pub returns-in_err-number-clause-none : goal.returns-in_err-number-clause-none
returns-in_err-number-clause-none c = refused c.from_residual-in_err-number.ensures (λ saved fits same.
    c.in_err-number.ensures.none _ _ (after c.in_ok-moment.ensures.some (after c.in_ok-cookie.ensures.some (opened c.in_ok-pairs.ensures.some same))))

pub returns-in_err-reply-clause-none : goal.returns-in_err-reply-clause-none
returns-in_err-reply-clause-none c = refused c.from_residual-in_err-reply.ensures (λ saved fits same.
    c.in_err-reply.ensures.none _ _ (after c.in_ok-number.ensures.some (after c.in_ok-moment.ensures.some (after c.in_ok-cookie.ensures.some (opened c.in_ok-pairs.ensures.some same)))))

pub returns-in_err-source-clause-none : goal.returns-in_err-source-clause-none
returns-in_err-source-clause-none c = refused c.from_residual-in_err-source.ensures (λ saved fits same.
    c.in_err-source.ensures.none _ _ (after c.in_ok-reply.ensures.some (after c.in_ok-number.ensures.some (after c.in_ok-moment.ensures.some (after c.in_ok-cookie.ensures.some (opened c.in_ok-pairs.ensures.some same))))))
