use Rattle.control_messages.proofs.Datagrams.{value_datagram, pong_is, same_text}
use Rattle.control_messages.proofs.short.pong_datagram.Goals as goal
use Rattle.std.proofs.Common.{ap, ◌∙◌}

pub returns : goal.returns
returns c config =
    same_text c.value_datagram.result _ _ c.value_datagram.ensures
    (ap (value_datagram c.args.request.now.cookie.now c.args.request.now.body.now) c.in_ok-value.ensures ∙ pong_is config c.args.request.now.cookie.now c.args.request.now.body.now)
