use Rattle.control_messages.proofs.Datagrams.{fault_is}
use Rattle.control_messages.proofs.short.error_datagram.Goals as goal
use Rattle.std.proofs.Common.{◌∙◌}

pub returns : goal.returns
returns c config = c.in-Ok.ensures ∙ (c.error_into-len.ensures.datagram ∙ fault_is config c.args.request.now.cookie.now c.args.request.now.body.now c.args.code)
