use Rattle.control_messages.proofs.Datagrams.{fault_is, written}
use Rattle.control_messages.proofs.room.write_error.Goals as goal
use Rattle.std.proofs.Common.{◌∙◌}

pub returns : goal.returns
returns c config =
    written _ _ _ _ c.requires.empty c.extend.ensures.list (c.error_into-len.ensures.datagram ∙ fault_is config c.args.request.now.cookie.now c.args.request.now.body.now c.args.code)
