use Rattle.std.proofs.Common.{◌∙◌, sym, true, false}
use Rattle.control_messages.proofs.Datagrams.{fault_in}
use Rattle.control_messages.proofs.short.error_into.Goals as goal

pub returns-then-is_json-clause-datagram : goal.returns-then-is_json-clause-datagram
returns-then-is_json-clause-datagram c =
    c.fixed_json_error.ensures.datagram ∙ fault_in c.args.request.now.cookie.now c.args.request.now.body.now c.args.code true (sym c.is_json.ensures ∙ c.if-is_json.true)

pub returns-else-is_json-clause-datagram : goal.returns-else-is_json-clause-datagram
returns-else-is_json-clause-datagram c =
    c.fixed_error.ensures.datagram ∙ fault_in c.args.request.now.cookie.now c.args.request.now.body.now c.args.code false (sym c.is_json.ensures ∙ c.if-is_json.false)
