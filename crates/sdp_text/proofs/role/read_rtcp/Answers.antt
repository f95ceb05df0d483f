use Rattle.std.proofs.Common.{sym, ◌∙◌}
use Rattle.sdp_text.proofs.Cuts.{rtcp_cut}
use Rattle.sdp_text.proofs.role.read_rtcp.Goals as goal

pub returns-in-Some-rest : goal.returns-in-Some-rest
returns-in-Some-rest c = c.read_rtcp_address.ensures ∙ sym (rtcp_cut c.args.text.now c.cut.result.0.now c.cut.result.1 c.in-Some-rest.rest c.in-Some.port c.cut.ensures.pieces c.in-Some-rest.is (sym c.read_port.ensures ∙ c.in-Some.is) c.if-port-eq0.false)
