use Rattle.std.proofs.Common.{◌∙◌}
use Rattle.srtcp_context.proofs.Buffers.{is_authentic-is}
use Rattle.srtcp_context.proofs.session.RtcpSession.is_authentic.Goals as goal

pub returns : goal.returns
returns c master for =
    c.same_tags.ensures ∙ is_authentic-is master c.args.bytes.now c.code-code.result (c.code-code.ensures master for)
