use Rattle.std.proofs.Common.{◌∙◌, ap}
use Rattle.srtp_context.specs.Packets.{tag_size}
use Rattle.srtp_context.proofs.Buffers.{is_authentic-is}
use Rattle.srtp_context.proofs.session.RtpSession.is_authentic.Goals as goal

pub returns : goal.returns
returns c master suite for =
    c.same_tags.ensures
    ∙ is_authentic-is master suite c.args.bytes.now c.code-code.result c.args.index c.tag_size-size.result
    (c.tag_size-size.ensures ∙ ap tag_size for.is_of) (c.code-code.ensures master suite for)
