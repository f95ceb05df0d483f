use Rattle.std.proofs.Common.{◌∙◌, ap, ◌-◌, rules, arith}
use Rattle.srtp_context.specs.Packets.{tag_size}
use Rattle.srtp_context.proofs.Buffers.{ciphered_in_place, head_stands, opened_in_place}
use Rattle.srtp_context.proofs.session.RtpSession.open.Goals as goal

pub returns-clause-writes : goal.returns-clause-writes
returns-clause-writes c master suite for =
    opened_in_place master suite c.args.found c.args.index c.args.len c.tag_size.result c.args.buf.now _ c.requires.head c.requires.held
    (c.tag_size.ensures ∙ ap tag_size for.is_of) (omega (arith, c.tag_size.ensures, c.requires.tag))
    (ciphered_in_place master c.args.found c.args.index c.args.buf.now c.cipher.new.payload _ (omega (arith, c.tag_size.ensures, c.requires.tag)) (omega arith)
    (c.cipher.ensures master suite for))

pub returns-clause-head : goal.returns-clause-head
returns-clause-head c =
    head_stands c.args.found c.args.len (c.args.len - c.tag_size.result) c.args.buf.now _ c.requires.head c.requires.held
    (omega (arith, c.requires.tag)) (omega (arith, c.tag_size.ensures, c.requires.tag)) (search rules)
