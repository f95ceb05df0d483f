use Rattle.std.proofs.Common.{◌∙◌, ap, ◌≡◌, ◌+◌, ◌-◌, arith}
use borrow.Rule.Slice.PartMut.{put_mid}
use Rattle.srtp_context.specs.Packets.{tag_size}
use Rattle.srtp_context.proofs.Buffers.{ciphered_in_place, protected_in_place}
use Rattle.srtp_context.proofs.PacketLemmas.{tag_within}
use Rattle.srtp_context.proofs.session.RtpSession.wrap.Goals as goal

pub returns-clause-writes : goal.returns-clause-writes
returns-clause-writes c master suite for =
    protected_in_place master suite c.args.found c.args.index c.args.len c.tag_size-size.result c.args.buf.now _ c.code-code.result _
    c.requires.head c.requires.within (omega (arith, c.tag_size-size.ensures, tag_within c.args.self.now.suite)) (c.tag_size-size.ensures ∙ ap tag_size for.is_of)
    (ciphered_in_place master c.args.found c.args.index c.args.buf.now c.cipher.new.payload _ c.requires.within (omega arith)
    (c.cipher.ensures master suite for))
    (c.code-code.ensures master suite for)
    (let before = put_mid c.args.found.head (c.args.len - c.args.found.head) c.args.buf.now c.cipher.new.payload in
    let size : (c.args.len + c.tag_size-size.result) - c.args.len ≡ c.tag_size-size.result = omega arith in
    ap (λ n. put_mid c.args.len n before c.copy_from_slice.new.self) size
    ∙ ap (λ l. put_mid c.args.len c.tag_size-size.result before l) c.copy_from_slice.ensures.after)
