use Rattle.std.proofs.Common.{◌∙◌, ap, ◌≡◌, ◌+◌, ◌-◌, arith}
use borrow.Rule.Slice.PartMut.{put_mid}
use Rattle.srtcp_context.proofs.Buffers.{protected_in_place}
use Rattle.srtcp_context.proofs.session.RtcpSession.wrap.Goals as goal

pub returns-clause-writes : goal.returns-clause-writes
returns-clause-writes c master for =
    let size : (c.args.len + 4 + 10) - (c.args.len + 4) ≡ 10 = omega arith in
    protected_in_place master c.args.ssrc c.args.index c.args.len c.args.buf.now c.seal.new.buf c.code-code.result _
    c.requires.head c.requires.clear c.requires.room (c.seal.ensures master for) (c.code-code.ensures master for)
    (ap (λ n. put_mid (c.args.len + 4) n c.seal.new.buf c.copy_from_slice.new.self) size
    ∙ ap (λ l. put_mid (c.args.len + 4) 10 c.seal.new.buf l) c.copy_from_slice.ensures.after)
