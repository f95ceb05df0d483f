use Rattle.std.proofs.Common.{◌∙◌, ap, ◌≡◌, ◌+◌, ◌-◌, arith, take}
use borrow.Rule.Slice.PartMut.{put_mid}
use Rattle.srtcp_context.specs.Packets.{rtcp_ciphered, trailer}
use Rattle.srtcp_context.proofs.Buffers.{ciphered_in_place, written_behind, taken_size}
use Rattle.srtcp_context.proofs.session.RtcpSession.seal.Goals as goal

pub returns : goal.returns
returns c master for =
    let before = put_mid 8 (c.args.len - 8) c.args.buf.now c.cipher.new.payload in
    let sent = rtcp_ciphered master c.args.ssrc c.args.index (take c.args.len c.args.buf.now) in
    let size : (c.args.len + 4) - c.args.len ≡ 4 = omega arith in
    written_behind sent c.args.buf.now before _ (trailer c.args.index) c.args.len 4
    (taken_size master c.args.ssrc c.args.index c.args.len c.args.buf.now c.requires.clear (omega arith))
    (ciphered_in_place master c.args.ssrc c.args.index c.args.buf.now c.cipher.new.payload c.args.len c.requires.clear (omega arith)
    (c.cipher.ensures master for))
    (ap (λ n. put_mid c.args.len n before c.copy_from_slice.new.self) size
    ∙ ap (λ l. put_mid c.args.len 4 before l) (c.copy_from_slice.ensures.after ∙ c.to_be_bytes.ensures))
