use Rattle.std.proofs.Common.{sym, refl, ap, ◌∙◌, subst, ℕ, Some, take, arith, length-take-le}
use Rattle.std.specs.Prelude.{Ok, Err}
use Rattle.rtp_packet.proofs.HeadLemmas.{rtcp_ssrc-within}
use Rattle.srtp_keys.specs.declared.faults.ProtectFault.TheVariants as fault
use Rattle.srtcp_context.specs.OutboundPackets.{rtcp_wrapping}
use Rattle.srtcp_context.specs.Contexts.{OutRtcpFor, WrapsRtcpTo}
use Rattle.srtp_sources.proofs.Judging.{sends_none, sends}
use Rattle.srtcp_context.proofs.Sending.{no_room, spent, counts_on, wrapping_is}
use Rattle.srtcp_context.proofs.outbound.OutRtcp.protect_with_ssrc.Goals as goal

pub wrap-size-requires-clause-clear : goal.wrap-size-requires-clause-clear
wrap-size-requires-clause-clear c =
    let within = rtcp_ssrc-within _ c.args.ssrc c.requires.head in
    omega (arith, within.held, length-take-le c.args.len c.args.buf.now)

pub returns-then-not-has_room-clause-wraps : goal.returns-then-not-has_room-clause-wraps
returns-then-not-has_room-clause-wraps c master notes for =
    sends_none (OutRtcpFor master) notes c.args.self.now _ c.args.buf.now _ fault.TooManySources
    (wrapping_is master notes _ c.find-sender.result.ssrc (Err fault.TooManySources) (c.requires.head ∙ ap Some (sym c.find-sender.ensures.ssrc))
    (no_room notes c.find-sender.result.ssrc (sym (c.has_room.ensures.notes notes for.counts) ∙ c.if-not-has_room.true))) refl

pub returns-then-next-ge-INDICES-clause-wraps : goal.returns-then-next-ge-INDICES-clause-wraps
returns-then-next-ge-INDICES-clause-wraps c master notes for =
    sends_none (OutRtcpFor master) notes c.args.self.now _ c.args.buf.now _ fault.KeySpent
    (wrapping_is master notes _ c.find-sender.result.ssrc (Err fault.KeySpent) (c.requires.head ∙ ap Some (sym c.find-sender.ensures.ssrc))
    (spent notes c.find-sender.result.ssrc c.next-next.result (sym (c.has_room.ensures.notes notes for.counts) ∙ c.if-not-has_room.false)
    (c.next-next.ensures notes for.counts) c.if-next-ge-INDICES.true)) refl

pub returns-clause-wraps : goal.returns-clause-wraps
returns-clause-wraps c master notes for =
    let next = c.next-next.ensures notes for.counts in
    let sent = counts_on notes c.find-sender.result.ssrc c.next-next.result (sym (c.has_room.ensures.notes notes for.counts) ∙ c.if-not-has_room.false)
    next c.if-next-ge-INDICES.false in
    let P : ℕ → Type 0 = λ index. WrapsRtcpTo (rtcp_wrapping master notes (take c.args.len c.args.buf.now)) master notes c.args.self.now
    (record { session = c.args.self.now.session; counts = c.advance.new.self }) c.args.buf.now c.wrap-size.new.buf (Ok (c.wrap-size.result, index)) in
    subst P (sym c.from.ensures)
    (sends (OutRtcpFor master) notes c.args.self.now _ c.args.buf.now _ _ c.wrap-size.new.buf c.wrap-size.result
    (wrapping_is master notes _ c.find-sender.result.ssrc (Ok c.next-next.result) (c.requires.head ∙ ap Some (sym c.find-sender.ensures.ssrc)) sent) (c.wrap-size.ensures.writes master for.session)
    (record { session = for.session; counts = c.advance.ensures notes for.counts next }))
