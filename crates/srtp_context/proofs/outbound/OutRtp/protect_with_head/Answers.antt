use Rattle.std.proofs.Common.{◌∙◌, ap, sym, refl, true, false, arith, take, length-take-le}
use Rattle.std.specs.Prelude.{Ok, Err}
use Rattle.rtp_packet.specs.declared.head.Half.TheVariants.{Rtp}
use Rattle.rtp_packet.proofs.HeadLemmas.{rtp_head-within}
use Rattle.replay_window.specs.declared.answers.Near.TheVariants.{Below, Beyond}
use Rattle.replay_window.specs.declared.answers.Fresh.TheVariants.{Yes, TooOld, Used}
use Rattle.replay_window.specs.Indices.{fresh}
use Rattle.srtp_keys.specs.declared.faults.ProtectFault.TheVariants as fault
use Rattle.srtp_sources.specs.Notes.{indices}
use Rattle.srtp_sources.proofs.Tabling.{noted_found}
use Rattle.srtp_sources.proofs.Judging.{sends_none, sends}
use Rattle.srtp_context.specs.Contexts.{OutRtpFor}
use Rattle.srtp_context.proofs.Sending.{near_is, at_index, fresh_by, wrapping_is}
use Rattle.srtp_context.proofs.outbound.OutRtp.protect_with_head.Goals as goal

pub wrap-size-requires-clause-within : goal.wrap-size-requires-clause-within
wrap-size-requires-clause-within c =
    let within = rtp_head-within (take c.args.len c.args.buf.now) c.args.found c.requires.head in
    omega (arith, within.held, c.requires.room, length-take-le c.args.len c.args.buf.now)

pub returns-in-Below-clause-wraps : goal.returns-in-Below-clause-wraps
returns-in-Below-clause-wraps c master suite notes for =
    sends_none (OutRtpFor master suite) notes c.args.self.now _ c.args.buf.now _ fault.TooOld
    (wrapping_is master suite notes _ c.args.found (Err fault.TooOld) c.requires.head
    (near_is notes c.args.found c.find-source.result.ssrc Below c.find-source.ensures.ssrc
    (c.in-Below.ensures.nearest Rtp notes for.sources))) refl

pub returns-in-Beyond-clause-wraps : goal.returns-in-Beyond-clause-wraps
returns-in-Beyond-clause-wraps c master suite notes for =
    sends_none (OutRtpFor master suite) notes c.args.self.now _ c.args.buf.now _ fault.KeySpent
    (wrapping_is master suite notes _ c.args.found (Err fault.KeySpent) c.requires.head
    (near_is notes c.args.found c.find-source.result.ssrc Beyond c.find-source.ensures.ssrc
    (c.in-Beyond.ensures.nearest Rtp notes for.sources))) refl

pub returns-in-TooOld-clause-wraps : goal.returns-in-TooOld-clause-wraps
returns-in-TooOld-clause-wraps c master suite notes for =
    sends_none (OutRtpFor master suite) notes c.args.self.now _ c.args.buf.now _ fault.TooOld
    (wrapping_is master suite notes _ c.args.found (Err fault.TooOld) c.requires.head
    (at_index notes c.args.found c.find-source.result.ssrc c.in-At.index TooOld c.find-source.ensures.ssrc
    (c.in-At.ensures.nearest Rtp notes for.sources) (c.in-TooOld.ensures Rtp notes for.sources))) refl

pub returns-in-Used-clause-wraps : goal.returns-in-Used-clause-wraps
returns-in-Used-clause-wraps c master suite notes for =
    sends_none (OutRtpFor master suite) notes c.args.self.now _ c.args.buf.now _ fault.IndexUsed
    (wrapping_is master suite notes _ c.args.found (Err fault.IndexUsed) c.requires.head
    (at_index notes c.args.found c.find-source.result.ssrc c.in-At.index Used c.find-source.ensures.ssrc
    (c.in-At.ensures.nearest Rtp notes for.sources) (c.in-Used.ensures Rtp notes for.sources))) refl

pub returns-then-not-has_room_for-clause-wraps : goal.returns-then-not-has_room_for-clause-wraps
returns-then-not-has_room_for-clause-wraps c master suite notes for =
    sends_none (OutRtpFor master suite) notes c.args.self.now _ c.args.buf.now _ fault.TooManySources
    (wrapping_is master suite notes _ c.args.found (Err fault.TooManySources) c.requires.head
    (fresh_by c.args.found.ssrc notes c.in-At.index c.find-source.result.ssrc false c.find-source.ensures.ssrc
    (sym c.if-not-has_room_for.true ∙ c.has_room_for.ensures.notes Rtp notes for.sources)
    ∙ at_index notes c.args.found c.find-source.result.ssrc c.in-At.index Yes c.find-source.ensures.ssrc
    (c.in-At.ensures.nearest Rtp notes for.sources) (c.in-Yes.ensures Rtp notes for.sources))) refl

pub returns-clause-wraps : goal.returns-clause-wraps
returns-clause-wraps c master suite notes for =
    sends (OutRtpFor master suite) notes c.args.self.now _ c.args.buf.now _ _ c.wrap-size.new.buf c.wrap-size.result
    (wrapping_is master suite notes _ c.args.found (Ok c.in-At.index) c.requires.head
    (fresh_by c.args.found.ssrc notes c.in-At.index c.find-source.result.ssrc true c.find-source.ensures.ssrc
    (sym c.if-not-has_room_for.false ∙ c.has_room_for.ensures.notes Rtp notes for.sources)
    ∙ at_index notes c.args.found c.find-source.result.ssrc c.in-At.index Yes c.find-source.ensures.ssrc
    (c.in-At.ensures.nearest Rtp notes for.sources) (c.in-Yes.ensures Rtp notes for.sources)))
    (c.wrap-size.ensures.writes master suite for.session)
    (record {
      session = for.session;
      sources = noted_found Rtp c.note_for.new.self c.args.found.ssrc c.find-source.result.ssrc c.in-At.index notes c.find-source.ensures.ssrc
          (c.note_for.ensures Rtp notes for.sources)
          (sym (c.in-Yes.ensures Rtp notes for.sources ∙ ap (λ s. fresh (indices Rtp s notes) c.in-At.index) c.find-source.ensures.ssrc));
    })
