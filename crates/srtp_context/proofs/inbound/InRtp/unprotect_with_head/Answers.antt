use Rattle.std.proofs.Common.{◌∙◌, ap, subst, sym, refl, arith, ℕ, ◌∷◌, take, length-take-le}
use Rattle.std.specs.Prelude.{Ok, Err}
use Rattle.std.proofs.lemmas.Result.{err_from_is_err_and}
use Rattle.rtp_packet.specs.declared.head.Half.TheVariants.{Rtp}
use Rattle.rtp_packet.proofs.HeadLemmas.{rtp_head-within}
use Rattle.replay_window.specs.declared.answers.Near.TheVariants.{At, Below, Beyond}
use Rattle.srtp_keys.specs.declared.faults.UnprotectFault.TheVariants as fault
use Rattle.srtp_sources.specs.declared.sources.Sources.{Sources}
use Rattle.srtp_sources.specs.Tables.{SourcesFor}
use Rattle.srtp_context.specs.Packets.{tag_size}
use Rattle.srtp_context.proofs.PacketLemmas.{tag_within}
use Rattle.srtp_sources.proofs.Judging.{refuses, takes}
use Rattle.srtp_context.specs.Contexts.{InRtpFor}
use Rattle.srtp_context.proofs.Judging.{short, long, not_authentic, authentic, opening_is}
use Rattle.srtp_context.proofs.inbound.InRtp.unprotect_with_head.Goals as goal

pub overflow_add-found : goal.overflow_add-found
overflow_add-found c =
    let within = rtp_head-within (take c.args.len c.args.buf.now) c.args.found c.requires.head in
    omega (arith, within.held, length-take-le c.args.len c.args.buf.now c.requires.held, c.tag_size.ensures, tag_within c.args.self.now.session.suite)

pub returns-then-len-found-clause-opens : goal.returns-then-len-found-clause-opens
returns-then-len-found-clause-opens c master suite notes for =
    refuses (InRtpFor master suite) notes c.args.self.now _ c.args.buf.now _ fault.Short
    (opening_is master suite notes _ c.args.found (Err fault.Short) c.requires.head
    (short master suite notes c.args.buf.now c.args.len c.args.found c.tag_size.result c.requires.held
    (c.tag_size.ensures ∙ ap tag_size for.session.is_of) c.if-len-found.true)) refl

pub returns-in-Below-clause-opens : goal.returns-in-Below-clause-opens
returns-in-Below-clause-opens c master suite notes for =
    refuses (InRtpFor master suite) notes c.args.self.now _ c.args.buf.now _ fault.TooOld
    (opening_is master suite notes _ c.args.found (Err fault.TooOld) c.requires.head
    (long master suite notes c.args.buf.now c.args.len c.args.found c.tag_size.result c.find-source.result.ssrc Below c.requires.held
    (c.tag_size.ensures ∙ ap tag_size for.session.is_of) c.if-len-found.false c.find-source.ensures.ssrc (c.in-Below.ensures.nearest Rtp notes for.sources))) refl

pub returns-in-Beyond-clause-opens : goal.returns-in-Beyond-clause-opens
returns-in-Beyond-clause-opens c master suite notes for =
    refuses (InRtpFor master suite) notes c.args.self.now _ c.args.buf.now _ fault.TooOld
    (opening_is master suite notes _ c.args.found (Err fault.TooOld) c.requires.head
    (long master suite notes c.args.buf.now c.args.len c.args.found c.tag_size.result c.find-source.result.ssrc Beyond c.requires.held
    (c.tag_size.ensures ∙ ap tag_size for.session.is_of) c.if-len-found.false c.find-source.ensures.ssrc (c.in-Beyond.ensures.nearest Rtp notes for.sources))) refl

pub returns-then-not-is_authentic-clause-opens : goal.returns-then-not-is_authentic-clause-opens
returns-then-not-is_authentic-clause-opens c master suite notes for =
    refuses (InRtpFor master suite) notes c.args.self.now _ c.args.buf.now _ fault.NotAuthentic
    (opening_is master suite notes _ c.args.found (Err fault.NotAuthentic) c.requires.head
    (not_authentic master suite c.args.found.ssrc notes (take c.args.len c.args.buf.now) c.in-At.index
    (sym (c.is_authentic.ensures master suite for.session) ∙ c.if-not-is_authentic.true)
    ∙ long master suite notes c.args.buf.now c.args.len c.args.found c.tag_size.result c.find-source.result.ssrc (At c.in-At.index) c.requires.held
    (c.tag_size.ensures ∙ ap tag_size for.session.is_of) c.if-len-found.false c.find-source.ensures.ssrc (c.in-At.ensures.nearest Rtp notes for.sources))) refl

pub returns-in_err-take-clause-opens : goal.returns-in_err-take-clause-opens
returns-in_err-take-clause-opens c =
    let p = err_from_is_err_and c.from_residual.result c.from_residual.ensures.1 in
    rw (p.1, p.2) (λ master suite notes for.
    refuses (InRtpFor master suite) notes c.args.self.now _ c.args.buf.now _ c.in_err-take.field-0.0
    (opening_is master suite notes _ c.args.found (Err c.in_err-take.field-0.0) c.requires.head
    (sym (c.in_err-take.ensures.judged Rtp notes for.sources)
    ∙ authentic master suite c.args.found.ssrc notes (take c.args.len c.args.buf.now) c.in-At.index c.find-source.result.ssrc
    (sym (c.is_authentic.ensures master suite for.session) ∙ c.if-not-is_authentic.false) c.find-source.ensures.ssrc
    ∙ long master suite notes c.args.buf.now c.args.len c.args.found c.tag_size.result c.find-source.result.ssrc (At c.in-At.index) c.requires.held
    (c.tag_size.ensures ∙ ap tag_size for.session.is_of) c.if-len-found.false c.find-source.ensures.ssrc (c.in-At.ensures.nearest Rtp notes for.sources)))
    (ap (λ (s : Sources). record { session = c.args.self.now.session; sources = s }) c.in_err-take.ensures.refused))

pub returns-clause-opens : goal.returns-clause-opens
returns-clause-opens c master suite notes for =
    let judged = c.in_ok-take.ensures.judged Rtp notes for.sources in
    takes (InRtpFor master suite) notes c.args.self.now _ c.args.buf.now _ _ c.open.new.buf c.open.result
    (opening_is master suite notes _ c.args.found (Ok c.in-At.index) c.requires.head
    (sym judged.0
    ∙ authentic master suite c.args.found.ssrc notes (take c.args.len c.args.buf.now) c.in-At.index c.find-source.result.ssrc
    (sym (c.is_authentic.ensures master suite for.session) ∙ c.if-not-is_authentic.false) c.find-source.ensures.ssrc
    ∙ long master suite notes c.args.buf.now c.args.len c.args.found c.tag_size.result c.find-source.result.ssrc (At c.in-At.index) c.requires.held
    (c.tag_size.ensures ∙ ap tag_size for.session.is_of) c.if-len-found.false c.find-source.ensures.ssrc (c.in-At.ensures.nearest Rtp notes for.sources)))
    (c.open.ensures.writes master suite for.session)
    (record {
      session = for.session;
      sources = subst (λ (s : ℕ). SourcesFor Rtp c.take.new.self (record { half = Rtp; ssrc = s; index = c.in-At.index } ∷ notes)) c.find-source.ensures.ssrc judged.1;
    })
