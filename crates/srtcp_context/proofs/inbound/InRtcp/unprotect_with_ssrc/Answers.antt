use Rattle.std.proofs.Common.{sym, ap, refl, ◌∙◌, ℕ, ◌%◌, ◌^◌, Some}
use Rattle.std.specs.Prelude.{Ok, Err}
use Rattle.std.proofs.lemmas.Result.{err_from_is_err_and}
use Rattle.rtp_packet.specs.declared.head.Half.TheVariants.{Rtcp}
use Rattle.srtp_keys.specs.declared.faults.UnprotectFault.TheVariants as fault
use Rattle.srtp_sources.specs.declared.sources.Sources.{Sources}
use Rattle.srtp_sources.proofs.Judging.{refuses, takes}
use Rattle.srtcp_context.specs.Contexts.{InRtcpFor}
use Rattle.srtcp_context.proofs.Judging.{short, not_authentic, authentic, opening_is}
use Rattle.srtcp_context.proofs.inbound.InRtcp.unprotect_with_ssrc.Goals as goal

pub returns-then-len-lt-SHORTEST-clause-opens : goal.returns-then-len-lt-SHORTEST-clause-opens
returns-then-len-lt-SHORTEST-clause-opens c master notes for =
    refuses (InRtcpFor master) notes c.args.self.now _ c.args.buf.now _ fault.Short
    (opening_is master notes _ c.args.ssrc (Err fault.Short) c.requires.head
    (short master notes c.args.buf.now c.args.len c.args.ssrc c.requires.held c.if-len-lt-SHORTEST.true)) refl

pub returns-then-not-is_authentic-clause-opens : goal.returns-then-not-is_authentic-clause-opens
returns-then-not-is_authentic-clause-opens c master notes for =
    refuses (InRtcpFor master) notes c.args.self.now _ c.args.buf.now _ fault.NotAuthentic
    (opening_is master notes _ c.args.ssrc (Err fault.NotAuthentic) c.requires.head
    (not_authentic master notes c.args.buf.now c.args.len c.args.ssrc c.requires.held c.if-len-lt-SHORTEST.false
    (sym (c.is_authentic.ensures master for.session) ∙ c.if-not-is_authentic.true))) refl

pub returns-in_err-take-clause-opens : goal.returns-in_err-take-clause-opens
returns-in_err-take-clause-opens c =
    let p = err_from_is_err_and c.from_residual.result c.from_residual.ensures.1 in
    rw (p.1, p.2) (λ master notes for.
    refuses (InRtcpFor master) notes c.args.self.now _ c.args.buf.now _ c.in_err-take.field-0.0
    (opening_is master notes _ c.find-source.result.ssrc (Err c.in_err-take.field-0.0) (c.requires.head ∙ ap Some (sym c.find-source.ensures.ssrc))
    (sym (c.in_err-take.ensures.judged Rtcp notes for.sources)
    ∙ authentic master notes c.args.buf.now c.args.len c.find-source.result.ssrc c.from-index.result c.requires.held c.if-len-lt-SHORTEST.false
    (sym (c.is_authentic.ensures master for.session) ∙ c.if-not-is_authentic.false) (c.from-index.ensures ∙ ap (λ (w : ℕ). w % 2 ^ 31) c.read_word-word.ensures)))
    (ap (λ (s : Sources). record { session = c.args.self.now.session; sources = s }) c.in_err-take.ensures.refused))

pub returns-clause-opens : goal.returns-clause-opens
returns-clause-opens c master notes for =
    let judged = c.in_ok-take.ensures.judged Rtcp notes for.sources in
    takes (InRtcpFor master) notes c.args.self.now _ c.args.buf.now _ _ c.open.new.buf c.open.result
    (opening_is master notes _ c.find-source.result.ssrc (Ok c.from-index.result) (c.requires.head ∙ ap Some (sym c.find-source.ensures.ssrc))
    (sym judged.0
    ∙ authentic master notes c.args.buf.now c.args.len c.find-source.result.ssrc c.from-index.result c.requires.held c.if-len-lt-SHORTEST.false
    (sym (c.is_authentic.ensures master for.session) ∙ c.if-not-is_authentic.false) (c.from-index.ensures ∙ ap (λ (w : ℕ). w % 2 ^ 31) c.read_word-word.ensures)))
    (c.open.ensures.writes master for.session) (record { session = for.session; sources = judged.1 })
