-- Byte strings of saved values, read again.
use Rattle.std.proofs.Common.{◌≡◌, ℕ, List, ◌∷◌, ◌++◌, length, Option, Some, None, IfSome, IfNone, refl, sym, ap, ◌∙◌, arith, length-append}
use Rattle.relay_outside.specs.declared.address.Addr.{Addr}
use Rattle.endpoint_learn.specs.declared.learner.Learner.{Learner}
use Rattle.endpoint_learn.specs.SavedLearners.{FitsAddr, FitsLearner, saved_addr, saved_flag, saved_source, saved_learner}
use Rattle.endpoint_learn.proofs.SavedForms.{addr_long}
use Rattle.port_pool.specs.declared.pairs.Lease.{Lease}
use Rattle.port_pool.specs.SavedLeases.{FitsLease, saved_lease}
use Rattle.srtp_sources.specs.SavedKeys.{saved_keys}
use Rattle.srtp_sources.specs.SavedSources.{saved_sources}
use Rattle.srtp_sources.proofs.SavedKeyParts.{length-saved_keys}
use Rattle.srtp_sources.proofs.SavedTables.{length-saved_sources}
use Rattle.srtp_context.specs.declared.session.RtpSession.{RtpSession}
use Rattle.srtp_sources.specs.declared.sources.Sources.{Sources}
use Rattle.srtp_context.specs.declared.inbound.InRtp.{InRtp}
use Rattle.srtp_context.specs.declared.outbound.OutRtp.{OutRtp}
use Rattle.srtp_context.specs.SavedRtp.{saved_session, FitsRtp, saved_rtp, FitsInRtp, saved_in_rtp, FitsOutRtp, saved_out_rtp}
use Rattle.srtp_context.proofs.SavedContexts.{length-saved_session}
use Rattle.srtcp_context.specs.declared.inbound.InRtcp.{InRtcp}
use Rattle.srtcp_context.specs.declared.outbound.OutRtcp.{OutRtcp}
use Rattle.srtcp_context.specs.SavedCounts.{saved_counts}
use Rattle.srtcp_context.specs.SavedRtcp.{saved_rtcp_session, FitsInRtcp, saved_in_rtcp, FitsOutRtcp, saved_out_rtcp}
use Rattle.srtcp_context.proofs.SavedContexts.{length-saved_counts}
use Rattle.ng_bencode.specs.Tree.{Tree, Bytes}

-- ---- what is loaded is written so

pub loaded_some : {T : Type 0} (saved : T → List ℕ) (Fits : T → Type 0) (t : Tree) (bytes : List ℕ) (loaded : Option T) → t ≡ Bytes bytes
    → IfSome loaded (λ it. Fits it × (saved it ≡ bytes)) → IfSome loaded (λ it. t ≡ Bytes (saved it))
loaded_some saved Fits t bytes None is some = some
loaded_some saved Fits t bytes (Some it) is some = is ∙ ap (λ (b : List ℕ). Bytes b) (sym some.1)

pub loaded_none : {T : Type 0} (saved : T → List ℕ) (Fits : T → Type 0) (t : Tree) (bytes : List ℕ) (loaded : Option T) → t ≡ Bytes bytes
    → IfNone loaded ((it : T) → Fits it → saved it ≡ bytes → ⊥) → IfNone loaded ((it : T) → Fits it → t ≡ Bytes (saved it) → ⊥)
loaded_none saved Fits t bytes None is none = λ it fits same.
    let e : Bytes bytes ≡ Bytes (saved it) = sym is ∙ same in
    none it fits (cc)
loaded_none saved Fits t bytes (Some it) is none = none

-- ---- how long each is

long_source : (source : Option Addr) → IfSome source FitsAddr → length (saved_source source) ≡ 19
long_source None fits = refl
long_source (Some source) fits = addr_long source fits

pub long_learner : (learner : Learner) → FitsLearner learner → length (saved_learner learner) ≡ 41
unfolding saved_learner
long_learner learner fits =
    let flags = saved_flag learner.flags.strict ∷ saved_flag learner.flags.handover ∷ saved_flag learner.flags.asymmetric ∷ saved_source learner.learned in
    omega (arith, length-append (saved_addr learner.signalled) flags, addr_long learner.signalled fits.signalled, long_source learner.learned fits.learned)

pub long_lease : (lease : Lease) → FitsLease lease → length (saved_lease lease) ≡ 15
unfolding saved_lease
long_lease lease fits = refl

long_rtp : (session : RtpSession) (sources : Sources) → FitsRtp session sources → length (saved_rtp session sources) ≡ 980
unfolding saved_rtp
long_rtp session sources fits =
    omega (arith, length-append (saved_session session) (saved_sources sources), length-saved_session session fits.session_fits, length-saved_sources sources fits.sources_fit)

pub long_in_rtp : (context : InRtp) → FitsInRtp context → length (saved_in_rtp context) ≡ 980
long_in_rtp context fits = long_rtp context.session context.sources fits

pub long_out_rtp : (context : OutRtp) → FitsOutRtp context → length (saved_out_rtp context) ≡ 980
long_out_rtp context fits = long_rtp context.session context.sources fits

pub long_in_rtcp : (context : InRtcp) → FitsInRtcp context → length (saved_in_rtcp context) ≡ 979
unfolding saved_in_rtcp
long_in_rtcp context fits =
    let session = context.session in
    omega (
      arith,
      length-append (saved_rtcp_session session) (saved_sources context.sources),
      length-saved_keys session.cipher session.mac session.salt fits.session_fits,
      length-saved_sources context.sources fits.sources_fit,
    )

pub long_out_rtcp : (context : OutRtcp) → FitsOutRtcp context → length (saved_out_rtcp context) ≡ 307
unfolding saved_out_rtcp
long_out_rtcp context fits =
    let session = context.session in
    omega (
      arith,
      length-append (saved_rtcp_session session) (saved_counts context.counts),
      length-saved_keys session.cipher session.mac session.salt fits.session_fits,
      length-saved_counts context.counts fits.counts_fit,
    )
