-- How a context is saved, and which contexts there are.
use Rattle.std.specs.Prelude.{ℕ, List, [], ◌∷◌, ◌++◌}
use Rattle.srtp_sources.specs.SavedKeys.{FitsKeys, saved_keys}
use Rattle.srtp_sources.specs.declared.sources.Sources.{Sources}
use Rattle.srtp_sources.specs.SavedSources.{FitsSources, saved_sources}
use Rattle.srtp_context.specs.declared.session.RtpSession.{RtpSession}
use Rattle.srtp_context.specs.declared.inbound.InRtp.{InRtp}
use Rattle.srtp_context.specs.declared.outbound.OutRtp.{OutRtp}
use Rattle.srtp_context.specs.Packets.{tag_size}

-- 51 bytes: the keys of the session, and the length of its suite's tag in one byte
unfoldable pub saved_session : RtpSession → List ℕ
saved_session session = saved_keys session.cipher session.mac session.salt ++ tag_size session.suite ∷ []

abbrev pub FitsSession : RtpSession → Type 0
FitsSession session = FitsKeys session.cipher session.mac session.salt

-- 980 bytes: the session and the sources
unfoldable pub saved_rtp : RtpSession → Sources → List ℕ
saved_rtp session sources = saved_session session ++ saved_sources sources

abbrev pub saved_in_rtp : InRtp → List ℕ
saved_in_rtp context = saved_rtp context.session context.sources

abbrev pub saved_out_rtp : OutRtp → List ℕ
saved_out_rtp context = saved_rtp context.session context.sources

-- the contexts that there are
pub record FitsRtp (session : RtpSession) (sources : Sources) : Type 0 where
  pub session_fits : FitsSession session
  pub sources_fit : FitsSources sources

abbrev pub FitsInRtp : InRtp → Type 0
FitsInRtp context = FitsRtp context.session context.sources

abbrev pub FitsOutRtp : OutRtp → Type 0
FitsOutRtp context = FitsRtp context.session context.sources
