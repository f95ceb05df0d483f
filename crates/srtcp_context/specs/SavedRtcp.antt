-- How a context is saved, and which contexts there are.
use Rattle.std.specs.Prelude.{ℕ, List, ◌++◌}
use Rattle.srtp_sources.specs.SavedKeys.{FitsKeys, saved_keys}
use Rattle.srtp_sources.specs.SavedSources.{FitsSources, saved_sources}
use Rattle.srtcp_context.specs.declared.session.RtcpSession.{RtcpSession}
use Rattle.srtcp_context.specs.declared.inbound.InRtcp.{InRtcp}
use Rattle.srtcp_context.specs.declared.outbound.OutRtcp.{OutRtcp}
use Rattle.srtcp_context.specs.SavedCounts.{FitsCounts, saved_counts}

-- 50 bytes: the keys of the session
abbrev pub saved_rtcp_session : RtcpSession → List ℕ
saved_rtcp_session session = saved_keys session.cipher session.mac session.salt

abbrev pub FitsRtcpSession : RtcpSession → Type 0
FitsRtcpSession session = FitsKeys session.cipher session.mac session.salt

-- 979 bytes: the session and the sources
unfoldable pub saved_in_rtcp : InRtcp → List ℕ
saved_in_rtcp context = saved_rtcp_session context.session ++ saved_sources context.sources

-- 307 bytes: the session and the counts
unfoldable pub saved_out_rtcp : OutRtcp → List ℕ
saved_out_rtcp context = saved_rtcp_session context.session ++ saved_counts context.counts

-- the contexts that there are
pub record FitsInRtcp (context : InRtcp) : Type 0 where
  pub session_fits : FitsRtcpSession context.session
  pub sources_fit : FitsSources context.sources

pub record FitsOutRtcp (context : OutRtcp) : Type 0 where
  pub session_fits : FitsRtcpSession context.session
  pub counts_fit : FitsCounts context.counts
