use Rattle.std.proofs.Common.{◌∙◌, sym}
use Rattle.srtp_sources.proofs.SavedLists.{if_none}
use Rattle.srtp_sources.proofs.Pieces.{two_read}
use Rattle.srtp_sources.specs.SavedSources.{saved_sources}
use Rattle.srtcp_context.specs.SavedRtcp.{saved_in_rtcp, saved_rtcp_session}
use Rattle.srtcp_context.proofs.SavedContexts.{sources_part}
use Rattle.srtcp_context.proofs.inbound.InRtcp.load.Goals as goal

pub returns-in_err-sources-clause-none : goal.returns-in_err-sources-clause-none
returns-in_err-sources-clause-none c =
    if_none c.from_residual.result _
    (λ context fits is. c.in_err-sources.ensures.none context.sources fits.sources_fit (sources_part context c.args.bytes.now fits is ∙ sym c.part_at-2.ensures))

pub returns-clause-some : goal.returns-clause-some
unfolding saved_in_rtcp
returns-clause-some c = (
  record { session_fits = c.load-session.ensures.fits; sources_fit = c.in_ok-sources.ensures.some.0 },
  two_read c.args.bytes.now (saved_rtcp_session c.load-session.result) (saved_sources c.in_ok-sources.sources) 50 929 (c.load-session.ensures.saved ∙ c.part_at.ensures)
      (c.in_ok-sources.ensures.some.1 ∙ c.part_at-2.ensures) c.told-bytes,
)
