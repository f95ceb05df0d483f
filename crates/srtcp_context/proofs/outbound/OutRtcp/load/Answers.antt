use Rattle.std.proofs.Common.{◌∙◌, sym}
use Rattle.srtp_sources.proofs.SavedLists.{if_none}
use Rattle.srtp_sources.proofs.Pieces.{two_read}
use Rattle.srtcp_context.specs.SavedCounts.{saved_counts}
use Rattle.srtcp_context.specs.SavedRtcp.{saved_out_rtcp, saved_rtcp_session}
use Rattle.srtcp_context.proofs.SavedContexts.{counts_part}
use Rattle.srtcp_context.proofs.outbound.OutRtcp.load.Goals as goal

pub returns-in_err-counts-clause-none : goal.returns-in_err-counts-clause-none
returns-in_err-counts-clause-none c =
    if_none c.from_residual.result _
    (λ context fits is. c.in_err-counts.ensures.none context.counts fits.counts_fit (counts_part context c.args.bytes.now fits is ∙ sym c.part_at-2.ensures))

pub returns-clause-some : goal.returns-clause-some
unfolding saved_out_rtcp
returns-clause-some c = (
  record { session_fits = c.load-session.ensures.fits; counts_fit = c.in_ok-counts.ensures.some.0 },
  two_read c.args.bytes.now (saved_rtcp_session c.load-session.result) (saved_counts c.in_ok-counts.counts) 50 257 (c.load-session.ensures.saved ∙ c.part_at.ensures)
      (c.in_ok-counts.ensures.some.1 ∙ c.part_at-2.ensures) c.told-bytes,
)
