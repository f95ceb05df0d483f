use Rattle.std.proofs.Common.{◌∙◌, sym}
use Rattle.srtp_sources.proofs.SavedLists.{if_none}
use Rattle.srtp_context.proofs.SavedContexts.{session_part, sources_part, context_read}
use Rattle.srtp_context.proofs.saved.load_rtp.Goals as goal

pub returns-in_err-session-clause-none : goal.returns-in_err-session-clause-none
returns-in_err-session-clause-none c =
    if_none c.from_residual.result _
    (λ session sources fits is. c.in_err-session.ensures.none session fits.session_fits (session_part session sources c.args.bytes.now fits is ∙ sym c.part_at.ensures))

pub returns-in_err-sources-clause-none : goal.returns-in_err-sources-clause-none
returns-in_err-sources-clause-none c =
    if_none c.from_residual-in_err-sources.result _
    (λ session sources fits is. c.in_err-sources.ensures.none sources fits.sources_fit (sources_part session sources c.args.bytes.now fits is ∙ sym c.part_at-2.ensures))

pub returns-clause-some : goal.returns-clause-some
returns-clause-some c = (
  record { session_fits = c.in_ok-session.ensures.some.0; sources_fit = c.in_ok-sources.ensures.some.0 },
  context_read c.in_ok-session.session c.in_ok-sources.sources c.args.bytes.now c.told-bytes (c.in_ok-session.ensures.some.1 ∙ c.part_at.ensures)
      (c.in_ok-sources.ensures.some.1 ∙ c.part_at-2.ensures),
)
