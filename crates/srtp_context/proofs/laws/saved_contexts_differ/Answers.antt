use Rattle.std.proofs.Common.{subst}
use Rattle.srtp_context.specs.declared.inbound.InRtp.{InRtp}
use Rattle.srtp_context.specs.declared.outbound.OutRtp.{OutRtp}
use Rattle.srtp_context.specs.Contexts.{InRtpFor, OutRtpFor}
use Rattle.srtp_context.proofs.SavedContexts.{same_in_rtp, same_out_rtp}
use Rattle.srtp_context.proofs.laws.saved_contexts_differ.Goals as goal

pub returns-clause-received : goal.returns-clause-received
returns-clause-received c = same_in_rtp

pub returns-clause-sent : goal.returns-clause-sent
returns-clause-sent c = same_out_rtp

pub returns-clause-received_stands : goal.returns-clause-received_stands
returns-clause-received_stands c a b fits_a fits_b is master suite notes stands =
    subst (λ (context : InRtp). InRtpFor master suite context notes) (same_in_rtp a b fits_a fits_b is) stands

pub returns-clause-sent_stands : goal.returns-clause-sent_stands
returns-clause-sent_stands c a b fits_a fits_b is master suite notes stands =
    subst (λ (context : OutRtp). OutRtpFor master suite context notes) (same_out_rtp a b fits_a fits_b is) stands
