use Rattle.std.proofs.Common.{subst}
use Rattle.srtcp_context.specs.declared.inbound.InRtcp.{InRtcp}
use Rattle.srtcp_context.specs.declared.outbound.OutRtcp.{OutRtcp}
use Rattle.srtcp_context.specs.Contexts.{InRtcpFor, OutRtcpFor}
use Rattle.srtcp_context.proofs.SavedContexts.{same_in_rtcp, same_out_rtcp}
use Rattle.srtcp_context.proofs.laws.saved_contexts_differ.Goals as goal

pub returns-clause-received : goal.returns-clause-received
returns-clause-received c = same_in_rtcp

pub returns-clause-sent : goal.returns-clause-sent
returns-clause-sent c = same_out_rtcp

pub returns-clause-received_stands : goal.returns-clause-received_stands
returns-clause-received_stands c a b fits_a fits_b is master notes stands =
    subst (λ (context : InRtcp). InRtcpFor master context notes) (same_in_rtcp a b fits_a fits_b is) stands

pub returns-clause-sent_stands : goal.returns-clause-sent_stands
returns-clause-sent_stands c a b fits_a fits_b is master notes stands =
    subst (λ (context : OutRtcp). OutRtcpFor master context notes) (same_out_rtcp a b fits_a fits_b is) stands
