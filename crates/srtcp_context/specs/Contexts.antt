-- What a context stands for, and what its calls do to it and to the buffer.
use Rattle.std.specs.Prelude.{ℕ, List, Result}
use Rattle.rtp_packet.specs.declared.head.Half.TheVariants.{Rtcp}
use Rattle.srtp_keys.specs.declared.faults.UnprotectFault.{UnprotectFault}
use Rattle.srtp_keys.specs.declared.faults.ProtectFault.{ProtectFault}
use Rattle.srtp_sources.specs.Notes.{Note}
use Rattle.srtp_sources.specs.Tables.{SourcesFor}
use Rattle.srtp_sources.specs.Judged as judged
use Rattle.srtp_sources.specs.Judged.{Opened, Wrapped}
use Rattle.srtcp_context.specs.declared.inbound.InRtcp.{InRtcp}
use Rattle.srtcp_context.specs.declared.outbound.OutRtcp.{OutRtcp}
use Rattle.srtcp_context.specs.Sessions.{RtcpSessionFor}
use Rattle.srtcp_context.specs.Counts.{CountsFor}

-- the context is of this key, and has taken the packets of these notes
pub record InRtcpFor (master : List ℕ) (context : InRtcp) (notes : List Note) : Type 0 where
  pub session : RtcpSessionFor master context.session
  pub sources : SourcesFor Rtcp context.sources notes

-- the context is of this key, and has protected the packets of these notes
pub record OutRtcpFor (master : List ℕ) (context : OutRtcp) (notes : List Note) : Type 0 where
  pub session : RtcpSessionFor master context.session
  pub counts : CountsFor context.counts notes

abbrev pub OpensRtcpTo : Result Opened UnprotectFault → List ℕ → List Note → InRtcp → InRtcp → List ℕ → List ℕ → Result ℕ UnprotectFault → Type 0
OpensRtcpTo opening master notes = judged.OpensTo (InRtcpFor master) notes opening

abbrev pub WrapsRtcpTo : Result Wrapped ProtectFault → List ℕ → List Note → OutRtcp → OutRtcp → List ℕ → List ℕ → Result (ℕ × ℕ) ProtectFault → Type 0
WrapsRtcpTo wrapping master notes = judged.WrapsTo (OutRtcpFor master) notes wrapping
