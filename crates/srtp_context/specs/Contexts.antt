-- What a context stands for, and what its calls do to it and to the buffer.
use Rattle.std.specs.Prelude.{ℕ, List, Result}
use Rattle.rtp_packet.specs.declared.head.Half.TheVariants.{Rtp}
use Rattle.sdes_lines.specs.declared.crypto_line.Suite.{Suite}
use Rattle.srtp_keys.specs.declared.faults.UnprotectFault.{UnprotectFault}
use Rattle.srtp_keys.specs.declared.faults.ProtectFault.{ProtectFault}
use Rattle.srtp_sources.specs.Notes.{Note}
use Rattle.srtp_sources.specs.Tables.{SourcesFor}
use Rattle.srtp_sources.specs.Judged as judged
use Rattle.srtp_sources.specs.Judged.{Opened, Wrapped}
use Rattle.srtp_context.specs.declared.inbound.InRtp.{InRtp}
use Rattle.srtp_context.specs.declared.outbound.OutRtp.{OutRtp}
use Rattle.srtp_context.specs.Sessions.{SessionFor}

-- the context is of this key and suite, and has taken the packets of these notes
pub record InRtpFor (master : List ℕ) (suite : Suite) (context : InRtp) (notes : List Note) : Type 0 where
  pub session : SessionFor master suite context.session
  pub sources : SourcesFor Rtp context.sources notes

-- the context is of this key and suite, and has protected the packets of these notes
pub record OutRtpFor (master : List ℕ) (suite : Suite) (context : OutRtp) (notes : List Note) : Type 0 where
  pub session : SessionFor master suite context.session
  pub sources : SourcesFor Rtp context.sources notes

abbrev pub OpensRtpTo : Result Opened UnprotectFault → List ℕ → Suite → List Note → InRtp → InRtp → List ℕ → List ℕ → Result ℕ UnprotectFault → Type 0
OpensRtpTo opening master suite notes = judged.OpensTo (InRtpFor master suite) notes opening

abbrev pub WrapsRtpTo : Result Wrapped ProtectFault → List ℕ → Suite → List Note → OutRtp → OutRtp → List ℕ → List ℕ → Result (ℕ × ℕ) ProtectFault → Type 0
WrapsRtpTo wrapping master suite notes = judged.WrapsTo (OutRtpFor master suite) notes wrapping
