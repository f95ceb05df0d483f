-- The SRTP and the SRTCP context of one key together: for which notes they stand, and what their calls do.
use Rattle.std.specs.Prelude.{ℕ, ◌≡◌, List, [], take, length, Option, Some, None, Result, Ok, Err}
use Rattle.std.specs.List.{cons_option}
use Rattle.sdes_lines.specs.declared.crypto_line.Suite.{Suite}
use Rattle.srtp_sources.specs.Notes.{Note}
use Rattle.srtp_context.specs.Contexts as srtp
use Rattle.srtcp_context.specs.Contexts as srtcp
use Rattle.port_pool.specs.Signals.{NewKey}
use Rattle.call_cell.specs.declared.outcome.Refused.{Refused}
use Rattle.call_cell.specs.declared.outcome.Lost.{Lost}
use Rattle.call_cell.specs.declared.contexts.Inbound.{Inbound}
use Rattle.call_cell.specs.declared.contexts.Outbound.{Outbound}
use Rattle.call_cell.specs.Cells.{Shield}
use Rattle.call_cell.specs.Protection.{Judged, Stopped, Passed, Departure, Held, Leaves}

-- the contexts are of this key and suite, and have taken the packets of these notes
pub record InboundFor (key : List ℕ × Suite) (contexts : Inbound) (notes : List Note) : Type 0 where
  pub rtp : srtp.InRtpFor key.0 key.1 contexts.rtp notes
  pub rtcp : srtcp.InRtcpFor key.0 contexts.rtcp notes

-- the contexts are there, are of this key and suite, and have taken no packet
abbrev pub IsInboundAnew : List ℕ × Suite → Option Inbound → Type 0
IsInboundAnew key None = ⊥
IsInboundAnew key (Some contexts) = InboundFor key contexts []

-- a packet was taken: the plain packet stands at the buffer's front
pub record InboundTakes (key : List ℕ × Suite) (notes : List Note) (noted : Option Note) (plain : List ℕ) (new : Inbound) (buf : List ℕ)
    (result : Result ℕ Refused) : Type 0 where
  pub answer : result ≡ Ok (length plain)
  pub buffer : take (length plain) buf ≡ plain
  pub contexts : InboundFor key new (cons_option noted notes)

-- a call was refused, and the contexts are as before
pub record ContextsRefuse {C F : Type 0} (cause : F) (old new : C) (result : Result ℕ F) : Type 0 where
  pub answer : result ≡ Err cause
  pub contexts : new ≡ old

abbrev pub InboundOpensTo : Judged → List ℕ × Suite → List Note → Inbound → Inbound → List ℕ → Result ℕ Refused → Type 0
InboundOpensTo (Stopped cause) key notes old new buf result = ContextsRefuse cause old new result
InboundOpensTo (Passed noted plain) key notes old new buf result = InboundTakes key notes noted plain new buf result

-- the contexts are of this key, and have protected the packets of these notes
pub record OutboundFor (key : NewKey) (contexts : Outbound) (notes : List Note) : Type 0 where
  pub number : contexts.number ≡ key.number
  pub rtp : srtp.OutRtpFor key.bytes key.suite contexts.rtp notes
  pub rtcp : srtcp.OutRtcpFor key.bytes contexts.rtcp notes

-- what a shield notes under the key of this number
abbrev pub note_of : Option Shield → Option Note
note_of None = None
note_of (Some s) = Some s.note

-- the shield is under the key of this number
abbrev pub IsUnder : ℕ → Option Shield → Type 0
IsUnder number None = Unit {0}
IsUnder number (Some s) = s.key ≡ number

-- a packet was protected: its bytes stand at the buffer's front
pub record OutboundSends (key : NewKey) (notes : List Note) (shield : Option Shield) (bytes : List ℕ) (new : Outbound) (buf : List ℕ)
    (result : Result ℕ Lost) : Type 0 where
  pub answer : result ≡ Ok (length bytes)
  pub buffer : take (length bytes) buf ≡ bytes
  pub under : IsUnder key.number shield
  pub contexts : OutboundFor key new (cons_option (note_of shield) notes)

abbrev pub OutboundWrapsTo : Departure → NewKey → List Note → Outbound → Outbound → List ℕ → Result ℕ Lost → Type 0
OutboundWrapsTo (Held cause) key notes old new buf result = ContextsRefuse cause old new result
OutboundWrapsTo (Leaves shield bytes) key notes old new buf result = OutboundSends key notes shield bytes new buf result
