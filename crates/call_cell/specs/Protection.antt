-- What is taken and what is sent under the keys of a leg: SRTP (RFC 3711 section 3.3) and SRTCP (section 3.4). Which
-- packets were taken or protected before is a plain list of notes, latest first.
use Rattle.std.specs.Prelude.{ℕ, Bool, ◌==◌, List, map, Option, Some, None, Result, Ok, Err, filter, filter_map, is_some}
use Rattle.sdes_lines.specs.declared.crypto_line.Suite.{Suite}
use Rattle.rtp_packet.specs.declared.head.Half.{Half}
use Rattle.rtp_packet.specs.declared.head.Half.TheVariants.{Rtp, Rtcp}
use Rattle.rtp_packet.specs.Head.{rtp_head, rtcp_ssrc}
use Rattle.srtp_sources.specs.Notes.{Note}
use Rattle.srtp_keys.specs.declared.faults.UnprotectFault.{UnprotectFault}
use Rattle.srtp_keys.specs.declared.faults.UnprotectFault.TheVariants as opening_fault
use Rattle.srtp_keys.specs.declared.faults.ProtectFault.{ProtectFault}
use Rattle.srtp_keys.specs.declared.faults.ProtectFault.TheVariants as wrapping_fault
use Rattle.srtp_context.specs.InboundPackets as srtp
use Rattle.srtp_context.specs.OutboundPackets as srtp_out
use Rattle.srtcp_context.specs.InboundPackets as srtcp
use Rattle.srtcp_context.specs.OutboundPackets as srtcp_out
use Rattle.port_pool.specs.declared.holder.Holder.{Holder}
use Rattle.port_pool.specs.declared.signal.LegSignal.{LegSignal}
use Rattle.port_pool.specs.Signals.{NewKey, key_eq}
use Rattle.call_cell.specs.declared.outcome.Refused.{Refused}
use Rattle.call_cell.specs.declared.outcome.Refused.TheVariants as refused
use Rattle.call_cell.specs.declared.outcome.Lost.{Lost}
use Rattle.call_cell.specs.declared.outcome.Lost.TheVariants as lost
use Rattle.call_cell.specs.Cells.{CellEntry, Relayed, Shield, life, since_change, accepted_of, relayed}

-- The notes.

abbrev pub same_inbound : LegSignal → LegSignal → Bool
same_inbound earlier later = key_eq earlier.inbound later.inbound

-- the entries since the leg's inbound key or suite last changed
abbrev pub span : List CellEntry → Holder → List CellEntry
span h leg = since_change same_inbound leg (life h leg)

-- the notes of the packets that were accepted under the leg's inbound key in force
abbrev pub accepted : List CellEntry → Holder → List Note
accepted h leg = filter_map (λ r. r.deed.noted) (accepted_of (span h leg) leg)

abbrev pub shield_of_relay : Option Relayed → Option Shield
shield_of_relay None = None
shield_of_relay (Some r) = r.deed.shield

abbrev pub shield_of : CellEntry → Option Shield
shield_of e = shield_of_relay (relayed e)

-- the notes of the packets that were protected under the key of this number; no change of what is in force cuts this list
abbrev pub protected : List CellEntry → ℕ → List Note
protected h key = map (λ s. s.note) (filter (λ s. s.key == key) (filter_map shield_of h))

-- Opening.

-- a packet is refused; or it is taken, with what is noted under the key, as the plain packet
pub data Judged : Type 0 where
  Stopped : Refused → Judged
  Passed : Option Note → List ℕ → Judged

-- RTP and RTCP packets by their heads (RFC 3550)
abbrev pub is_packet : Half → List ℕ → Bool
is_packet Rtp bytes = is_some (rtp_head bytes)
is_packet Rtcp bytes = is_some (rtcp_ssrc bytes)

abbrev pub refused_by : UnprotectFault → Refused
refused_by opening_fault.Short = refused.Short
refused_by opening_fault.NotAuthentic = refused.NotAuthentic
refused_by opening_fault.TooOld = refused.TooOld
refused_by opening_fault.Replayed = refused.Replayed
refused_by opening_fault.TooManySources = refused.TooManySources

abbrev pub opened_rtp : Result srtp.Opened UnprotectFault → Judged
opened_rtp (Ok packet) = Passed (Some packet.note) packet.packet
opened_rtp (Err cause) = Stopped (refused_by cause)

abbrev pub opened_rtcp : Result srtcp.Opened UnprotectFault → Judged
opened_rtcp (Ok packet) = Passed (Some packet.note) packet.packet
opened_rtcp (Err cause) = Stopped (refused_by cause)

-- a packet under an inbound key, after these notes
unfoldable pub opened_under : List ℕ × Suite → List Note → Half → List ℕ → Judged
opened_under key notes Rtp bytes = opened_rtp (srtp.opening key.0 key.1 notes bytes)
opened_under key notes Rtcp bytes = opened_rtcp (srtcp.rtcp_opening key.0 notes bytes)

-- a packet where the leg has no inbound key is taken as it is
abbrev pub opened_by : Option (List ℕ × Suite) → List Note → Half → List ℕ → Judged
opened_by None notes kind bytes = Passed None bytes
opened_by (Some key) notes kind bytes = opened_under key notes kind bytes

-- Protecting.

-- a packet is held back; or it leaves with these bytes, and this is noted of it
pub data Departure : Type 0 where
  Held : Lost → Departure
  Leaves : Option Shield → List ℕ → Departure

abbrev pub lost_by : ProtectFault → Lost
lost_by wrapping_fault.TooOld = lost.OutTooOld
lost_by wrapping_fault.IndexUsed = lost.IndexUsed
lost_by wrapping_fault.TooManySources = lost.OutSources
lost_by wrapping_fault.KeySpent = lost.KeySpent

abbrev pub wrapped_rtp : ℕ → Result srtp_out.Wrapped ProtectFault → Departure
wrapped_rtp number (Ok packet) = Leaves (Some (record { key = number; note = packet.note })) packet.bytes
wrapped_rtp number (Err cause) = Held (lost_by cause)

abbrev pub wrapped_rtcp : ℕ → Result srtcp_out.Wrapped ProtectFault → Departure
wrapped_rtcp number (Ok packet) = Leaves (Some (record { key = number; note = packet.note })) packet.bytes
wrapped_rtcp number (Err cause) = Held (lost_by cause)

-- a packet under an outbound key, after these notes
unfoldable pub wrapped_under : NewKey → List Note → Half → List ℕ → Departure
wrapped_under key notes Rtp bytes = wrapped_rtp key.number (srtp_out.wrapping key.bytes key.suite notes bytes)
wrapped_under key notes Rtcp bytes = wrapped_rtcp key.number (srtcp_out.rtcp_wrapping key.bytes notes bytes)

-- under the key that a leg names; a key that the cell hasn't got protects nothing, and nothing leaves in its place
abbrev pub wrapped_with : Option NewKey → List Note → Half → List ℕ → Departure
wrapped_with None notes kind bytes = Held lost.KeySpent
wrapped_with (Some key) notes kind bytes = wrapped_under key notes kind bytes
