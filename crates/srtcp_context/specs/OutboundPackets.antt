-- How a packet that is to be sent is protected (RFC 3711, sections 3.4 and 9.2), by the notes of the packets that were
-- sent under its key.
use Rattle.std.specs.Prelude.{ℕ, ◌^◌, List, Result, Ok, Err, length, nat_lt, if◌then◌else◌}
use Rattle.std.specs.Option.{option_map_or}
use Rattle.rtp_packet.specs.declared.head.Half.TheVariants.{Rtcp}
use Rattle.rtp_packet.specs.Head.{rtcp_ssrc}
use Rattle.srtp_keys.specs.declared.faults.ProtectFault.{ProtectFault}
use Rattle.srtp_keys.specs.declared.faults.ProtectFault.TheVariants as fault
use Rattle.srtp_sources.specs.Notes.{Note, indices, has_room}
pub use Rattle.srtp_sources.specs.Judged.{Wrapped}
use Rattle.srtcp_context.specs.Packets.{protect_rtcp}

-- the index of a source's next packet: how many were sent before it
abbrev pub next_index : ℕ → List Note → ℕ
next_index ssrc notes = length (indices Rtcp ssrc notes)

-- that index, where the source is known or has room, and the index is below 2 ^ 31
unfoldable pub sent_rtcp_index : List Note → ℕ → Result ℕ ProtectFault
sent_rtcp_index notes ssrc =
    if has_room Rtcp ssrc notes
    then (if nat_lt (next_index ssrc notes) (2 ^ 31) then Ok (next_index ssrc notes) else Err fault.KeySpent)
    else Err fault.TooManySources

abbrev pub rtcp_wrapped_at : List ℕ → List ℕ → ℕ → Result ℕ ProtectFault → Result Wrapped ProtectFault
rtcp_wrapped_at master packet ssrc (Err cause) = Err cause
rtcp_wrapped_at master packet ssrc (Ok index) =
    Ok (record { note = record { half = Rtcp; ssrc = ssrc; index = index }; bytes = protect_rtcp master packet index })

-- what becomes of a packet that is to be sent (what is no RTCP packet is not sent)
unfoldable pub rtcp_wrapping : List ℕ → List Note → List ℕ → Result Wrapped ProtectFault
rtcp_wrapping master notes packet =
    option_map_or (λ ssrc. rtcp_wrapped_at master packet ssrc (sent_rtcp_index notes ssrc)) (rtcp_ssrc packet) (Err fault.TooManySources)
