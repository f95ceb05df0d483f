-- How a received packet is judged (RFC 3711, sections 3.3 and 3.4), by the notes of the packets that were taken under its
-- key.
use Rattle.std.specs.Prelude.{ℕ, List, length, Result, Ok, Err, nat_lt, if◌then◌else◌}
use Rattle.std.specs.Option.{option_map_or}
use Rattle.rtp_packet.specs.declared.head.Half.TheVariants.{Rtcp}
use Rattle.rtp_packet.specs.Head.{rtcp_ssrc}
use Rattle.srtp_keys.specs.declared.faults.UnprotectFault.{UnprotectFault}
use Rattle.srtp_keys.specs.declared.faults.UnprotectFault.TheVariants as fault
use Rattle.srtp_sources.specs.Notes.{Note}
pub use Rattle.srtp_sources.specs.Judged.{Opened, index_by, judged_index}
use Rattle.srtcp_context.specs.Packets.{is_rtcp_authentic, carried_index, opened_srtcp}

-- the index under which the packet is taken: the carried one, where the packet is no shorter than 22 bytes and authentic
unfoldable pub taken_rtcp_index : List ℕ → List Note → List ℕ → ℕ → Result ℕ UnprotectFault
taken_rtcp_index master notes bytes ssrc =
    if nat_lt (length bytes) 22
    then Err fault.Short
    else (if is_rtcp_authentic master bytes then judged_index Rtcp ssrc notes (carried_index bytes) else Err fault.NotAuthentic)

abbrev pub rtcp_opened_at : List ℕ → List ℕ → ℕ → Result ℕ UnprotectFault → Result Opened UnprotectFault
rtcp_opened_at master bytes ssrc (Err cause) = Err cause
rtcp_opened_at master bytes ssrc (Ok index) =
    Ok (record { note = record { half = Rtcp; ssrc = ssrc; index = index }; packet = opened_srtcp master bytes })

-- what becomes of a received packet (what is no RTCP packet is too short to be one)
unfoldable pub rtcp_opening : List ℕ → List Note → List ℕ → Result Opened UnprotectFault
rtcp_opening master notes bytes =
    option_map_or (λ ssrc. rtcp_opened_at master bytes ssrc (taken_rtcp_index master notes bytes ssrc)) (rtcp_ssrc bytes) (Err fault.Short)
