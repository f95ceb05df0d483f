-- How a received packet is judged (RFC 3711, section 3.3), by the notes of the packets that were taken under its key.
use Rattle.std.specs.Prelude.{ℕ, ◌+◌, List, length, Result, Ok, Err, nat_lt, if◌then◌else◌}
use Rattle.std.specs.Option.{option_map_or}
use Rattle.rtp_packet.specs.declared.head.Half.TheVariants.{Rtp}
use Rattle.rtp_packet.specs.declared.head.RtpHead.{RtpHead}
use Rattle.rtp_packet.specs.Head.{rtp_head}
use Rattle.sdes_lines.specs.declared.crypto_line.Suite.{Suite}
use Rattle.replay_window.specs.declared.answers.Near.{Near}
use Rattle.replay_window.specs.declared.answers.Near.TheVariants.{At, Below, Beyond}
use Rattle.replay_window.specs.Indices.{near}
use Rattle.srtp_keys.specs.declared.faults.UnprotectFault.{UnprotectFault}
use Rattle.srtp_keys.specs.declared.faults.UnprotectFault.TheVariants as fault
use Rattle.srtp_sources.specs.Notes.{Note, indices}
pub use Rattle.srtp_sources.specs.Judged.{Opened, index_by, judged_index}
use Rattle.srtp_context.specs.Packets.{tag_size, is_authentic, opened}

-- the nearest index, where the tag is right for it
abbrev pub index_near : List ℕ → Suite → ℕ → List Note → List ℕ → Near → Result ℕ UnprotectFault
index_near master suite ssrc notes bytes (At index) =
    if is_authentic master suite bytes index then judged_index Rtp ssrc notes index else Err fault.NotAuthentic
index_near master suite ssrc notes bytes Below = Err fault.TooOld
index_near master suite ssrc notes bytes Beyond = Err fault.TooOld

-- the index under which the packet is taken
unfoldable pub taken_index : List ℕ → Suite → List Note → List ℕ → RtpHead → Result ℕ UnprotectFault
taken_index master suite notes bytes found =
    if nat_lt (length bytes) (found.head + tag_size suite)
    then Err fault.Short
    else index_near master suite found.ssrc notes bytes (near (indices Rtp found.ssrc notes) found.seq)

abbrev pub opened_at : List ℕ → Suite → List ℕ → RtpHead → Result ℕ UnprotectFault → Result Opened UnprotectFault
opened_at master suite bytes found (Err cause) = Err cause
opened_at master suite bytes found (Ok index) =
    Ok (record { note = record { half = Rtp; ssrc = found.ssrc; index = index }; packet = opened master suite bytes index })

-- what becomes of a received packet (what is no RTP packet is too short to be one)
unfoldable pub opening : List ℕ → Suite → List Note → List ℕ → Result Opened UnprotectFault
opening master suite notes bytes =
    option_map_or (λ found. opened_at master suite bytes found (taken_index master suite notes bytes found)) (rtp_head bytes)
    (Err fault.Short)
