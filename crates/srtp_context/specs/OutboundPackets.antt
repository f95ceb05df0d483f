-- How a packet that is to be sent is protected (RFC 3711, sections 3.3 and 9.2), by the notes of the packets that were
-- sent under its key.
use Rattle.std.specs.Prelude.{ℕ, List, Result, Ok, Err, if◌then◌else◌}
use Rattle.std.specs.Option.{option_map_or}
use Rattle.rtp_packet.specs.declared.head.Half.TheVariants.{Rtp}
use Rattle.rtp_packet.specs.declared.head.RtpHead.{RtpHead}
use Rattle.rtp_packet.specs.Head.{rtp_head}
use Rattle.sdes_lines.specs.declared.crypto_line.Suite.{Suite}
use Rattle.replay_window.specs.declared.answers.Near.{Near}
use Rattle.replay_window.specs.declared.answers.Near.TheVariants.{At, Below, Beyond}
use Rattle.replay_window.specs.declared.answers.Fresh.{Fresh}
use Rattle.replay_window.specs.declared.answers.Fresh.TheVariants.{Yes, TooOld, Used}
use Rattle.replay_window.specs.Indices.{near, fresh}
use Rattle.srtp_keys.specs.declared.faults.ProtectFault.{ProtectFault}
use Rattle.srtp_keys.specs.declared.faults.ProtectFault.TheVariants as fault
use Rattle.srtp_sources.specs.Notes.{Note, indices, has_room}
pub use Rattle.srtp_sources.specs.Judged.{Wrapped}
use Rattle.srtp_context.specs.Packets.{protect}

-- an index that wasn't used, where its source is known or has room
abbrev pub unused_index_by : ℕ → List Note → ℕ → Fresh → Result ℕ ProtectFault
unused_index_by ssrc notes index TooOld = Err fault.TooOld
unused_index_by ssrc notes index Used = Err fault.IndexUsed
unused_index_by ssrc notes index Yes = if has_room Rtp ssrc notes then Ok index else Err fault.TooManySources

-- the nearest index; before the first there is none, and past the last the key is spent
abbrev pub sent_index_near : ℕ → List Note → Near → Result ℕ ProtectFault
sent_index_near ssrc notes (At index) = unused_index_by ssrc notes index (fresh (indices Rtp ssrc notes) index)
sent_index_near ssrc notes Below = Err fault.TooOld
sent_index_near ssrc notes Beyond = Err fault.KeySpent

-- the index under which the packet is sent
unfoldable pub sent_index : List Note → RtpHead → Result ℕ ProtectFault
sent_index notes found = sent_index_near found.ssrc notes (near (indices Rtp found.ssrc notes) found.seq)

abbrev pub wrapped_at : List ℕ → Suite → List ℕ → RtpHead → Result ℕ ProtectFault → Result Wrapped ProtectFault
wrapped_at master suite packet found (Err cause) = Err cause
wrapped_at master suite packet found (Ok index) =
    Ok (record { note = record { half = Rtp; ssrc = found.ssrc; index = index }; bytes = protect master suite packet index })

-- what becomes of a packet that is to be sent (what is no RTP packet is not sent)
unfoldable pub wrapping : List ℕ → Suite → List Note → List ℕ → Result Wrapped ProtectFault
wrapping master suite notes packet =
    option_map_or (λ found. wrapped_at master suite packet found (sent_index notes found)) (rtp_head packet) (Err fault.TooOld)
