-- The first packet that is protected under a key.
use Rattle.std.proofs.Common.{◌≡◌, ℕ, List, [], ◌++◌, length, take, Option, Some, None, true, false, refl, ap, sym, subst, ◌∙◌}
use Rattle.std.proofs.lemmas.List.{take_at}
use Rattle.std.specs.Prelude.{Result, Ok, Err, IsSome}
use Rattle.std.specs.Option.{option_map_or}
use Rattle.rtp_packet.specs.declared.head.Half.TheVariants.{Rtp}
use Rattle.rtp_packet.specs.declared.head.RtpHead.{RtpHead}
use Rattle.rtp_packet.specs.Head.{rtp_head}
use Rattle.sdes_lines.specs.declared.crypto_line.Suite.TheVariants.{Tag80}
use Rattle.replay_window.specs.Indices.{near, fresh}
use Rattle.srtp_keys.specs.declared.faults.ProtectFault.{ProtectFault}
use Rattle.srtp_keys.specs.declared.faults.ProtectFault.TheVariants as fault
use Rattle.srtp_sources.specs.Notes.{indices, sources, has_room}
use Rattle.srtp_sources.specs.Judged.{Sends}
use Rattle.srtp_context.specs.declared.outbound.OutRtp.{OutRtp}
use Rattle.srtp_context.specs.Packets.{protect}
use Rattle.srtp_context.specs.OutboundPackets.{Wrapped, sent_index, wrapped_at, wrapping}
use Rattle.srtp_context.specs.Contexts.{OutRtpFor, WrapsRtpTo}

-- its index is its sequence number
abbrev pub first_sealed : List ℕ → List ℕ → RtpHead → Wrapped
first_sealed master packet found = record {
  note = record { half = Rtp; ssrc = found.ssrc; index = found.seq };
  bytes = protect master Tag80 packet found.seq;
}

first_wraps : (master packet : List ℕ) (found : RtpHead) → rtp_head packet ≡ Some found
    → wrapping master Tag80 [] packet ≡ Ok (first_sealed master packet found)
unfolding wrapping sent_index near fresh indices sources has_room
first_wraps master packet found head =
    ap (λ o. option_map_or (λ h. wrapped_at master Tag80 packet h (sent_index [] h)) o (Err fault.TooOld)) head

pub first_sends : (master : List ℕ) (old new : OutRtp) (buf buf_new : List ℕ) (found : RtpHead) (result : Result (ℕ × ℕ) ProtectFault)
    → rtp_head (take 32 buf) ≡ Some found
    → WrapsRtpTo (wrapping master Tag80 [] (take 32 buf)) master Tag80 [] old new buf buf_new result
    → Sends (OutRtpFor master Tag80) [] (first_sealed master (take 32 buf) found) new buf buf_new result
first_sends master old new buf buf_new found result head wraps =
    subst (λ (o : Result Wrapped ProtectFault). WrapsRtpTo o master Tag80 [] old new buf buf_new result)
    (first_wraps master (take 32 buf) found head) wraps

abbrev pub size_of : Result (ℕ × ℕ) ProtectFault → ℕ
size_of (Ok sent) = sent.0
size_of (Err cause) = 0

pub front_is : (size : ℕ) (bytes rest new : List ℕ) → size ≡ length bytes → new ≡ bytes ++ rest → take size new ≡ bytes
front_is size bytes rest new long is = ap (take size) is ∙ take_at bytes rest size (sym long)

pub some_head : (o : Option RtpHead) → IsSome o → (found : RtpHead) × (o ≡ Some found)
some_head (Some found) some = (found, refl)
some_head None some = absurd (let bad : false ≡ true = some in cc)
