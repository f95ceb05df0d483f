-- How a packet that is to be sent is judged: which answer comes in which case.
use Rattle.std.proofs.Common.{◌≡◌, ℕ, Bool, List, Some, sym, ◌∙◌, ap}
use Rattle.std.specs.Prelude.{Result, Ok, Err, if◌then◌else◌}
use Rattle.std.specs.Option.{option_map_or}
use Rattle.rtp_packet.specs.declared.head.Half.TheVariants.{Rtp}
use Rattle.rtp_packet.specs.declared.head.RtpHead.{RtpHead}
use Rattle.rtp_packet.specs.Head.{rtp_head}
use Rattle.sdes_lines.specs.declared.crypto_line.Suite.{Suite}
use Rattle.replay_window.specs.declared.answers.Near.{Near}
use Rattle.replay_window.specs.declared.answers.Near.TheVariants.{At}
use Rattle.replay_window.specs.declared.answers.Fresh.{Fresh}
use Rattle.replay_window.specs.declared.answers.Fresh.TheVariants.{Yes}
use Rattle.replay_window.specs.Indices.{near, fresh}
use Rattle.srtp_keys.specs.declared.faults.ProtectFault.{ProtectFault}
use Rattle.srtp_keys.specs.declared.faults.ProtectFault.TheVariants as fault
use Rattle.srtp_sources.specs.Notes.{Note, indices, has_room}
use Rattle.srtp_context.specs.OutboundPackets.{unused_index_by, sent_index_near, sent_index, wrapped_at, wrapping}

pub near_is : (notes : List Note) (found : RtpHead) (source : ℕ) (nearest : Near)
    → source ≡ found.ssrc → nearest ≡ near (indices Rtp source notes) found.seq
    → sent_index_near found.ssrc notes nearest ≡ sent_index notes found
unfolding sent_index
near_is notes found source nearest same at =
    ap (sent_index_near found.ssrc notes) (at ∙ ap (λ s. near (indices Rtp s notes) found.seq) same)

-- there is a nearest index: the answer is by the window
pub at_index : (notes : List Note) (found : RtpHead) (source index : ℕ) (answer : Fresh)
    → source ≡ found.ssrc → At index ≡ near (indices Rtp source notes) found.seq → answer ≡ fresh (indices Rtp source notes) index
    → unused_index_by found.ssrc notes index answer ≡ sent_index notes found
at_index notes found source index answer same at is =
    ap (unused_index_by found.ssrc notes index) (is ∙ ap (λ s. fresh (indices Rtp s notes) index) same)
    ∙ near_is notes found source (At index) same at

-- the window allows the index: the answer is by the room
pub fresh_by : (ssrc : ℕ) (notes : List Note) (index source : ℕ) (room : Bool) → source ≡ ssrc → room ≡ has_room Rtp source notes
    → ◌≡◌ {A = Result ℕ ProtectFault} (if room then Ok index else Err fault.TooManySources) (unused_index_by ssrc notes index Yes)
fresh_by ssrc notes index source room same is =
    ap (λ t. if t then Ok index else Err fault.TooManySources) (is ∙ ap (λ s. has_room Rtp s notes) same)

pub wrapping_is : (master : List ℕ) (suite : Suite) (notes : List Note) (packet : List ℕ) (found : RtpHead) (sent : Result ℕ ProtectFault)
    → rtp_head packet ≡ Some found → sent ≡ sent_index notes found
    → wrapping master suite notes packet ≡ wrapped_at master suite packet found sent
unfolding wrapping
wrapping_is master suite notes packet found sent head is =
    ap (λ o. option_map_or (λ h. wrapped_at master suite packet h (sent_index notes h)) o (Err fault.TooOld)) head
    ∙ ap (wrapped_at master suite packet found) (sym is)
