-- How a packet that is to be sent is judged: which answer comes in which case, and which
-- index it gets.
use Rattle.std.proofs.Common.{◌≡◌, ℕ, ◌<◌, ◌≤◌, Bool, true, false, List, Some, arith, sym, ◌∙◌, ap}
use Rattle.std.specs.Prelude.{◌^◌, nat_lt, Result, Ok, Err, if◌then◌else◌}
use Rattle.std.specs.Option.{option_map_or}
use Rattle.rtp_packet.specs.declared.head.Half.TheVariants.{Rtcp}
use Rattle.rtp_packet.specs.Head.{rtcp_ssrc}
use Rattle.srtp_keys.specs.declared.faults.ProtectFault.{ProtectFault}
use Rattle.srtp_keys.specs.declared.faults.ProtectFault.TheVariants as fault
use Rattle.srtp_sources.specs.Notes.{Note, has_room}
use Rattle.srtcp_context.specs.OutboundPackets.{next_index, sent_rtcp_index, rtcp_wrapped_at, rtcp_wrapping}
use Rattle.srtcp_context.proofs.Tallying.{less, not_less}

-- the answer by its first test, and by its second
by_count : ℕ → List Note → Bool → Result ℕ ProtectFault
by_count ssrc notes left = if left then Ok (next_index ssrc notes) else Err fault.KeySpent

by_room : List Note → ℕ → Bool → Result ℕ ProtectFault
by_room notes ssrc room =
    if room then by_count ssrc notes (nat_lt (next_index ssrc notes) (2 ^ 31)) else Err fault.TooManySources

pub no_room : (notes : List Note) (ssrc : ℕ) → has_room Rtcp ssrc notes ≡ false → Err fault.TooManySources ≡ sent_rtcp_index notes ssrc
unfolding sent_rtcp_index by_room by_count
no_room notes ssrc full = sym (ap (by_room notes ssrc) full)

pub spent : (notes : List Note) (ssrc next : ℕ) → has_room Rtcp ssrc notes ≡ true → next ≡ next_index ssrc notes → 2 ^ 31 ≤ next
    → Err fault.KeySpent ≡ sent_rtcp_index notes ssrc
unfolding sent_rtcp_index by_room by_count
spent notes ssrc next room is past =
    sym (ap (by_room notes ssrc) room ∙ ap (by_count ssrc notes) (not_less (next_index ssrc notes) (2 ^ 31) (omega (arith, is))))

pub counts_on : (notes : List Note) (ssrc next : ℕ) → has_room Rtcp ssrc notes ≡ true → next ≡ next_index ssrc notes → next < 2 ^ 31
    → Ok next ≡ sent_rtcp_index notes ssrc
unfolding sent_rtcp_index by_room by_count
counts_on notes ssrc next room is left =
    ap Ok is
    ∙ sym (ap (by_room notes ssrc) room ∙ ap (by_count ssrc notes) (less (next_index ssrc notes) (2 ^ 31) (omega (arith, is))))

pub wrapping_is : (master : List ℕ) (notes : List Note) (packet : List ℕ) (ssrc : ℕ) (sent : Result ℕ ProtectFault)
    → rtcp_ssrc packet ≡ Some ssrc → sent ≡ sent_rtcp_index notes ssrc
    → rtcp_wrapping master notes packet ≡ rtcp_wrapped_at master packet ssrc sent
unfolding rtcp_wrapping
wrapping_is master notes packet ssrc sent head is =
    ap (λ o. option_map_or (λ s. rtcp_wrapped_at master packet s (sent_rtcp_index notes s)) o (Err fault.TooManySources)) head
    ∙ ap (rtcp_wrapped_at master packet ssrc) (sym is)
