-- How a received packet is judged: which answer comes in which case.
use Rattle.std.proofs.Common.{◌≡◌, ℕ, ◌<◌, ◌≤◌, Bool, true, false, List, length, take, Some, arith, sym, ◌∙◌, ap, length-take-le}
use Rattle.std.specs.Prelude.{Result, Err, nat_lt, if◌then◌else◌}
use Rattle.std.specs.Option.{option_map_or}
use Rattle.std.proofs.lemmas.Bool.Decides.{nat_tests}
use Rattle.rtp_packet.specs.declared.head.Half.TheVariants.{Rtcp}
use Rattle.rtp_packet.specs.Head.{rtcp_ssrc}
use Rattle.srtp_keys.specs.declared.faults.UnprotectFault.{UnprotectFault}
use Rattle.srtp_keys.specs.declared.faults.UnprotectFault.TheVariants as fault
use Rattle.srtp_sources.specs.Notes.{Note}
use Rattle.srtp_sources.specs.Judged.{judged_index}
use Rattle.srtcp_context.specs.Packets.{is_rtcp_authentic, carried_index}
use Rattle.srtcp_context.specs.InboundPackets.{taken_rtcp_index, rtcp_opened_at, rtcp_opening}

less : (a b : ℕ) → a < b → nat_lt a b ≡ true
less a b is = grind (arith, nat_tests)

not_less : (a b : ℕ) → b ≤ a → nat_lt a b ≡ false
not_less a b is = grind (arith, nat_tests)

-- the answer by its first test, and by its second
by_tag : List Note → List ℕ → ℕ → Bool → Result ℕ UnprotectFault
by_tag notes bytes ssrc right =
    if right then judged_index Rtcp ssrc notes (carried_index bytes) else Err fault.NotAuthentic

by_size : List ℕ → List Note → List ℕ → ℕ → Bool → Result ℕ UnprotectFault
by_size master notes bytes ssrc short =
    if short then Err fault.Short else by_tag notes bytes ssrc (is_rtcp_authentic master bytes)

pub short : (master : List ℕ) (notes : List Note) (buf : List ℕ) (len ssrc : ℕ) → len ≤ length buf → len < 22
    → Err fault.Short ≡ taken_rtcp_index master notes (take len buf) ssrc
unfolding taken_rtcp_index by_size by_tag
short master notes buf len ssrc held is =
    let whole : length (take len buf) ≡ len = length-take-le len buf held in
    sym (ap (by_size master notes (take len buf) ssrc) (less (length (take len buf)) 22 (omega arith)))

pub not_authentic : (master : List ℕ) (notes : List Note) (buf : List ℕ) (len ssrc : ℕ) → len ≤ length buf → 22 ≤ len
    → is_rtcp_authentic master (take len buf) ≡ false → Err fault.NotAuthentic ≡ taken_rtcp_index master notes (take len buf) ssrc
unfolding taken_rtcp_index by_size by_tag
not_authentic master notes buf len ssrc held long wrong =
    let whole : length (take len buf) ≡ len = length-take-le len buf held in
    sym (ap (by_size master notes (take len buf) ssrc) (not_less (length (take len buf)) 22 (omega arith))
    ∙ ap (by_tag notes (take len buf) ssrc) wrong)

-- the packet is long enough and its tag is right: the answer is that of its source
pub authentic : (master : List ℕ) (notes : List Note) (buf : List ℕ) (len ssrc index : ℕ) → len ≤ length buf → 22 ≤ len
    → is_rtcp_authentic master (take len buf) ≡ true → index ≡ carried_index (take len buf)
    → judged_index Rtcp ssrc notes index ≡ taken_rtcp_index master notes (take len buf) ssrc
unfolding taken_rtcp_index by_size by_tag
authentic master notes buf len ssrc index held long right is =
    let whole : length (take len buf) ≡ len = length-take-le len buf held in
    ap (judged_index Rtcp ssrc notes) is
    ∙ sym (ap (by_size master notes (take len buf) ssrc) (not_less (length (take len buf)) 22 (omega arith))
    ∙ ap (by_tag notes (take len buf) ssrc) right)

pub opening_is : (master : List ℕ) (notes : List Note) (bytes : List ℕ) (ssrc : ℕ) (taken : Result ℕ UnprotectFault)
    → rtcp_ssrc bytes ≡ Some ssrc → taken ≡ taken_rtcp_index master notes bytes ssrc
    → rtcp_opening master notes bytes ≡ rtcp_opened_at master bytes ssrc taken
unfolding rtcp_opening
opening_is master notes bytes ssrc taken head is =
    ap (λ o. option_map_or (λ s. rtcp_opened_at master bytes s (taken_rtcp_index master notes bytes s)) o (Err fault.Short)) head
    ∙ ap (rtcp_opened_at master bytes ssrc) (sym is)
