-- How a received packet is judged: which answer comes in which case.
use Rattle.std.proofs.Common.{◌≡◌, ℕ, ◌+◌, ◌<◌, ◌≤◌, Bool, true, false, List, length, take, Some, arith, sym, ◌∙◌, ap, length-take-le}
use Rattle.std.specs.Prelude.{Result, Err, nat_lt, if◌then◌else◌}
use Rattle.std.specs.Option.{option_map_or}
use Rattle.std.proofs.lemmas.Bool.Decides.{nat_tests}
use Rattle.rtp_packet.specs.declared.head.Half.TheVariants.{Rtp}
use Rattle.rtp_packet.specs.declared.head.RtpHead.{RtpHead}
use Rattle.rtp_packet.specs.Head.{rtp_head}
use Rattle.sdes_lines.specs.declared.crypto_line.Suite.{Suite}
use Rattle.replay_window.specs.declared.answers.Near.{Near}
use Rattle.replay_window.specs.declared.answers.Near.TheVariants.{At}
use Rattle.replay_window.specs.Indices.{near}
use Rattle.srtp_keys.specs.declared.faults.UnprotectFault.{UnprotectFault}
use Rattle.srtp_keys.specs.declared.faults.UnprotectFault.TheVariants as fault
use Rattle.srtp_sources.specs.Notes.{Note, indices}
use Rattle.srtp_sources.specs.Judged.{judged_index}
use Rattle.srtp_context.specs.Packets.{tag_size, is_authentic}
use Rattle.srtp_context.specs.InboundPackets.{index_near, taken_index, opened_at, opening}

less : (a b : ℕ) → a < b → nat_lt a b ≡ true
less a b is = grind (arith, nat_tests)

not_less : (a b : ℕ) → b ≤ a → nat_lt a b ≡ false
not_less a b is = grind (arith, nat_tests)

-- the answer by its first test
by_size : List ℕ → Suite → List Note → List ℕ → RtpHead → Bool → Result ℕ UnprotectFault
by_size master suite notes bytes found short =
    if short
    then Err fault.Short
    else index_near master suite found.ssrc notes bytes (near (indices Rtp found.ssrc notes) found.seq)

pub short : (master : List ℕ) (suite : Suite) (notes : List Note) (buf : List ℕ) (len : ℕ) (found : RtpHead) (size : ℕ)
    → len ≤ length buf → size ≡ tag_size suite → len < found.head + size
    → Err fault.Short ≡ taken_index master suite notes (take len buf) found
unfolding taken_index by_size
short master suite notes buf len found size held tag is =
    let whole : length (take len buf) ≡ len = length-take-le len buf held in
    sym (ap (by_size master suite notes (take len buf) found) (less (length (take len buf)) (found.head + tag_size suite) (omega arith)))

-- the packet is long enough: the answer is by the nearest index
pub long : (master : List ℕ) (suite : Suite) (notes : List Note) (buf : List ℕ) (len : ℕ) (found : RtpHead) (size source : ℕ) (nearest : Near)
    → len ≤ length buf → size ≡ tag_size suite → found.head + size ≤ len
    → source ≡ found.ssrc → nearest ≡ near (indices Rtp source notes) found.seq
    → index_near master suite found.ssrc notes (take len buf) nearest ≡ taken_index master suite notes (take len buf) found
unfolding taken_index by_size
long master suite notes buf len found size source nearest held tag is same at =
    let whole : length (take len buf) ≡ len = length-take-le len buf held in
    ap (index_near master suite found.ssrc notes (take len buf)) (at ∙ ap (λ s. near (indices Rtp s notes) found.seq) same)
    ∙ sym (ap (by_size master suite notes (take len buf) found) (not_less (length (take len buf)) (found.head + tag_size suite) (omega arith)))

pub not_authentic : (master : List ℕ) (suite : Suite) (ssrc : ℕ) (notes : List Note) (bytes : List ℕ) (index : ℕ)
    → is_authentic master suite bytes index ≡ false → Err fault.NotAuthentic ≡ index_near master suite ssrc notes bytes (At index)
not_authentic master suite ssrc notes bytes index not =
    sym (ap (λ t. if t then judged_index Rtp ssrc notes index else Err fault.NotAuthentic) not)

-- its tag is right for that index: the answer is that of its source
pub authentic : (master : List ℕ) (suite : Suite) (ssrc : ℕ) (notes : List Note) (bytes : List ℕ) (index source : ℕ)
    → is_authentic master suite bytes index ≡ true → source ≡ ssrc
    → judged_index Rtp source notes index ≡ index_near master suite ssrc notes bytes (At index)
authentic master suite ssrc notes bytes index source right same =
    ap (λ s. judged_index Rtp s notes index) same
    ∙ sym (ap (λ t. if t then judged_index Rtp ssrc notes index else Err fault.NotAuthentic) right)

pub opening_is : (master : List ℕ) (suite : Suite) (notes : List Note) (bytes : List ℕ) (found : RtpHead) (taken : Result ℕ UnprotectFault)
    → rtp_head bytes ≡ Some found → taken ≡ taken_index master suite notes bytes found
    → opening master suite notes bytes ≡ opened_at master suite bytes found taken
unfolding opening
opening_is master suite notes bytes found taken head is =
    ap (λ o. option_map_or (λ h. opened_at master suite bytes h (taken_index master suite notes bytes h)) o (Err fault.Short)) head
    ∙ ap (opened_at master suite bytes found) (sym is)
