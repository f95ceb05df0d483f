-- What a caller needs of a head that was found: it lies within the packet, and it is read from the packet's front alone.
use Rattle.std.proofs.Common.{◌≡◌, ℕ, ◌+◌, ◌<◌, ◌≤◌, Bool, true, false, List, length, take, Some, None, get_or, arith, sym, ◌∙◌, ap, refl}
use Rattle.std.specs.Prelude.{◌==◌, slice_index, if◌then◌else◌, ◌*◌, ◌/◌, ◌%◌}
use Rattle.std.proofs.lemmas.Option.{cond_some}
use Rattle.std.proofs.lemmas.Bool.Decides.{nat_tests}
use Rattle.std.proofs.lemmas.List.{get_or-take}
use Rattle.rtp_packet.specs.declared.head.RtpHead.{RtpHead}
use Rattle.rtp_packet.specs.Head.{rtp_head, rtcp_ssrc, head_size, is_rtp, is_rtcp, version, u16_at, u32_at, sources_end, extension_size, has_extension}

pub record Within (packet : List ℕ) (found : RtpHead) : Type 0 where
  pub fixed : 12 ≤ found.head
  pub held : found.head ≤ length packet

held_if : (packet : List ℕ) → is_rtp packet ≡ true → head_size packet ≤ length packet
held_if packet is = grind (arith, nat_tests)

pub rtp_head-within : (packet : List ℕ) (found : RtpHead) → rtp_head packet ≡ Some found → Within packet found
unfolding rtp_head
rtp_head-within packet found is =
    let both = cond_some (is_rtp packet) _ found is in
    let size : head_size packet ≡ found.head = ap (λ h. h.head) both.1 in
    record { fixed = omega (arith, size); held = omega (arith, size, held_if packet both.0) }

-- two texts of bytes with the same front of `size` bytes
SameFront : List ℕ → List ℕ → ℕ → Type 0
SameFront packet other size = (k : ℕ) → k < size → slice_index other k ≡ slice_index packet k

same_front : (packet other : List ℕ) (size : ℕ) → take size other ≡ take size packet → SameFront packet other size
unfolding SameFront
same_front packet other size is k below =
    sym (get_or-take size other k 0 below) ∙ ap (λ l. get_or l k 0) is ∙ get_or-take size packet k 0 below

same_u16 : (packet other : List ℕ) (size place : ℕ) → SameFront packet other size → place + 2 ≤ size
    → u16_at other place ≡ u16_at packet place
unfolding SameFront
same_u16 packet other size place same held = omega (arith, same place (omega arith), same (place + 1) (omega arith))

same_u32 : (packet other : List ℕ) (size place : ℕ) → SameFront packet other size → place + 4 ≤ size
    → u32_at other place ≡ u32_at packet place
same_u32 packet other size place same held =
    omega (arith, same_u16 packet other size place same (omega arith), same_u16 packet other size (place + 2) same (omega arith))

-- the size of a head, by its first byte and the size of the extension that may stand at a place
size_by : ℕ → (ℕ → ℕ) → ℕ
size_by first extension = 12 + 4 * (first % 16) + (if first / 16 % 2 == 1 then extension (12 + 4 * (first % 16)) else 0)

same_choice : (choice : Bool) (start one other : ℕ) → (choice ≡ true → other ≡ one)
    → start + (if choice then other else 0) ≡ start + (if choice then one else 0)
same_choice true start one other same = ap (λ n. start + n) (same refl)
same_choice false start one other same = refl

extension_held : (choice : Bool) (start words size : ℕ) → start + (if choice then 4 + words else 0) ≡ size → choice ≡ true
    → start + 4 ≤ size
extension_held true start words size is _ = omega arith
extension_held false start words size is not = cc

same_size : (packet other : List ℕ) → SameFront packet other (head_size packet) → head_size other ≡ head_size packet
unfolding SameFront size_by
same_size packet other same =
    let first : slice_index other 0 ≡ slice_index packet 0 = same 0 (omega arith) in
    let place = sources_end packet in
    ap (λ b. size_by b (extension_size other)) first
    ∙ same_choice (has_extension packet) place (extension_size packet place) (extension_size other place)
    (λ extended. ap (λ n. 4 + 4 * n) (same_u16 packet other (head_size packet) (place + 2) same
    (omega (arith, extension_held (has_extension packet) place (4 * u16_at packet (place + 2)) (head_size packet) refl extended))))

is_rtp_if : (packet : List ℕ) → version packet ≡ 2 → head_size packet ≤ length packet → is_rtp packet ≡ true
is_rtp_if packet two held = grind (arith, nat_tests)

version_if : (packet : List ℕ) → is_rtp packet ≡ true → version packet ≡ 2
version_if packet is = grind (arith, nat_tests)

same_head : (ssrc ssrc' seq seq' head head' : ℕ) → ssrc ≡ ssrc' → seq ≡ seq' → head ≡ head'
    → ◌≡◌ {A = RtpHead} (record { ssrc = ssrc; seq = seq; head = head }) (record { ssrc = ssrc'; seq = seq'; head = head' })
same_head ssrc ssrc' seq seq' head head' one two three = cc

pub rtp_head-front : (packet other : List ℕ) (found : RtpHead) → rtp_head packet ≡ Some found
    → take found.head other ≡ take found.head packet → found.head ≤ length other → rtp_head other ≡ Some found
unfolding rtp_head SameFront
rtp_head-front packet other found is front held =
    let both = cond_some (is_rtp packet) _ found is in
    let size : head_size packet ≡ found.head = ap (λ h. h.head) both.1 in
    let equal : take (head_size packet) other ≡ take (head_size packet) packet = rw size front in
    let same = same_front packet other (head_size packet) equal in
    let sizes = same_size packet other same in
    let fixed : 12 ≤ head_size packet = omega arith in
    let two : version other ≡ 2 = ap (λ b. b / 64) (same 0 (omega arith)) ∙ version_if packet both.0 in
    let test : is_rtp other ≡ true = is_rtp_if other two (omega (arith, sizes, size)) in
    ap (λ b. if b then Some (record { ssrc = u32_at other 8; seq = u16_at other 2; head = head_size other }) else None) test
    ∙ ap Some (same_head _ _ _ _ _ _ (same_u32 packet other (head_size packet) 8 same (omega arith))
    (same_u16 packet other (head_size packet) 2 same (omega arith)) sizes ∙ both.1)

-- the SSRC of an RTCP packet is read from its first 8 bytes
is_rtcp_if : (packet other : List ℕ) → SameFront packet other 8 → 8 ≤ length other → is_rtcp packet ≡ true → is_rtcp other ≡ true
unfolding SameFront
is_rtcp_if packet other same held is =
    let first = same 0 (omega arith) in
    let second = same 1 (omega arith) in
    rw first (rw second (grind (arith, nat_tests)))

pub record HoldsControl (packet : List ℕ) : Type 0 where
  pub held : 8 ≤ length packet

pub rtcp_ssrc-within : (packet : List ℕ) (ssrc : ℕ) → rtcp_ssrc packet ≡ Some ssrc → HoldsControl packet
unfolding rtcp_ssrc
rtcp_ssrc-within packet ssrc is = record { held = long_if packet (cond_some (is_rtcp packet) _ ssrc is).0 }
  where
    long_if : (packet : List ℕ) → is_rtcp packet ≡ true → 8 ≤ length packet
    long_if packet is = grind (arith, nat_tests)

pub rtcp_ssrc-front : (packet other : List ℕ) (ssrc : ℕ) → rtcp_ssrc packet ≡ Some ssrc
    → take 8 other ≡ take 8 packet → 8 ≤ length other → rtcp_ssrc other ≡ Some ssrc
unfolding rtcp_ssrc
rtcp_ssrc-front packet other ssrc is front held =
    let both = cond_some (is_rtcp packet) _ ssrc is in
    let same = same_front packet other 8 front in
    ap (λ b. if b then Some (u32_at other 4) else None) (is_rtcp_if packet other same held both.0)
    ∙ ap Some (same_u32 packet other 8 4 same (omega arith) ∙ both.1)
