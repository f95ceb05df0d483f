-- A packet that was taken has the head of the received one: what is protected after it, is of the same source and sequence
-- number.
use Rattle.std.proofs.Common.{◌≡◌, refl, ap, subst, sym, ◌∙◌, ℕ, ◌+◌, ◌-◌, ◌≤◌, List, [], ◌++◌, Bool, true, false, cond, Option, Some, None, Result, Ok, Err, length, take, drop, arith, length-append, length-take-le, take-append-drop, take_at}
use Rattle.std.specs.Prelude.{nat_lt, not, is_some}
use Rattle.std.specs.Option.{option_map_or}
use Rattle.std.proofs.lemmas.Bool.{ltb-false}
use Rattle.std.proofs.lemmas.List.{take-append-le}
use Rattle.relay_outside.specs.declared.address.Addr.{Addr}
use Rattle.rtp_packet.specs.declared.head.Half.{Half}
use Rattle.rtp_packet.specs.declared.head.Half.TheVariants.{Rtp, Rtcp}
use Rattle.rtp_packet.specs.declared.head.RtpHead.{RtpHead}
use Rattle.rtp_packet.specs.Head.{rtp_head, rtcp_ssrc}
use Rattle.rtp_packet.proofs.HeadLemmas.{rtp_head-front, rtcp_ssrc-front}
use Rattle.sdes_lines.specs.declared.crypto_line.Suite.{Suite}
use Rattle.replay_window.specs.Indices.{near, fresh}
use Rattle.srtp_keys.specs.declared.faults.UnprotectFault.{UnprotectFault}
use Rattle.srtp_keys.specs.declared.faults.UnprotectFault.TheVariants as fault
use Rattle.srtp_sources.specs.Notes.{Note, indices}
use Rattle.srtp_context.specs.Packets as srtp
use Rattle.srtp_context.specs.InboundPackets as srtp_in
use Rattle.srtcp_context.specs.Packets as srtcp
use Rattle.srtcp_context.specs.InboundPackets as srtcp_in
use Rattle.port_pool.specs.declared.signal.LegSignal.{LegSignal}
use Rattle.call_cell.specs.declared.outcome.Refused.TheVariants as refused
use Rattle.call_cell.specs.Protection.{Judged, Stopped, Passed, is_packet, opened_rtp, opened_rtcp, opened_under, opened_by}
use Rattle.endpoint_learn.specs.Lessons.{is_wrong_source}
use Rattle.call_cell.specs.Deeds.{judged_leg}

-- the front of a front
take-take : (n m : ℕ) (xs : List ℕ) → n ≤ m → m ≤ length xs → take n (take m xs) ≡ take n xs
take-take n m xs small held =
    let front : length (take m xs) ≡ m = length-take-le m xs held in
    sym (take-append-le n (take m xs) (drop m xs) (omega (arith, front)))
    ∙ ap (λ (l : List ℕ). take n l) (take-append-drop m xs)

-- a list that begins with the front of a list's front
abbrev begins_with : ℕ → ℕ → List ℕ → List ℕ → List ℕ
begins_with n m xs rest = take n (take m xs) ++ rest

record Front (n : ℕ) (xs ys : List ℕ) : Type 0 where
  same : take n ys ≡ take n xs
  held : n ≤ length ys

front_of : (n m : ℕ) (xs rest : List ℕ) → n ≤ m → m ≤ length xs → Front n xs (begins_with n m xs rest)
front_of n m xs rest small held =
    let size : length (take m xs) ≡ m = length-take-le m xs held in
    let front : length (take n (take m xs)) ≡ n = length-take-le n (take m xs) (omega (arith, size)) in
    record {
      same = take_at (take n (take m xs)) rest n front ∙ take-take n m xs small held;
      held = omega (arith, length-append (take n (take m xs)) rest, front);
    }

-- RTP

ciphered_front : (master : List ℕ) (found : RtpHead) (index m : ℕ) (xs : List ℕ) → found.head ≤ m → m ≤ length xs
    → Front found.head xs (srtp.ciphered master found index (take m xs))
unfolding srtp.ciphered
ciphered_front master found index m xs small held =
    front_of found.head m xs _ small held

opened_front : (master : List ℕ) (suite : Suite) (bytes : List ℕ) (index : ℕ) (found : RtpHead) → rtp_head bytes ≡ Some found
    → found.head + srtp.tag_size suite ≤ length bytes → rtp_head (srtp.opened master suite bytes index) ≡ Some found
unfolding srtp.opened
opened_front master suite bytes index found is long =
    let whole : option_map_or (λ (h : RtpHead). srtp.ciphered master h index (srtp.body suite bytes)) (rtp_head bytes) []
    ≡ srtp.ciphered master found index (srtp.body suite bytes)
    = ap (λ (o : Option RtpHead). option_map_or (λ (h : RtpHead). srtp.ciphered master h index (srtp.body suite bytes)) o []) is in
    let tag = srtp.tag_size suite in
    let front = ciphered_front master found index (length bytes - tag) bytes (omega (arith, long)) (omega arith) in
    subst (λ (l : List ℕ). rtp_head l ≡ Some found) (sym whole)
    (rtp_head-front bytes (srtp.ciphered master found index (srtp.body suite bytes)) found is front.same front.held)

long_case : (short : Bool) (rest : Result ℕ UnprotectFault) (index : ℕ) → cond short (Err fault.Short) rest ≡ Ok index → short ≡ false
long_case true rest index q = absurd (let e = q in cc)
long_case false rest index q = refl

long_enough : (master : List ℕ) (suite : Suite) (notes : List Note) (bytes : List ℕ) (found : RtpHead) (index : ℕ)
    → srtp_in.taken_index master suite notes bytes found ≡ Ok index → found.head + srtp.tag_size suite ≤ length bytes
unfolding srtp_in.taken_index
long_enough master suite notes bytes found index q =
    ltb-false (length bytes) (found.head + srtp.tag_size suite)
    (long_case (nat_lt (length bytes) (found.head + srtp.tag_size suite))
    (srtp_in.index_near master suite found.ssrc notes bytes (near (indices Rtp found.ssrc notes) found.seq)) index q)

at_case : (master : List ℕ) (suite : Suite) (notes : List Note) (bytes : List ℕ) (found : RtpHead) → rtp_head bytes ≡ Some found
    → (r : Result ℕ UnprotectFault) → srtp_in.taken_index master suite notes bytes found ≡ r → (w : srtp_in.Opened)
    → srtp_in.opened_at master suite bytes found r ≡ Ok w → rtp_head w.packet ≡ Some found
at_case master suite notes bytes found is (Err cause) e w q = absurd (let f = q in cc)
at_case master suite notes bytes found is (Ok index) e w q =
    let f = q in
    let is_it : srtp.opened master suite bytes index ≡ w.packet = cc in
    subst (λ (l : List ℕ). rtp_head l ≡ Some found) is_it
    (opened_front master suite bytes index found is (long_enough master suite notes bytes found index e))

head_case : (master : List ℕ) (suite : Suite) (notes : List Note) (bytes : List ℕ) (o : Option RtpHead) → rtp_head bytes ≡ o → (w : srtp_in.Opened)
    → option_map_or (λ (found : RtpHead). srtp_in.opened_at master suite bytes found (srtp_in.taken_index master suite notes bytes found)) o (Err fault.Short) ≡ Ok w
    → rtp_head w.packet ≡ o
head_case master suite notes bytes None e w q = absurd (let f = q in cc)
head_case master suite notes bytes (Some found) e w q =
    at_case master suite notes bytes found e (srtp_in.taken_index master suite notes bytes found) refl w q

pub rtp_plain : (master : List ℕ) (suite : Suite) (notes : List Note) (bytes : List ℕ) (w : srtp_in.Opened)
    → srtp_in.opening master suite notes bytes ≡ Ok w → rtp_head w.packet ≡ rtp_head bytes
unfolding srtp_in.opening
rtp_plain master suite notes bytes w q = head_case master suite notes bytes (rtp_head bytes) refl w q

-- RTCP

ciphered_control : (master : List ℕ) (ssrc index m : ℕ) (xs : List ℕ) → 8 ≤ m → m ≤ length xs
    → Front 8 xs (srtcp.rtcp_ciphered master ssrc index (take m xs))
unfolding srtcp.rtcp_ciphered
ciphered_control master ssrc index m xs small held =
    front_of 8 m xs _ small held

body_control : (m : ℕ) (xs : List ℕ) → 8 ≤ m → m ≤ length xs → Front 8 xs (take m xs)
body_control m xs small held =
    let size : length (take m xs) ≡ m = length-take-le m xs held in
    record { same = take-take 8 m xs small held; held = omega (arith, size) }

-- enciphered or not
either_front : (xs a b : List ℕ) (enciphered : Bool) → Front 8 xs a → Front 8 xs b → Front 8 xs (cond enciphered a b)
either_front xs a b true f g = f
either_front xs a b false f g = g

opened_control : (master : List ℕ) (bytes : List ℕ) (ssrc : ℕ) → rtcp_ssrc bytes ≡ Some ssrc → 22 ≤ length bytes
    → rtcp_ssrc (srtcp.opened_srtcp master bytes) ≡ Some ssrc
unfolding srtcp.opened_srtcp
opened_control master bytes ssrc is long =
    let whole : option_map_or (λ (s : ℕ). cond (srtcp.is_enciphered bytes) (srtcp.rtcp_ciphered master s (srtcp.carried_index bytes) (srtcp.rtcp_body bytes)) (srtcp.rtcp_body bytes)) (rtcp_ssrc bytes) []
    ≡ cond (srtcp.is_enciphered bytes) (srtcp.rtcp_ciphered master ssrc (srtcp.carried_index bytes) (srtcp.rtcp_body bytes)) (srtcp.rtcp_body bytes)
    = ap (λ (o : Option ℕ). option_map_or (λ (s : ℕ). cond (srtcp.is_enciphered bytes) (srtcp.rtcp_ciphered master s (srtcp.carried_index bytes) (srtcp.rtcp_body bytes)) (srtcp.rtcp_body bytes)) o []) is in
    let front = either_front bytes (srtcp.rtcp_ciphered master ssrc (srtcp.carried_index bytes) (srtcp.rtcp_body bytes)) (srtcp.rtcp_body bytes) (srtcp.is_enciphered bytes)
    (ciphered_control master ssrc (srtcp.carried_index bytes) (length bytes - 14) bytes (omega (arith, long)) (omega arith))
    (body_control (length bytes - 14) bytes (omega (arith, long)) (omega arith)) in
    subst (λ (l : List ℕ). rtcp_ssrc l ≡ Some ssrc) (sym whole)
    (rtcp_ssrc-front bytes (cond (srtcp.is_enciphered bytes) (srtcp.rtcp_ciphered master ssrc (srtcp.carried_index bytes) (srtcp.rtcp_body bytes)) (srtcp.rtcp_body bytes)) ssrc is front.same front.held)

long_control : (master : List ℕ) (notes : List Note) (bytes : List ℕ) (ssrc index : ℕ)
    → srtcp_in.taken_rtcp_index master notes bytes ssrc ≡ Ok index → 22 ≤ length bytes
unfolding srtcp_in.taken_rtcp_index
long_control master notes bytes ssrc index q =
    ltb-false (length bytes) 22
    (long_case (nat_lt (length bytes) 22)
    (cond (srtcp.is_rtcp_authentic master bytes) (srtcp_in.index_by Rtcp ssrc notes (srtcp.carried_index bytes) (fresh (indices Rtcp ssrc notes) (srtcp.carried_index bytes))) (Err fault.NotAuthentic))
    index q)

at_control : (master : List ℕ) (notes : List Note) (bytes : List ℕ) (ssrc : ℕ) → rtcp_ssrc bytes ≡ Some ssrc
    → (r : Result ℕ UnprotectFault) → srtcp_in.taken_rtcp_index master notes bytes ssrc ≡ r → (w : srtcp_in.Opened)
    → srtcp_in.rtcp_opened_at master bytes ssrc r ≡ Ok w → rtcp_ssrc w.packet ≡ Some ssrc
at_control master notes bytes ssrc is (Err cause) e w q = absurd (let f = q in cc)
at_control master notes bytes ssrc is (Ok index) e w q =
    let f = q in
    let is_it : srtcp.opened_srtcp master bytes ≡ w.packet = cc in
    subst (λ (l : List ℕ). rtcp_ssrc l ≡ Some ssrc) is_it (opened_control master bytes ssrc is (long_control master notes bytes ssrc index e))

ssrc_case : (master : List ℕ) (notes : List Note) (bytes : List ℕ) (o : Option ℕ) → rtcp_ssrc bytes ≡ o → (w : srtcp_in.Opened)
    → option_map_or (λ (ssrc : ℕ). srtcp_in.rtcp_opened_at master bytes ssrc (srtcp_in.taken_rtcp_index master notes bytes ssrc)) o (Err fault.Short) ≡ Ok w
    → rtcp_ssrc w.packet ≡ o
ssrc_case master notes bytes None e w q = absurd (let f = q in cc)
ssrc_case master notes bytes (Some ssrc) e w q = at_control master notes bytes ssrc e (srtcp_in.taken_rtcp_index master notes bytes ssrc) refl w q

pub rtcp_plain : (master : List ℕ) (notes : List Note) (bytes : List ℕ) (w : srtcp_in.Opened)
    → srtcp_in.rtcp_opening master notes bytes ≡ Ok w → rtcp_ssrc w.packet ≡ rtcp_ssrc bytes
unfolding srtcp_in.rtcp_opening
rtcp_plain master notes bytes w q = ssrc_case master notes bytes (rtcp_ssrc bytes) refl w q

-- either

-- two packets with one head of a half
abbrev pub HasHeadOf : Half → List ℕ → List ℕ → Type 0
HasHeadOf Rtp bytes plain = rtp_head plain ≡ rtp_head bytes
HasHeadOf Rtcp bytes plain = rtcp_ssrc plain ≡ rtcp_ssrc bytes

rtp_case : (r : Result srtp_in.Opened UnprotectFault) (bytes : List ℕ) → ((w : srtp_in.Opened) → r ≡ Ok w → rtp_head w.packet ≡ rtp_head bytes)
    → (noted : Option Note) (plain : List ℕ) → opened_rtp r ≡ Passed noted plain → rtp_head plain ≡ rtp_head bytes
rtp_case (Err cause) bytes same noted plain q = absurd (let f = q in cc)
rtp_case (Ok w) bytes same noted plain q =
    let f = q in
    let is_it : w.packet ≡ plain = cc in
    subst (λ (l : List ℕ). rtp_head l ≡ rtp_head bytes) is_it (same w refl)

rtcp_case : (r : Result srtcp_in.Opened UnprotectFault) (bytes : List ℕ) → ((w : srtcp_in.Opened) → r ≡ Ok w → rtcp_ssrc w.packet ≡ rtcp_ssrc bytes)
    → (noted : Option Note) (plain : List ℕ) → opened_rtcp r ≡ Passed noted plain → rtcp_ssrc plain ≡ rtcp_ssrc bytes
rtcp_case (Err cause) bytes same noted plain q = absurd (let f = q in cc)
rtcp_case (Ok w) bytes same noted plain q =
    let f = q in
    let is_it : w.packet ≡ plain = cc in
    subst (λ (l : List ℕ). rtcp_ssrc l ≡ rtcp_ssrc bytes) is_it (same w refl)

under_case : (key : List ℕ × Suite) (notes : List Note) (half : Half) (bytes : List ℕ) (noted : Option Note) (plain : List ℕ)
    → opened_under key notes half bytes ≡ Passed noted plain → HasHeadOf half bytes plain
unfolding opened_under
under_case key notes Rtp bytes noted plain q =
    rtp_case (srtp_in.opening key.0 key.1 notes bytes) bytes (rtp_plain key.0 key.1 notes bytes) noted plain q
under_case key notes Rtcp bytes noted plain q =
    rtcp_case (srtcp_in.rtcp_opening key.0 notes bytes) bytes (rtcp_plain key.0 notes bytes) noted plain q

same_of_itself : (half : Half) (bytes : List ℕ) → HasHeadOf half bytes bytes
same_of_itself Rtp bytes = refl
same_of_itself Rtcp bytes = refl

by_case : (key : Option (List ℕ × Suite)) (notes : List Note) (half : Half) (bytes : List ℕ) (noted : Option Note) (plain : List ℕ)
    → opened_by key notes half bytes ≡ Passed noted plain → HasHeadOf half bytes plain
by_case None notes half bytes noted plain q =
    let f = q in
    let is_it : bytes ≡ plain = cc in
    subst (λ (l : List ℕ). HasHeadOf half bytes l) is_it (same_of_itself half bytes)
by_case (Some key) notes half bytes noted plain q = under_case key notes half bytes noted plain q

-- a taken packet is one of its half, with the head of the received one
pub record IsPlain (half : Half) (bytes plain : List ℕ) : Type 0 where
  pub received : is_packet half bytes ≡ true
  pub head : HasHeadOf half bytes plain
  pub is_one : is_packet half plain ≡ true

has_one : (half : Half) (bytes plain : List ℕ) → HasHeadOf half bytes plain → is_packet half bytes ≡ true → is_packet half plain ≡ true
has_one Rtp bytes plain same q = ap (λ (o : Option RtpHead). is_some o) same ∙ q
has_one Rtcp bytes plain same q = ap (λ (o : Option ℕ). is_some o) same ∙ q

passes_case : (half : Half) (bytes : List ℕ) (passes wrong : Bool) (rest : Judged) (noted : Option Note) (plain : List ℕ) → is_packet half bytes ≡ passes
    → (rest ≡ Passed noted plain → HasHeadOf half bytes plain)
    → cond (not passes) (Stopped refused.Malformed) (cond wrong (Stopped refused.WrongSource) rest) ≡ Passed noted plain → IsPlain half bytes plain
passes_case half bytes true true rest noted plain p same q = absurd (let f = q in cc)
passes_case half bytes true false rest noted plain p same q =
    record { received = p; head = same q; is_one = has_one half bytes plain (same q) p }
passes_case half bytes false wrong rest noted plain p same q = absurd (let f = q in cc)

leg_case : (s : Option LegSignal) (known : Option Addr) (notes : List Note) (half : Half) (source : Addr) (bytes : List ℕ) (noted : Option Note) (plain : List ℕ)
    → judged_leg s known notes half source bytes ≡ Passed noted plain → IsPlain half bytes plain
leg_case None known notes half source bytes noted plain q = absurd (let f = q in cc)
leg_case (Some s) known notes half source bytes noted plain q =
    passes_case half bytes (is_packet half bytes) (is_wrong_source s.flags known source) (opened_by s.inbound notes half bytes) noted plain refl
    (by_case s.inbound notes half bytes noted plain) q
