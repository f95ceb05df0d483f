-- Protected packets: their lengths and heads, and that what was enciphered and tagged opens again.
use Rattle.std.proofs.Common.{◌≡◌, ◌≢◌, false, ℕ, ◌+◌, ◌-◌, ◌<◌, ◌≤◌, true, List, [], ◌++◌, length, take, drop, Some, arith, sym, ◌∙◌, ap, subst, refl, take_at, drop_at, append_assoc, length-append, length-drop, length-take-le, take-append-drop}
use Rattle.std.proofs.lemmas.List.{take-append-le}
use Rattle.std.specs.Option.{option_map_or}
use Rattle.std.specs.Str.{bytes_eq}
use Rattle.std.specs.Prelude.{◌==◌, ◌/◌, ◌^◌, if◌then◌else◌}
use Rattle.std.specs.Int.{w32, from_be_bytes}
use Rattle.std.proofs.lemmas.Nat.{from_be_bytes-to_be_bytes_4}
use Rattle.std.proofs.lemmas.Bool.Decides.{nat_tests}
use Rattle.std.proofs.lemmas.Slice.Eq.{bytes_eq-Decides}
use Rattle.rtp_packet.specs.Head.{rtcp_ssrc}
use Rattle.rtp_packet.proofs.HeadLemmas.{rtcp_ssrc-within, rtcp_ssrc-front}
use Rattle.aes_ctr.specs.Keystream.{xored}
use Rattle.aes_ctr.proofs.StreamLemmas.{length-xored, xored-xored, length-keystream}
use Rattle.sha1.specs.Sha1.{sha1, digest_bytes}
use Rattle.srtp_keys.specs.Hmac.{hmac}
use Rattle.srtcp_context.specs.Packets.{rtcp_keystream, rtcp_ciphered, trailer, rtcp_code, rtcp_tag, tagged_rtcp, protect_rtcp, rtcp_body, is_rtcp_authentic, word_of, is_enciphered, carried_index, opened_srtcp, OpensRtcpAs}

length-sha1 : (message : List ℕ) → length (sha1 message) ≡ 20
unfolding sha1 digest_bytes
length-sha1 message = refl

pub length-code_of : (master bytes : List ℕ) → length (rtcp_code master bytes) ≡ 20
unfolding rtcp_code hmac
length-code_of master bytes = length-sha1 _

pub length-tag_of : (master bytes : List ℕ) → length (rtcp_tag master bytes) ≡ 10
length-tag_of master bytes = length-take-le 10 (rtcp_code master bytes) (omega (arith, length-code_of master bytes))

pub length-trailer : (index : ℕ) → length (trailer index) ≡ 4
length-trailer index = refl

pub length-packet_keystream : (master : List ℕ) (ssrc index size : ℕ) → length (rtcp_keystream master ssrc index size) ≡ size
unfolding rtcp_keystream
length-packet_keystream master ssrc index size = length-keystream _ _ size

-- the changed payload is as long as the payload
length-payload : (master : List ℕ) (ssrc : ℕ) (index : ℕ) (packet : List ℕ) → 8 ≤ length packet
    → length (xored (drop 8 packet) (rtcp_keystream master ssrc index (length packet - 8)))
    ≡ length packet - 8
length-payload master ssrc index packet held =
    let rest : length (drop 8 packet) ≡ length packet - 8 = length-drop 8 packet in
    let stream = length-packet_keystream master ssrc index (length packet - 8) in
    length-xored (drop 8 packet) (rtcp_keystream master ssrc index (length packet - 8)) (omega arith) ∙ rest

pub length-ciphered : (master : List ℕ) (ssrc : ℕ) (index : ℕ) (packet : List ℕ) → 8 ≤ length packet
    → length (rtcp_ciphered master ssrc index packet) ≡ length packet
unfolding rtcp_ciphered
length-ciphered master ssrc index packet held =
    let front : length (take 8 packet) ≡ 8 = length-take-le 8 packet held in
    length-append (take 8 packet) _ ∙ omega (arith, length-payload master ssrc index packet held)

take-ciphered : (master : List ℕ) (ssrc : ℕ) (index : ℕ) (packet : List ℕ) → 8 ≤ length packet
    → take 8 (rtcp_ciphered master ssrc index packet) ≡ take 8 packet
unfolding rtcp_ciphered
take-ciphered master ssrc index packet held =
    take_at (take 8 packet) _ 8 (length-take-le 8 packet held)

drop-ciphered : (master : List ℕ) (ssrc : ℕ) (index : ℕ) (packet : List ℕ) → 8 ≤ length packet
    → drop 8 (rtcp_ciphered master ssrc index packet)
    ≡ xored (drop 8 packet) (rtcp_keystream master ssrc index (length packet - 8))
unfolding rtcp_ciphered
drop-ciphered master ssrc index packet held =
    drop_at (take 8 packet) _ 8 (length-take-le 8 packet held)

-- deciphering what was enciphered gives the packet
pub ciphered-ciphered : (master : List ℕ) (ssrc : ℕ) (index : ℕ) (packet : List ℕ) → 8 ≤ length packet
    → rtcp_ciphered master ssrc index (rtcp_ciphered master ssrc index packet) ≡ packet
unfolding rtcp_ciphered
ciphered-ciphered master ssrc index packet held =
    let once = rtcp_ciphered master ssrc index packet in
    let size : length once ≡ length packet = length-ciphered master ssrc index packet held in
    let front : take 8 once ≡ take 8 packet = take-ciphered master ssrc index packet held in
    let rest = drop-ciphered master ssrc index packet held in
    let stream = rtcp_keystream master ssrc index (length packet - 8) in
    let within : length (drop 8 packet) ≤ length stream =
    omega (arith, length-drop 8 packet, length-packet_keystream master ssrc index (length packet - 8)) in
    ap (λ n. take 8 once ++ xored (drop 8 once) (rtcp_keystream master ssrc index (n - 8))) size
    ∙ ap (λ l. take 8 once ++ xored l stream) rest
    ∙ ap (λ l. take 8 once ++ l) (xored-xored (drop 8 packet) stream within)
    ∙ ap (λ l. l ++ drop 8 packet) front
    ∙ take-append-drop 8 packet

same_bytes : (xs : List ℕ) → bytes_eq xs xs ≡ true
same_bytes xs = (bytes_eq-Decides xs xs).1 refl

pub equal : (a b : ℕ) → a ≡ b → (a == b) ≡ true
equal a b is = grind (arith, nat_tests)

pub differ : (a b : ℕ) → a ≢ b → (a == b) ≡ false
differ a b apart = grind (arith, nat_tests)

-- the parts of a tagged packet: what was enciphered, the trailer, the tag
length-tagged : (master sealed : List ℕ) (index : ℕ) → length (tagged_rtcp master (sealed ++ trailer index)) ≡ length sealed + 14
length-tagged master sealed index =
    length-append (sealed ++ trailer index) _
    ∙ omega (arith, length-append sealed (trailer index), length-trailer index, length-tag_of master (sealed ++ trailer index))

is_authentic-tagged : (master bytes : List ℕ) → is_rtcp_authentic master (tagged_rtcp master bytes) ≡ true
unfolding is_rtcp_authentic
is_authentic-tagged master bytes =
    let tag = rtcp_tag master bytes in
    let whole = tagged_rtcp master bytes in
    let end : length whole - 10 ≡ length bytes = omega (arith, length-append bytes tag, length-tag_of master bytes) in
    let front : take (length whole - 10) whole ≡ bytes = ap (λ n. take n whole) end ∙ take_at bytes tag (length bytes) refl in
    let rest : drop (length whole - 10) whole ≡ tag = ap (λ n. drop n whole) end ∙ drop_at bytes tag (length bytes) refl in
    ap (λ l. bytes_eq l (rtcp_tag master (take (length whole - 10) whole))) rest
    ∙ ap (λ l. bytes_eq tag (rtcp_tag master l)) front ∙ same_bytes tag

body-tagged : (master sealed : List ℕ) (index : ℕ) → rtcp_body (tagged_rtcp master (sealed ++ trailer index)) ≡ sealed
body-tagged master sealed index =
    let whole = tagged_rtcp master (sealed ++ trailer index) in
    let end : length whole - 14 ≡ length sealed = omega (arith, length-tagged master sealed index) in
    ap (λ n. take n whole) end
    ∙ ap (λ l. take (length sealed) l) (append_assoc sealed (trailer index) (rtcp_tag master (sealed ++ trailer index)))
    ∙ take_at sealed _ (length sealed) refl

word_of-tagged : (master sealed : List ℕ) (index : ℕ) → index < 2 ^ 31 → word_of (tagged_rtcp master (sealed ++ trailer index)) ≡ 2 ^ 31 + index
unfolding word_of
word_of-tagged master sealed index below =
    let tag = rtcp_tag master (sealed ++ trailer index) in
    let whole = tagged_rtcp master (sealed ++ trailer index) in
    let end : length whole - 14 ≡ length sealed = omega (arith, length-tagged master sealed index) in
    let rest : drop (length whole - 14) whole ≡ trailer index ++ tag =
    ap (λ n. drop n whole) end ∙ ap (λ l. drop (length sealed) l) (append_assoc sealed (trailer index) tag)
    ∙ drop_at sealed (trailer index ++ tag) (length sealed) refl in
    ap (λ l. from_be_bytes w32 (take 4 l)) rest
    ∙ ap (λ l. from_be_bytes w32 l) (take_at (trailer index) tag 4 (length-trailer index))
    ∙ from_be_bytes-to_be_bytes_4 (2 ^ 31 + index) (omega arith)

pub protect-opens : (master packet : List ℕ) (index ssrc : ℕ) → rtcp_ssrc packet ≡ Some ssrc → index < 2 ^ 31
    → OpensRtcpAs master (protect_rtcp master packet index) index packet
unfolding protect_rtcp opened_srtcp
protect-opens master packet index ssrc head below =
    let within = rtcp_ssrc-within packet ssrc head in
    let sealed = rtcp_ciphered master ssrc index packet in
    let bytes = tagged_rtcp master (sealed ++ trailer index) in
    let made : protect_rtcp master packet index ≡ bytes =
    ap (λ o. option_map_or (λ s. tagged_rtcp master (rtcp_ciphered master s index packet ++ trailer index)) o []) head in
    let size : length sealed ≡ length packet = length-ciphered master ssrc index packet within.held in
    let whole : bytes ≡ sealed ++ (trailer index ++ rtcp_tag master (sealed ++ trailer index)) =
    append_assoc sealed (trailer index) (rtcp_tag master (sealed ++ trailer index)) in
    let front : take 8 bytes ≡ take 8 packet =
    ap (λ l. take 8 l) whole ∙ take-append-le 8 sealed _ (omega (arith, size, within.held)) ∙ take-ciphered master ssrc index packet within.held in
    let same_head : rtcp_ssrc bytes ≡ Some ssrc =
    rtcp_ssrc-front packet bytes ssrc head front (omega (arith, length-tagged master sealed index, size, within.held)) in
    let word = word_of-tagged master sealed index below in
    let carried : carried_index bytes ≡ index = omega (arith, word) in
    let enciphered : is_enciphered bytes ≡ true = equal (word_of bytes / 2 ^ 31) 1 (omega (arith, word)) in
    let P : List ℕ → Type 0 = λ l. OpensRtcpAs master l index packet in
    subst P (sym made) (record {
      authentic = is_authentic-tagged master (sealed ++ trailer index);
      carries = carried;
      holds = ap (λ o. option_map_or (λ s. if is_enciphered bytes then rtcp_ciphered master s (carried_index bytes) (rtcp_body bytes) else rtcp_body bytes) o []) same_head
          ∙ ap (λ t. if t then rtcp_ciphered master ssrc (carried_index bytes) (rtcp_body bytes) else rtcp_body bytes) enciphered
          ∙ ap (λ i. rtcp_ciphered master ssrc i (rtcp_body bytes)) carried
          ∙ ap (λ l. rtcp_ciphered master ssrc index l) (body-tagged master sealed index)
          ∙ ciphered-ciphered master ssrc index packet within.held;
    })
