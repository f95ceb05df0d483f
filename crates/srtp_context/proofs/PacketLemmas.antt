-- Protected packets: their lengths and heads, and that what was enciphered and tagged opens again.
use Rattle.std.proofs.Common.{◌≡◌, ℕ, ◌+◌, ◌-◌, ◌≤◌, true, List, [], ◌++◌, length, take, drop, Some, arith, sym, ◌∙◌, ap, subst, refl, take_at, drop_at, length-append, length-drop, length-take-le, take-append-drop}
use Rattle.std.proofs.lemmas.List.{take-append-le}
use Rattle.std.specs.Option.{option_map_or}
use Rattle.std.specs.Str.{bytes_eq}
use Rattle.std.proofs.lemmas.Slice.Eq.{bytes_eq-Decides}
use Rattle.rtp_packet.specs.declared.head.RtpHead.{RtpHead}
use Rattle.rtp_packet.specs.Head.{rtp_head}
use Rattle.rtp_packet.proofs.HeadLemmas.{rtp_head-within, rtp_head-front}
use Rattle.sdes_lines.specs.declared.crypto_line.Suite.{Suite}
use Rattle.sdes_lines.specs.declared.crypto_line.Suite.TheVariants.{Tag80, Tag32}
use Rattle.aes_ctr.specs.Keystream.{xored}
use Rattle.aes_ctr.proofs.StreamLemmas.{length-xored, xored-xored, length-keystream}
use Rattle.sha1.specs.Sha1.{sha1, digest_bytes}
use Rattle.srtp_keys.specs.Hmac.{hmac}
use Rattle.srtp_context.specs.Packets.{tag_size, packet_keystream, ciphered, rtp_code, tag_of, tagged, protect, body, is_authentic, opened, OpensAs}

length-sha1 : (message : List ℕ) → length (sha1 message) ≡ 20
unfolding sha1 digest_bytes
length-sha1 message = refl

pub length-code_of : (master packet : List ℕ) (index : ℕ) → length (rtp_code master packet index) ≡ 20
unfolding rtp_code hmac
length-code_of master packet index = length-sha1 _

pub tag_within : (suite : Suite) → tag_size suite ≤ 10
tag_within Tag80 = omega arith
tag_within Tag32 = omega arith

pub length-tag_of : (master : List ℕ) (suite : Suite) (packet : List ℕ) (index : ℕ) → length (tag_of master suite packet index) ≡ tag_size suite
length-tag_of master suite packet index =
    length-take-le (tag_size suite) (rtp_code master packet index) (omega (arith, tag_within suite, length-code_of master packet index))

pub length-packet_keystream : (master : List ℕ) (ssrc index size : ℕ) → length (packet_keystream master ssrc index size) ≡ size
unfolding packet_keystream
length-packet_keystream master ssrc index size = length-keystream _ _ size

-- the changed payload is as long as the payload
length-payload : (master : List ℕ) (found : RtpHead) (index : ℕ) (packet : List ℕ) → found.head ≤ length packet
    → length (xored (drop found.head packet) (packet_keystream master found.ssrc index (length packet - found.head)))
    ≡ length packet - found.head
length-payload master found index packet held =
    let rest : length (drop found.head packet) ≡ length packet - found.head = length-drop found.head packet in
    let stream = length-packet_keystream master found.ssrc index (length packet - found.head) in
    length-xored (drop found.head packet) (packet_keystream master found.ssrc index (length packet - found.head)) (omega arith) ∙ rest

pub length-ciphered : (master : List ℕ) (found : RtpHead) (index : ℕ) (packet : List ℕ) → found.head ≤ length packet
    → length (ciphered master found index packet) ≡ length packet
unfolding ciphered
length-ciphered master found index packet held =
    let front : length (take found.head packet) ≡ found.head = length-take-le found.head packet held in
    length-append (take found.head packet) _ ∙ omega (arith, length-payload master found index packet held)

take-ciphered : (master : List ℕ) (found : RtpHead) (index : ℕ) (packet : List ℕ) → found.head ≤ length packet
    → take found.head (ciphered master found index packet) ≡ take found.head packet
unfolding ciphered
take-ciphered master found index packet held =
    take_at (take found.head packet) _ found.head (length-take-le found.head packet held)

drop-ciphered : (master : List ℕ) (found : RtpHead) (index : ℕ) (packet : List ℕ) → found.head ≤ length packet
    → drop found.head (ciphered master found index packet)
    ≡ xored (drop found.head packet) (packet_keystream master found.ssrc index (length packet - found.head))
unfolding ciphered
drop-ciphered master found index packet held =
    drop_at (take found.head packet) _ found.head (length-take-le found.head packet held)

-- deciphering what was enciphered gives the packet
pub ciphered-ciphered : (master : List ℕ) (found : RtpHead) (index : ℕ) (packet : List ℕ) → found.head ≤ length packet
    → ciphered master found index (ciphered master found index packet) ≡ packet
unfolding ciphered
ciphered-ciphered master found index packet held =
    let once = ciphered master found index packet in
    let size : length once ≡ length packet = length-ciphered master found index packet held in
    let front : take found.head once ≡ take found.head packet = take-ciphered master found index packet held in
    let rest = drop-ciphered master found index packet held in
    let stream = packet_keystream master found.ssrc index (length packet - found.head) in
    let within : length (drop found.head packet) ≤ length stream =
    omega (arith, length-drop found.head packet, length-packet_keystream master found.ssrc index (length packet - found.head)) in
    ap (λ n. take found.head once ++ xored (drop found.head once) (packet_keystream master found.ssrc index (n - found.head))) size
    ∙ ap (λ l. take found.head once ++ xored l stream) rest
    ∙ ap (λ l. take found.head once ++ l) (xored-xored (drop found.head packet) stream within)
    ∙ ap (λ l. l ++ drop found.head packet) front
    ∙ take-append-drop found.head packet

same_bytes : (xs : List ℕ) → bytes_eq xs xs ≡ true
same_bytes xs = (bytes_eq-Decides xs xs).1 refl

-- a tagged packet and its parts
length-tagged : (master : List ℕ) (suite : Suite) (packet : List ℕ) (index : ℕ)
    → length (tagged master suite packet index) ≡ length packet + tag_size suite
length-tagged master suite packet index = length-append packet _ ∙ ap (λ n. length packet + n) (length-tag_of master suite packet index)

body_at : (master : List ℕ) (suite : Suite) (packet : List ℕ) (index : ℕ)
    → length (tagged master suite packet index) - tag_size suite ≡ length packet
body_at master suite packet index = omega (arith, length-tagged master suite packet index)

body-tagged : (master : List ℕ) (suite : Suite) (packet : List ℕ) (index : ℕ) → body suite (tagged master suite packet index) ≡ packet
body-tagged master suite packet index =
    ap (λ n. take n (tagged master suite packet index)) (body_at master suite packet index) ∙ take_at packet _ (length packet) refl

is_authentic-tagged : (master : List ℕ) (suite : Suite) (packet : List ℕ) (index : ℕ)
    → is_authentic master suite (tagged master suite packet index) index ≡ true
unfolding is_authentic
is_authentic-tagged master suite packet index =
    let tag = tag_of master suite packet index in
    let rest : drop (length (tagged master suite packet index) - tag_size suite) (tagged master suite packet index) ≡ tag =
    ap (λ n. drop n (tagged master suite packet index)) (body_at master suite packet index) ∙ drop_at packet tag (length packet) refl in
    ap (λ l. bytes_eq l (tag_of master suite (body suite (tagged master suite packet index)) index)) rest
    ∙ ap (λ l. bytes_eq tag (tag_of master suite l index)) (body-tagged master suite packet index)
    ∙ same_bytes tag

pub protect-opens : (master : List ℕ) (suite : Suite) (packet : List ℕ) (index : ℕ) (found : RtpHead) → rtp_head packet ≡ Some found
    → OpensAs master suite (protect master suite packet index) index packet
unfolding protect opened
protect-opens master suite packet index found head =
    let within = rtp_head-within packet found head in
    let sent = ciphered master found index packet in
    let bytes = tagged master suite sent index in
    let made : protect master suite packet index ≡ bytes =
    ap (λ o. option_map_or (λ h. tagged master suite (ciphered master h index packet) index) o []) head in
    let size : length sent ≡ length packet = length-ciphered master found index packet within.held in
    let front : take found.head bytes ≡ take found.head packet =
    take-append-le found.head sent (tag_of master suite sent index) (omega (arith, size, within.held))
    ∙ take-ciphered master found index packet within.held in
    let same_head : rtp_head bytes ≡ Some found =
    rtp_head-front packet bytes found head front (omega (arith, length-tagged master suite sent index, size, within.held)) in
    let P : List ℕ → Type 0 = λ l. OpensAs master suite l index packet in
    subst P (sym made) (record {
      authentic = is_authentic-tagged master suite sent index;
      holds = ap (λ o. option_map_or (λ h. ciphered master h index (body suite bytes)) o []) same_head
          ∙ ap (λ l. ciphered master found index l) (body-tagged master suite sent index)
          ∙ ciphered-ciphered master found index packet within.held;
    })
