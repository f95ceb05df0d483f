-- What a protected RTP packet is on the wire: its head stays, and it is longer by its tag.
use Rattle.std.proofs.Common.{◌≡◌, ◌∙◌, sym, ap, subst, ℕ, ◌+◌, ◌≤◌, List, [], Some, length, take, arith, take_at, length-append, length-take-le}
use Rattle.std.proofs.lemmas.List.{take-append-le}
use Rattle.std.specs.Option.{option_map_or}
use Rattle.rtp_packet.specs.declared.head.RtpHead.{RtpHead}
use Rattle.rtp_packet.specs.Head.{rtp_head}
use Rattle.rtp_packet.proofs.HeadLemmas.{rtp_head-within, rtp_head-front}
use Rattle.sdes_lines.specs.declared.crypto_line.Suite.{Suite}
use Rattle.srtp_context.specs.Packets.{tag_size, ciphered, tag_of, tagged, protect}
use Rattle.srtp_context.proofs.PacketLemmas.{length-ciphered, length-tag_of}

pub record IsWire (suite : Suite) (packet bytes : List ℕ) (found : RtpHead) : Type 0 where
  pub head : rtp_head bytes ≡ Some found
  pub size : length bytes ≡ length packet + tag_size suite

front_stays : (master : List ℕ) (found : RtpHead) (index : ℕ) (packet : List ℕ) → found.head ≤ length packet
    → take found.head (ciphered master found index packet) ≡ take found.head packet
unfolding ciphered
front_stays master found index packet held = take_at (take found.head packet) _ found.head (length-take-le found.head packet held)

pub protected_is_wire : (master : List ℕ) (suite : Suite) (packet : List ℕ) (index : ℕ) (found : RtpHead) → rtp_head packet ≡ Some found
    → IsWire suite packet (protect master suite packet index) found
unfolding protect
protected_is_wire master suite packet index found head =
    let within = rtp_head-within packet found head in
    let sent = ciphered master found index packet in
    let bytes = tagged master suite sent index in
    let made : protect master suite packet index ≡ bytes =
    ap (λ o. option_map_or (λ h. tagged master suite (ciphered master h index packet) index) o []) head in
    let size : length sent ≡ length packet = length-ciphered master found index packet within.held in
    let whole : length bytes ≡ length packet + tag_size suite =
    length-append sent _ ∙ omega (arith, size, length-tag_of master suite sent index) in
    let front : take found.head bytes ≡ take found.head packet =
    take-append-le found.head sent (tag_of master suite sent index) (omega (arith, size, within.held)) ∙ front_stays master found index packet within.held in
    subst (λ l. IsWire suite packet l found) (sym made) (record {
      head = rtp_head-front packet bytes found head front (omega (arith, whole, within.held));
      size = whole;
    })
