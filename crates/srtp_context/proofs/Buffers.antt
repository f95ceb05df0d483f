-- What enciphering, deciphering and tagging in place leave in a buffer.
use Rattle.std.proofs.Common.{◌≡◌, ℕ, ◌+◌, ◌-◌, ◌≤◌, List, [], ◌++◌, length, take, drop, Some, arith, sym, ◌∙◌, ap, subst, append_assoc, length-append, length-drop, length-take-le, take-take, drop-drop}
use Rattle.std.specs.Option.{option_map_or}
use Rattle.std.specs.Str.{bytes_eq}
use Rattle.std.proofs.lemmas.List.{take_at, drop_at}
use borrow.Rule.Slice.PartMut.{put_mid}
use Rattle.std.proofs.lemmas.Slice.{between_is, between_to_end}
use Rattle.rtp_packet.specs.declared.head.RtpHead.{RtpHead}
use Rattle.rtp_packet.specs.Head.{rtp_head}
use Rattle.rtp_packet.proofs.HeadLemmas.{rtp_head-front}
use Rattle.sdes_lines.specs.declared.crypto_line.Suite.{Suite}
use Rattle.aes_ctr.specs.Keystream.{xored}
use Rattle.srtp_sources.specs.Judged.{Writes}
use Rattle.srtp_context.specs.Packets.{tag_size, packet_keystream, ciphered, rtp_code, tag_of, tagged, protect, body, is_authentic, opened}
use Rattle.srtp_context.proofs.PacketLemmas.{length-tag_of, length-ciphered}

-- the middle of a buffer, as a part of its front
middle : (buf : List ℕ) (start end : ℕ) → take (end - start) (drop start buf) ≡ drop start (take end buf)
middle buf start end = between_is buf start end

-- a payload that was changed in place leaves the changed packet at the buffer's front, and the bytes after it
pub ciphered_in_place : (master : List ℕ) (found : RtpHead) (index : ℕ) (buf payload : List ℕ) (end : ℕ)
    → found.head ≤ end → end ≤ length buf
    → payload ≡ xored (take (end - found.head) (drop found.head buf))
    (packet_keystream master found.ssrc index (length (take (end - found.head) (drop found.head buf))))
    → put_mid found.head (end - found.head) buf payload ≡ ciphered master found index (take end buf) ++ drop end buf
unfolding ciphered
ciphered_in_place master found index buf payload end head held changed =
    let front : take found.head (take end buf) ≡ take found.head buf = take-take found.head end buf head in
    let size : length (take end buf) ≡ end = length-take-le end buf held in
    let part : length (drop found.head (take end buf)) ≡ length (take end buf) - found.head = length-drop found.head (take end buf) in
    let now : payload ≡ xored (drop found.head (take end buf)) (packet_keystream master found.ssrc index (length (take end buf) - found.head)) =
    changed ∙ ap (λ l. xored l (packet_keystream master found.ssrc index (length l))) (middle buf found.head end)
    ∙ ap (λ n. xored (drop found.head (take end buf)) (packet_keystream master found.ssrc index n)) part in
    let whole : found.head + (end - found.head) ≡ end = omega arith in
    let rest : drop (end - found.head) (drop found.head buf) ≡ drop end buf =
    drop-drop (end - found.head) found.head buf ∙ ap (λ n. drop n buf) whole in
    ap (λ l. take found.head buf ++ (payload ++ l)) rest
    ∙ ap (λ l. take found.head buf ++ (l ++ drop end buf)) now
    ∙ sym (append_assoc (take found.head buf) _ (drop end buf))
    ∙ ap (λ l. (l ++ xored (drop found.head (take end buf)) (packet_keystream master found.ssrc index (length (take end buf) - found.head))) ++ drop end buf) (sym front)

-- a packet of which what follows the head was changed in place has its head as before
pub head_stands : (found : RtpHead) (len end : ℕ) (buf rest : List ℕ) → rtp_head (take len buf) ≡ Some found → len ≤ length buf
    → found.head ≤ len → found.head ≤ end → end ≤ length (take found.head buf ++ rest)
    → rtp_head (take end (take found.head buf ++ rest)) ≡ Some found
head_stands found len end buf rest head held within before long =
    let new = take found.head buf ++ rest in
    let size : length (take found.head buf) ≡ found.head = length-take-le found.head buf (omega arith) in
    let front : take found.head (take end new) ≡ take found.head (take len buf) =
    take-take found.head end new before ∙ take_at (take found.head buf) rest found.head size ∙ sym (take-take found.head len buf within) in
    let kept : length (take end new) ≡ end = length-take-le end new long in
    rtp_head-front (take len buf) (take end new) found head front (omega (arith, kept))

pub is_authentic-is : (master : List ℕ) (suite : Suite) (bytes code : List ℕ) (index size : ℕ) → size ≡ tag_size suite
    → code ≡ rtp_code master (take (length bytes - size) bytes) index
    → bytes_eq (take (length bytes - (length bytes - size)) (drop (length bytes - size) bytes)) (take size code)
    ≡ is_authentic master suite bytes index
unfolding is_authentic
is_authentic-is master suite bytes code index size tag made =
    ap (λ l. bytes_eq l (take size code)) (between_to_end bytes (length bytes - size) (length bytes) (omega arith)) ∙
    ap (λ l. bytes_eq (drop (length bytes - size) bytes) (take size l)) made
    ∙ ap (λ n. bytes_eq (drop (length bytes - n) bytes) (take n (rtp_code master (take (length bytes - n) bytes) index))) tag

-- opening in place
pub opened_in_place : (master : List ℕ) (suite : Suite) (found : RtpHead) (index len size : ℕ) (buf new : List ℕ)
    → rtp_head (take len buf) ≡ Some found → len ≤ length buf → size ≡ tag_size suite → found.head + size ≤ len
    → new ≡ ciphered master found index (take (len - size) buf) ++ drop (len - size) buf
    → Writes (opened master suite (take len buf) index) buf new (len - size)
unfolding opened
opened_in_place master suite found index len size buf new head held tag within made =
    let packet = take (len - size) buf in
    let length_is : length (take len buf) ≡ len = length-take-le len buf held in
    let front : body suite (take len buf) ≡ packet =
    ap (λ n. take (n - tag_size suite) (take len buf)) length_is ∙ ap (λ n. take (len - n) (take len buf)) (sym tag)
    ∙ take-take (len - size) len buf (omega arith) in
    let is : option_map_or (λ h. ciphered master h index (body suite (take len buf))) (rtp_head (take len buf)) [] ≡ ciphered master found index packet =
    ap (λ o. option_map_or (λ h. ciphered master h index (body suite (take len buf))) o []) head
    ∙ ap (λ l. ciphered master found index l) front in
    let packet_size : length packet ≡ len - size = length-take-le (len - size) buf (omega arith) in
    let ciphered_size : length (ciphered master found index packet) ≡ len - size =
    length-ciphered master found index packet (omega arith) ∙ packet_size in
    let P : List ℕ → Type 0 = λ l. Writes l buf new (len - size) in
    subst P (sym is) (record {
      length_is = sym ciphered_size;
      buffer = made ∙ ap (λ n. ciphered master found index packet ++ drop n buf) (sym ciphered_size);
    })

-- protecting in place: first the payload is enciphered, then the tag is written after it
pub protected_in_place : (master : List ℕ) (suite : Suite) (found : RtpHead) (index len size : ℕ) (buf between code new : List ℕ)
    → rtp_head (take len buf) ≡ Some found → found.head ≤ len → len + size ≤ length buf → size ≡ tag_size suite
    → between ≡ ciphered master found index (take len buf) ++ drop len buf
    → code ≡ rtp_code master (take len between) index
    → new ≡ put_mid len size between (take size code)
    → Writes (protect master suite (take len buf) index) buf new (len + size)
unfolding protect
protected_in_place master suite found index len size buf between code new head within held tag enciphered made written =
    let packet = take len buf in
    let sent = ciphered master found index packet in
    let packet_size : length packet ≡ len = length-take-le len buf (omega arith) in
    let sent_size : length sent ≡ len = length-ciphered master found index packet (omega arith) ∙ packet_size in
    let front : take len between ≡ sent = ap (λ l. take len l) enciphered ∙ take_at sent (drop len buf) len sent_size in
    let behind : drop len between ≡ drop len buf = ap (λ l. drop len l) enciphered ∙ drop_at sent (drop len buf) len sent_size in
    let mark : take size code ≡ tag_of master suite sent index =
    ap (λ l. take size l) (made ∙ ap (λ l. rtp_code master l index) front) ∙ ap (λ n. take n (rtp_code master sent index)) tag in
    let is : option_map_or (λ h. tagged master suite (ciphered master h index packet) index) (rtp_head packet) [] ≡ tagged master suite sent index =
    ap (λ o. option_map_or (λ h. tagged master suite (ciphered master h index packet) index) o []) head in
    let whole_size : length (tagged master suite sent index) ≡ len + size =
    length-append sent (tag_of master suite sent index) ∙ omega (arith, sent_size, length-tag_of master suite sent index, tag) in
    let rest : drop size (drop len buf) ≡ drop (len + size) buf = drop-drop size len buf in
    let P : List ℕ → Type 0 = λ l. Writes l buf new (len + size) in
    subst P (sym is) (record {
      length_is = sym whole_size;
      buffer = written
          ∙ ap (λ l. l ++ (take size code ++ drop size (drop len between))) front
          ∙ ap (λ l. sent ++ (l ++ drop size (drop len between))) mark
          ∙ ap (λ l. sent ++ (tag_of master suite sent index ++ drop size l)) behind
          ∙ ap (λ l. sent ++ (tag_of master suite sent index ++ l)) rest
          ∙ sym (append_assoc sent (tag_of master suite sent index) (drop (len + size) buf))
          ∙ ap (λ n. tagged master suite sent index ++ drop n buf) (sym whole_size);
    })
