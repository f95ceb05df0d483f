-- What enciphering, deciphering and tagging in place leave in a buffer.
use Rattle.std.proofs.Common.{◌≡◌, ◌≢◌, false, ℕ, ◌+◌, ◌-◌, ◌≤◌, true, List, [], ◌++◌, length, take, drop, Some, arith, sym, ◌∙◌, ap, subst, append_assoc, length-append, length-drop, length-take-le, take-take, drop-drop, take-append-drop}
use Rattle.std.specs.Prelude.{◌/◌, ◌%◌, ◌^◌, if◌then◌else◌}
use Rattle.std.specs.Option.{option_map_or}
use Rattle.std.specs.Str.{bytes_eq}
use Rattle.std.proofs.lemmas.List.{take_at, drop_at}
use borrow.Rule.Slice.PartMut.{put_mid}
use Rattle.std.proofs.lemmas.Slice.{between_is, between_to_end}
use Rattle.rtp_packet.specs.Head.{rtcp_ssrc}
use Rattle.rtp_packet.proofs.HeadLemmas.{rtcp_ssrc-front}
use Rattle.aes_ctr.specs.Keystream.{xored}
use Rattle.srtp_sources.specs.Judged.{Writes}
use Rattle.srtcp_context.specs.Packets.{rtcp_keystream, rtcp_ciphered, trailer, rtcp_code, rtcp_tag, tagged_rtcp, protect_rtcp, rtcp_body, is_rtcp_authentic, word_of, is_enciphered, carried_index, opened_srtcp}
use Rattle.srtcp_context.proofs.PacketLemmas.{length-tag_of, length-trailer, length-ciphered, equal, differ}

-- the middle of a buffer, as a part of its front
middle : (buf : List ℕ) (start end : ℕ) → take (end - start) (drop start buf) ≡ drop start (take end buf)
middle buf start end = between_is buf start end

-- a payload that was changed in place leaves the changed packet at the buffer's front, and the bytes after it
pub ciphered_in_place : (master : List ℕ) (ssrc : ℕ) (index : ℕ) (buf payload : List ℕ) (end : ℕ)
    → 8 ≤ end → end ≤ length buf
    → payload ≡ xored (take (end - 8) (drop 8 buf))
    (rtcp_keystream master ssrc index (length (take (end - 8) (drop 8 buf))))
    → put_mid 8 (end - 8) buf payload ≡ rtcp_ciphered master ssrc index (take end buf) ++ drop end buf
unfolding rtcp_ciphered
ciphered_in_place master ssrc index buf payload end head held changed =
    let front : take 8 (take end buf) ≡ take 8 buf = take-take 8 end buf head in
    let size : length (take end buf) ≡ end = length-take-le end buf held in
    let part : length (drop 8 (take end buf)) ≡ length (take end buf) - 8 = length-drop 8 (take end buf) in
    let now : payload ≡ xored (drop 8 (take end buf)) (rtcp_keystream master ssrc index (length (take end buf) - 8)) =
    changed ∙ ap (λ l. xored l (rtcp_keystream master ssrc index (length l))) (middle buf 8 end)
    ∙ ap (λ n. xored (drop 8 (take end buf)) (rtcp_keystream master ssrc index n)) part in
    let whole : 8 + (end - 8) ≡ end = omega arith in
    let rest : drop (end - 8) (drop 8 buf) ≡ drop end buf =
    drop-drop (end - 8) 8 buf ∙ ap (λ n. drop n buf) whole in
    ap (λ l. take 8 buf ++ (payload ++ l)) rest
    ∙ ap (λ l. take 8 buf ++ (l ++ drop end buf)) now
    ∙ sym (append_assoc (take 8 buf) _ (drop end buf))
    ∙ ap (λ l. (l ++ xored (drop 8 (take end buf)) (rtcp_keystream master ssrc index (length (take end buf) - 8))) ++ drop end buf) (sym front)

-- a packet of which what follows its first 8 bytes was changed in place has its sender as before
pub ssrc_stands : (ssrc len end : ℕ) (buf rest : List ℕ) → rtcp_ssrc (take len buf) ≡ Some ssrc → len ≤ length buf
    → 8 ≤ len → 8 ≤ end → end ≤ length (take 8 buf ++ rest) → rtcp_ssrc (take end (take 8 buf ++ rest)) ≡ Some ssrc
ssrc_stands ssrc len end buf rest head held clear before long =
    let new = take 8 buf ++ rest in
    let size : length (take 8 buf) ≡ 8 = length-take-le 8 buf (omega arith) in
    let front : take 8 (take end new) ≡ take 8 (take len buf) =
    take-take 8 end new before ∙ take_at (take 8 buf) rest 8 size ∙ sym (take-take 8 len buf clear) in
    let kept : length (take end new) ≡ end = length-take-le end new long in
    rtcp_ssrc-front (take len buf) (take end new) ssrc head front (omega (arith, kept))

-- the front of a packet has its sender
pub ssrc_kept : (ssrc len end : ℕ) (buf : List ℕ) → rtcp_ssrc (take len buf) ≡ Some ssrc → 8 ≤ end → end ≤ len → len ≤ length buf
    → rtcp_ssrc (take end buf) ≡ Some ssrc
ssrc_kept ssrc len end buf head clear within held =
    let kept : length (take end buf) ≡ end = length-take-le end buf (omega arith) in
    rtcp_ssrc-front (take len buf) (take end buf) ssrc head
    (take-take 8 end buf clear ∙ sym (take-take 8 len buf (omega arith))) (omega (arith, kept))

pub is_authentic-is : (master bytes code : List ℕ) → code ≡ rtcp_code master (take (length bytes - 10) bytes)
    → bytes_eq (take (length bytes - (length bytes - 10)) (drop (length bytes - 10) bytes)) (take 10 code) ≡ is_rtcp_authentic master bytes
unfolding is_rtcp_authentic
is_authentic-is master bytes code made =
    ap (λ l. bytes_eq l (take 10 code)) (between_to_end bytes (length bytes - 10) (length bytes) (omega arith))
    ∙ ap (λ l. bytes_eq (drop (length bytes - 10) bytes) (take 10 l)) made

-- a mark that is written after what stands at the buffer's front
pub written_behind : (sent buf between new mark : List ℕ) (len size : ℕ) → length sent ≡ len → between ≡ sent ++ drop len buf
    → new ≡ put_mid len size between mark → new ≡ (sent ++ mark) ++ drop (len + size) buf
written_behind sent buf between new mark len size length_is before written =
    let front : take len between ≡ sent = ap (λ l. take len l) before ∙ take_at sent (drop len buf) len length_is in
    let behind : drop len between ≡ drop len buf = ap (λ l. drop len l) before ∙ drop_at sent (drop len buf) len length_is in
    written
    ∙ ap (λ l. l ++ (mark ++ drop size (drop len between))) front
    ∙ ap (λ l. sent ++ (mark ++ drop size l)) behind
    ∙ ap (λ l. sent ++ (mark ++ l)) (drop-drop size len buf)
    ∙ sym (append_assoc sent mark (drop (len + size) buf))

-- protecting in place, once the packet is enciphered and followed by the trailer
pub protected_in_place : (master : List ℕ) (ssrc index len : ℕ) (buf between code new : List ℕ)
    → rtcp_ssrc (take len buf) ≡ Some ssrc → 8 ≤ len → len + 14 ≤ length buf
    → between ≡ (rtcp_ciphered master ssrc index (take len buf) ++ trailer index) ++ drop (len + 4) buf
    → code ≡ rtcp_code master (take (len + 4) between)
    → new ≡ put_mid (len + 4) 10 between (take 10 code)
    → Writes (protect_rtcp master (take len buf) index) buf new (len + 4 + 10)
unfolding protect_rtcp
protected_in_place master ssrc index len buf between code new head clear held sealed made written =
    let packet = take len buf in
    let sent = rtcp_ciphered master ssrc index packet ++ trailer index in
    let packet_size : length packet ≡ len = length-take-le len buf (omega arith) in
    let sent_size : length sent ≡ len + 4 =
    length-append (rtcp_ciphered master ssrc index packet) (trailer index)
    ∙ omega (arith, length-ciphered master ssrc index packet (omega arith), packet_size, length-trailer index) in
    let front : take (len + 4) between ≡ sent = ap (λ l. take (len + 4) l) sealed ∙ take_at sent (drop (len + 4) buf) (len + 4) sent_size in
    let mark : take 10 code ≡ rtcp_tag master sent = ap (λ l. take 10 l) (made ∙ ap (λ l. rtcp_code master l) front) in
    let is : option_map_or (λ s. tagged_rtcp master (rtcp_ciphered master s index packet ++ trailer index)) (rtcp_ssrc packet) [] ≡ tagged_rtcp master sent =
    ap (λ o. option_map_or (λ s. tagged_rtcp master (rtcp_ciphered master s index packet ++ trailer index)) o []) head in
    let whole_size : length (tagged_rtcp master sent) ≡ len + 4 + 10 =
    length-append sent (rtcp_tag master sent) ∙ omega (arith, sent_size, length-tag_of master sent) in
    let whole = written_behind sent buf between new (take 10 code) (len + 4) 10 sent_size sealed written in
    let P : List ℕ → Type 0 = λ l. Writes l buf new (len + 4 + 10) in
    subst P (sym is) (record {
      length_is = sym whole_size;
      buffer = whole ∙ ap (λ l. (sent ++ l) ++ drop (len + 4 + 10) buf) mark
          ∙ ap (λ n. tagged_rtcp master sent ++ drop n buf) (sym whole_size);
    })

body_is : (buf : List ℕ) (len : ℕ) → len ≤ length buf → 14 ≤ len → rtcp_body (take len buf) ≡ take (len - 14) buf
body_is buf len held long =
    ap (λ n. take (n - 14) (take len buf)) (length-take-le len buf held) ∙ take-take (len - 14) len buf (omega arith)

-- opening in place a packet with the E bit
pub deciphered_in_place : (master : List ℕ) (ssrc len word : ℕ) (buf new : List ℕ)
    → rtcp_ssrc (take len buf) ≡ Some ssrc → len ≤ length buf → 22 ≤ len → word ≡ word_of (take len buf) → word / 2 ^ 31 ≡ 1
    → new ≡ rtcp_ciphered master ssrc (word % 2 ^ 31) (take (len - 14) buf) ++ drop (len - 14) buf
    → Writes (opened_srtcp master (take len buf)) buf new (len - 14)
unfolding opened_srtcp
deciphered_in_place master ssrc len word buf new head held long is bit made =
    let bytes = take len buf in
    let packet = take (len - 14) buf in
    let plain = rtcp_ciphered master ssrc (word % 2 ^ 31) packet in
    let enciphered : is_enciphered bytes ≡ true = equal (word_of bytes / 2 ^ 31) 1 (omega (arith, is, bit)) in
    let same : option_map_or (λ s. if is_enciphered bytes then rtcp_ciphered master s (carried_index bytes) (rtcp_body bytes) else rtcp_body bytes) (rtcp_ssrc bytes) [] ≡ plain =
    ap (λ o. option_map_or (λ s. if is_enciphered bytes then rtcp_ciphered master s (carried_index bytes) (rtcp_body bytes) else rtcp_body bytes) o []) head
    ∙ ap (λ t. if t then rtcp_ciphered master ssrc (carried_index bytes) (rtcp_body bytes) else rtcp_body bytes) enciphered
    ∙ ap (λ w. rtcp_ciphered master ssrc (w % 2 ^ 31) (rtcp_body bytes)) (sym is)
    ∙ ap (λ l. rtcp_ciphered master ssrc (word % 2 ^ 31) l) (body_is buf len held (omega arith)) in
    let size : length plain ≡ len - 14 =
    length-ciphered master ssrc (word % 2 ^ 31) packet (omega (arith, length-take-le (len - 14) buf)) ∙ length-take-le (len - 14) buf (omega arith) in
    let P : List ℕ → Type 0 = λ l. Writes l buf new (len - 14) in
    subst P (sym same) (record {
      length_is = sym size;
      buffer = made ∙ ap (λ n. plain ++ drop n buf) (sym size);
    })

-- a packet without the E bit stays as it is
pub taken_in_place : (master : List ℕ) (ssrc len word : ℕ) (buf : List ℕ)
    → rtcp_ssrc (take len buf) ≡ Some ssrc → len ≤ length buf → 22 ≤ len → word ≡ word_of (take len buf) → word / 2 ^ 31 ≢ 1
    → Writes (opened_srtcp master (take len buf)) buf buf (len - 14)
unfolding opened_srtcp
taken_in_place master ssrc len word buf head held long is bit =
    let bytes = take len buf in
    let packet = take (len - 14) buf in
    let clear : is_enciphered bytes ≡ false = differ (word_of bytes / 2 ^ 31) 1 (λ same. bit (ap (λ w. w / 2 ^ 31) is ∙ same)) in
    let same : option_map_or (λ s. if is_enciphered bytes then rtcp_ciphered master s (carried_index bytes) (rtcp_body bytes) else rtcp_body bytes) (rtcp_ssrc bytes) [] ≡ packet =
    ap (λ o. option_map_or (λ s. if is_enciphered bytes then rtcp_ciphered master s (carried_index bytes) (rtcp_body bytes) else rtcp_body bytes) o []) head
    ∙ ap (λ t. if t then rtcp_ciphered master ssrc (carried_index bytes) (rtcp_body bytes) else rtcp_body bytes) clear
    ∙ body_is buf len held (omega arith) in
    let size : length packet ≡ len - 14 = length-take-le (len - 14) buf (omega arith) in
    let P : List ℕ → Type 0 = λ l. Writes l buf buf (len - 14) in
    subst P (sym same) (record {
      length_is = sym size;
      buffer = sym (take-append-drop (len - 14) buf) ∙ ap (λ n. packet ++ drop n buf) (sym size);
    })

pub taken_size : (master : List ℕ) (ssrc index len : ℕ) (buf : List ℕ) → 8 ≤ len → len ≤ length buf
    → length (rtcp_ciphered master ssrc index (take len buf)) ≡ len
taken_size master ssrc index len buf clear held =
    let size : length (take len buf) ≡ len = length-take-le len buf held in
    length-ciphered master ssrc index (take len buf) (omega arith) ∙ size
