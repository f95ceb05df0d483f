-- Worked rows of what descriptions become.
use Rattle.std.proofs.Common.{◌≡◌, ℕ, List, [], ◌∷◌, ◌++◌, Some, None, codes, refl, replicate}
use Rattle.std.specs.Fmt.{digits}
use Rattle.base64.specs.Rfc4648.{encode_symbols}
use Rattle.sdes_lines.specs.declared.crypto_line.Suite.TheVariants.{Tag80, Tag32}
use Rattle.sdes_lines.specs.CryptoLine.{line_text}
use Rattle.sdp_text.specs.declared.proto.Proto.TheVariants.{Avp, Savp}
use Rattle.sdp_edit.specs.Attributes.{is_removed, is_mux_attribute, is_feedback}
use Rattle.sdp_edit.specs.Images.{image_of}
use Rattle.sdp_edit.specs.Places.{line_place}
use Rattle.sdp_edit.specs.Texts.{with_end, connection_text, media_text, origin_text}
use Rattle.sdp_edit.specs.EditedText.{edited_from, edited_line, image_text, added_connection, added_mux, added_keys, key_lines}
use Rattle.port_pool.specs.declared.holder.Side.TheVariants.{A, B}
use Rattle.port_pool.specs.Ports.{range_pairs}
use Rattle.offer_answer.specs.Rounds.{Round, Offered, Answered, AnswerAsk}
use Rattle.offer_answer.specs.Plan.{offer_text, answer_text}
use Rattle.offer_answer.proofs.rows.Calls.{config, plain, replacing, towards, alice_with, bob_with, audio, secure_audio, no_audio, video, image, line80, two_legs, key, offer_by, answer_by, a, b, none1, none2}

-- what is opened so that a text computes
unfoldable pub offers_and_answers : Unit {0}
unfolding offer_text answer_text range_pairs digits is_removed is_mux_attribute is_feedback image_of line_place with_end connection_text media_text origin_text edited_from edited_line image_text added_connection added_mux added_keys key_lines line_text encode_symbols
offers_and_answers = tt

-- Side A's description, and what side B gets.

abbrev alice : List ℕ
alice = codes "v=0\r\no=alice 1 1 IN IP4 192.0.2.10\r\ns=-\r\nc=IN IP4 192.0.2.10\r\nt=0 0\r\nm=audio 6000 RTP/AVP 0 8\r\na=rtpmap:0 PCMU/8000\r\na=sendrecv\r\n"

abbrev alice_written : List ℕ
alice_written = codes "v=0\r\no=alice 1 1 IN IP4 192.0.2.10\r\ns=-\r\nc=IN IP4 192.0.2.10\r\nt=0 0\r\nm=audio 30000 RTP/AVP 0 8\r\nc=IN IP4 203.0.113.1\r\na=rtpmap:0 PCMU/8000\r\na=sendrecv\r\n"

abbrev alice_replaced : List ℕ
alice_replaced = codes "v=0\r\no=alice 1 1 IN IP4 203.0.113.1\r\ns=-\r\nc=IN IP4 203.0.113.1\r\nt=0 0\r\nm=audio 30000 RTP/AVP 0 8\r\nc=IN IP4 203.0.113.1\r\na=rtpmap:0 PCMU/8000\r\na=sendrecv\r\n"

new_ports_are_written : offer_text config [] (offer_by a alice plain none1) (30000 ∷ 30002 ∷ []) [] ≡ alice_written
unfolding offers_and_answers
new_ports_are_written = refl

origin_and_session_are_replaced : offer_text config [] (offer_by a alice replacing none1) (30000 ∷ 30002 ∷ []) [] ≡ alice_replaced
unfolding offers_and_answers
origin_and_session_are_replaced = refl

abbrev offered : List Round
offered = Offered (offer_by a alice plain none1) (two_legs 0 0) [] ∷ []

-- a repeated offer is written with the port of the pair that stands
standing_port_is_written : offer_text config offered (offer_by a alice plain none1) [] [] ≡ alice_written
unfolding offers_and_answers
standing_port_is_written = refl

-- Side B's answer, and what side A gets.

abbrev bob : List ℕ
bob = codes "v=0\r\no=bob 2 2 IN IP4 198.51.100.20\r\ns=-\r\nc=IN IP4 198.51.100.20\r\nt=0 0\r\nm=audio 7000 RTP/AVP 0\r\n"

abbrev bob_written : List ℕ
bob_written = codes "v=0\r\no=bob 2 2 IN IP4 198.51.100.20\r\ns=-\r\nc=IN IP4 198.51.100.20\r\nt=0 0\r\nm=audio 30002 RTP/AVP 0\r\nc=IN IP4 203.0.113.1\r\n"

offerers_port_is_written : answer_text config offered (answer_by a b bob plain none1) ≡ bob_written
unfolding offers_and_answers
offerers_port_is_written = refl

-- the answer's own options say what is replaced in it
answers_options_replace : answer_text config offered (answer_by a b bob replacing none1)
    ≡ codes "v=0\r\no=bob 2 2 IN IP4 203.0.113.1\r\ns=-\r\nc=IN IP4 203.0.113.1\r\nt=0 0\r\nm=audio 30002 RTP/AVP 0\r\nc=IN IP4 203.0.113.1\r\n"
unfolding offers_and_answers
answers_options_replace = refl

-- a rejected section is written with port 0
rejected_port_is_zero : answer_text config offered (answer_by a b (bob_with no_audio) plain none1) ≡ codes "v=0\r\nc=IN IP4 198.51.100.20\r\nm=audio 0 RTP/AVP 0\r\nc=IN IP4 203.0.113.1\r\n"
unfolding offers_and_answers
rejected_port_is_zero = refl

-- one whose pairs have gone too
gone_port_is_zero : answer_text config (Answered (answer_by a b (bob_with no_audio) plain none1) ∷ offered) (answer_by a b (bob_with audio) plain none1)
    ≡ codes "v=0\r\nc=IN IP4 198.51.100.20\r\nm=audio 0 RTP/AVP 0\r\nc=IN IP4 203.0.113.1\r\n"
unfolding offers_and_answers
gone_port_is_zero = refl

-- the other side's offer is written with side A's port
bobs_offer_has_port_of_a : offer_text config (Answered (answer_by a b bob plain none1) ∷ offered) (offer_by b bob plain none1) [] [] ≡ bob_written
unfolding offers_and_answers
bobs_offer_has_port_of_a = refl

-- A section that isn't active is written with port 0, and one whose protocol is none of the four keeps it. The first new leg of
-- the second section has the third port.
image_and_two_sections : offer_text config [] (offer_by a (alice_with (image ++ audio ++ no_audio ++ video)) plain (None ∷ None ∷ None ∷ None ∷ [])) (30000 ∷ 30002 ∷ 30004 ∷ 30006 ∷ []) []
    ≡ codes "v=0\r\nc=IN IP4 192.0.2.10\r\nm=image 0 udptl t38\r\nc=IN IP4 203.0.113.1\r\nm=audio 30000 RTP/AVP 0\r\nc=IN IP4 203.0.113.1\r\nm=audio 0 RTP/AVP 0\r\nc=IN IP4 203.0.113.1\r\nm=video 30004 RTP/AVP 31\r\nc=IN IP4 203.0.113.1\r\n"
unfolding offers_and_answers
image_and_two_sections = refl

-- the profile of a section that isn't active follows the same rule; it has no crypto line
unused_profile_is_written : offer_text config [] (offer_by a (alice_with (image ++ no_audio)) (towards Savp) none2) [] []
    ≡ codes "v=0\r\nc=IN IP4 192.0.2.10\r\nm=image 0 udptl t38\r\nc=IN IP4 203.0.113.1\r\nm=audio 0 RTP/SAVP 0\r\nc=IN IP4 203.0.113.1\r\n"
unfolding offers_and_answers
unused_profile_is_written = refl

-- a committed section that an offer doesn't use is written with port 0, though its pairs stand
unused_port_is_zero : offer_text config
    (Answered (answer_by a b (bob_with (audio ++ video)) plain none2) ∷ Offered (offer_by a (alice_with (audio ++ video)) plain none2) (two_legs 0 0 ++ two_legs 1 2) [] ∷ [])
    (offer_by a (alice_with (no_audio ++ video)) plain none2) [] []
    ≡ codes "v=0\r\nc=IN IP4 192.0.2.10\r\nm=audio 0 RTP/AVP 0\r\nc=IN IP4 203.0.113.1\r\nm=video 30004 RTP/AVP 31\r\nc=IN IP4 203.0.113.1\r\n"
unfolding offers_and_answers
unused_port_is_zero = refl

-- SRTP.

secured_is_written : offer_text config [] (offer_by a alice (towards Savp) none1) (30000 ∷ 30002 ∷ []) (key 0 0 B Tag80 ∷ key 1 0 B Tag32 ∷ [])
    ≡ codes "v=0\r\no=alice 1 1 IN IP4 192.0.2.10\r\ns=-\r\nc=IN IP4 192.0.2.10\r\nt=0 0\r\nm=audio 30000 RTP/SAVP 0 8\r\nc=IN IP4 203.0.113.1\r\na=rtpmap:0 PCMU/8000\r\na=sendrecv\r\na=crypto:1 AES_CM_128_HMAC_SHA1_80 inline:AQEBAQEBAQEBAQEBAQEBAQEBAQEBAQEBAQEBAQEB\r\na=crypto:2 AES_CM_128_HMAC_SHA1_32 inline:AgICAgICAgICAgICAgICAgICAgICAgICAgICAgIC\r\n"
unfolding offers_and_answers
secured_is_written = refl

abbrev secured : List Round
secured = Offered (offer_by a alice (towards Savp) none1) (two_legs 0 0) (key 0 0 B Tag80 ∷ key 1 0 B Tag32 ∷ []) ∷ []

abbrev secure_answer : AnswerAsk
secure_answer = answer_by a b (codes "v=0\r\no=bob 2 2 IN IP4 198.51.100.20\r\ns=-\r\nc=IN IP4 198.51.100.20\r\nt=0 0\r\nm=audio 7000 RTP/SAVP 0\r\na=crypto:1 AES_CM_128_HMAC_SHA1_80 inline:4fl6DT4Bi+DWT6MsBt5BOQ7Gda1Jiv7rtpYLOqvm\r\n") plain
    (Some (record { tag = 1; suite = Tag80; key = replicate 30 40 }) ∷ [])

-- the offerer gets its own protocol back, and no crypto line
plain_offerer_gets_plain : answer_text config secured secure_answer ≡ bob_written
unfolding offers_and_answers
plain_offerer_gets_plain = refl

-- a new offer carries the key in force alone, as tag 1
carries_key_in_force : offer_text config (Answered secure_answer ∷ secured) (offer_by a (alice_with audio) plain none1) [] []
    ≡ codes "v=0\r\nc=IN IP4 192.0.2.10\r\nm=audio 30000 RTP/SAVP 0\r\nc=IN IP4 203.0.113.1\r\na=crypto:1 AES_CM_128_HMAC_SHA1_80 inline:AQEBAQEBAQEBAQEBAQEBAQEBAQEBAQEBAQEBAQEB\r\n"
unfolding offers_and_answers
carries_key_in_force = refl

-- side B's offer towards plain RTP is written to side A without a line
bob_towards_plain : offer_text config (Answered secure_answer ∷ secured) (offer_by b (bob_with secure_audio) (towards Avp) (Some line80 ∷ [])) [] []
    ≡ codes "v=0\r\nc=IN IP4 198.51.100.20\r\nm=audio 30002 RTP/AVP 0\r\nc=IN IP4 203.0.113.1\r\n"
unfolding offers_and_answers
bob_towards_plain = refl

-- an offerer with SRTP gets the tag and the suite of the line that it chose, with the key that was drawn for it
offerers_tag_is_written : answer_text config
    (Offered (offer_by a (alice_with secure_audio) (towards Avp) (Some (record { tag = 7; suite = Tag32; key = replicate 30 9 }) ∷ [])) (two_legs 0 0) (key 0 0 A Tag32 ∷ []) ∷ [])
    (answer_by a b (bob_with audio) plain none1)
    ≡ codes "v=0\r\nc=IN IP4 198.51.100.20\r\nm=audio 30002 RTP/SAVP 0\r\nc=IN IP4 203.0.113.1\r\na=crypto:7 AES_CM_128_HMAC_SHA1_32 inline:AQEBAQEBAQEBAQEBAQEBAQEBAQEBAQEBAQEBAQEB\r\n"
unfolding offers_and_answers
offerers_tag_is_written = refl

-- a rejected section has the offerer's protocol and no line
rejected_has_no_line : answer_text config
    (Offered (offer_by a (alice_with secure_audio) (towards Avp) (Some line80 ∷ [])) (two_legs 0 0) (key 0 0 A Tag80 ∷ []) ∷ [])
    (answer_by a b (bob_with no_audio) plain none1)
    ≡ codes "v=0\r\nc=IN IP4 198.51.100.20\r\nm=audio 0 RTP/SAVP 0\r\nc=IN IP4 203.0.113.1\r\n"
unfolding offers_and_answers
rejected_has_no_line = refl
