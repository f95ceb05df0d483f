-- Worked rows of RTP and RTCP on one port: where `a=rtcp-mux` is written to each side, and which legs are muxed.
use Rattle.std.proofs.Common.{◌≡◌, ℕ, List, [], ◌∷◌, ◌++◌, Bool, true, false, codes, refl}
use Rattle.ng_command.specs.declared.command.Options.{Options}
use Rattle.port_pool.specs.declared.signal.SectionSignal.{SectionSignal}
use Rattle.port_pool.specs.declared.signal.SectionSignal.TheVariants.{Commit}
use Rattle.offer_answer.specs.Rounds.{Round, Offered, Answered}
use Rattle.offer_answer.specs.Plan.{signal, offer_text, answer_text}
use Rattle.offer_answer.proofs.rows.Calls.{config, plain, alice_ip, bob_ip, alice_with, bob_with, audio, no_audio, image, plain_leg, two_legs, answered_once, offer_by, answer_by, a, b, none1, none2}
use Rattle.offer_answer.proofs.rows.Texts.{offers_and_answers}

abbrev demuxing : Options
demuxing = record plain { mux_demux = true }

abbrev adding : Options
adding = record plain { mux_offer = true }

abbrev accepting : Options
accepting = record plain { mux_accept = true }

-- `demux` and `offer` at once
abbrev contradicting : Options
contradicting = record plain { mux_demux = true; mux_offer = true }

abbrev muxed_audio : List ℕ
muxed_audio = audio ++ codes "a=rtcp-mux\r\n"

-- What the side that answers gets.

abbrev alice_written : List ℕ → List ℕ
alice_written more = codes "v=0\r\nc=IN IP4 192.0.2.10\r\nm=audio 30000 RTP/AVP 0\r\nc=IN IP4 203.0.113.1\r\n" ++ more

abbrev written_to_bob : List ℕ → Options → List ℕ
written_to_bob media options = offer_text config [] (offer_by a (alice_with media) options none1) (30000 ∷ 30002 ∷ []) []

offered_mux_is_handed_on : written_to_bob muxed_audio plain ≡ alice_written (codes "a=rtcp-mux\r\n")
unfolding offers_and_answers
offered_mux_is_handed_on = refl

-- the line is written at the section's end, and once
mux_goes_to_the_end : written_to_bob (muxed_audio ++ codes "a=rtcp-mux\r\na=sendrecv\r\n") plain ≡ alice_written (codes "a=sendrecv\r\na=rtcp-mux\r\n")
unfolding offers_and_answers
mux_goes_to_the_end = refl

demux_takes_it_away : written_to_bob muxed_audio demuxing ≡ alice_written []
unfolding offers_and_answers
demux_takes_it_away = refl

offer_adds_it : written_to_bob audio adding ≡ alice_written (codes "a=rtcp-mux\r\n")
unfolding offers_and_answers
offer_adds_it = refl

accept_adds_nothing : written_to_bob audio accepting ≡ alice_written []
unfolding offers_and_answers
accept_adds_nothing = refl

demux_wins_over_offer : written_to_bob muxed_audio contradicting ≡ alice_written []
unfolding offers_and_answers
demux_wins_over_offer = refl

-- a section that isn't active has none, whatever is asked
no_mux_without_ports : offer_text config [] (offer_by a (alice_with (no_audio ++ codes "a=rtcp-mux\r\n" ++ image ++ codes "a=rtcp-mux\r\n")) adding none2) [] []
    ≡ codes "v=0\r\nc=IN IP4 192.0.2.10\r\nm=audio 0 RTP/AVP 0\r\nc=IN IP4 203.0.113.1\r\nm=image 0 udptl t38\r\nc=IN IP4 203.0.113.1\r\n"
unfolding offers_and_answers
no_mux_without_ports = refl

-- What the side that offered gets, and which legs are muxed.

abbrev offered_with : List ℕ → Options → List Round
offered_with media options = Offered (offer_by a (alice_with media) options none1) (two_legs 0 0) [] ∷ []

abbrev bob_written : List ℕ → List ℕ
bob_written more = codes "v=0\r\nc=IN IP4 198.51.100.20\r\nm=audio 30002 RTP/AVP 0\r\nc=IN IP4 203.0.113.1\r\n" ++ more

abbrev written_to_alice : List Round → List ℕ → List ℕ
written_to_alice rounds media = answer_text config rounds (answer_by a b (bob_with media) plain none1)

-- what the answer commits: whether the leg of side A and that of side B are muxed
abbrev muxed_legs : Bool → Bool → List SectionSignal
muxed_legs first second = Commit (record (plain_leg alice_ip 6000) { mux = first }) (record (plain_leg bob_ip 6000) { mux = second }) ∷ []

abbrev signalled_by : List Round → List ℕ → List SectionSignal
signalled_by rounds media = signal rounds (answer_by a b (bob_with media) plain none1)

-- both sides have it
taken_mux_is_handed_back : written_to_alice (offered_with muxed_audio plain) muxed_audio ≡ bob_written (codes "a=rtcp-mux\r\n")
unfolding offers_and_answers
taken_mux_is_handed_back = refl

both_legs_are_muxed : signalled_by (offered_with muxed_audio plain) muxed_audio ≡ muxed_legs true true
unfolding signal
both_legs_are_muxed = refl

-- the side that answers declines it
declined_mux_is_not_handed_back : written_to_alice (offered_with muxed_audio plain) audio ≡ bob_written []
unfolding offers_and_answers
declined_mux_is_not_handed_back = refl

no_leg_is_muxed : signalled_by (offered_with muxed_audio plain) audio ≡ muxed_legs false false
unfolding signal
no_leg_is_muxed = refl

-- it declines, and the proxy accepts in its place
accept_hands_it_back : written_to_alice (offered_with muxed_audio accepting) audio ≡ bob_written (codes "a=rtcp-mux\r\n")
unfolding offers_and_answers
accept_hands_it_back = refl

offerers_leg_alone_is_muxed : signalled_by (offered_with muxed_audio accepting) audio ≡ muxed_legs true false
unfolding signal
offerers_leg_alone_is_muxed = refl

-- nothing was written to it; what it adds makes no leg muxed
demux_hands_it_back : written_to_alice (offered_with muxed_audio demuxing) muxed_audio ≡ bob_written (codes "a=rtcp-mux\r\n")
unfolding offers_and_answers
demux_hands_it_back = refl

answerers_leg_is_not_muxed : signalled_by (offered_with muxed_audio demuxing) muxed_audio ≡ muxed_legs true false
unfolding signal
answerers_leg_is_not_muxed = refl

-- the side that offered hasn't got it, and the other side takes it up
added_mux_is_not_handed_back : written_to_alice (offered_with audio adding) muxed_audio ≡ bob_written []
unfolding offers_and_answers
added_mux_is_not_handed_back = refl

answerers_leg_alone_is_muxed : signalled_by (offered_with audio adding) muxed_audio ≡ muxed_legs false true
unfolding signal
answerers_leg_alone_is_muxed = refl

-- neither `demux` nor `accept` muxes a side that didn't offer it
accept_needs_an_offer : signalled_by (offered_with audio accepting) muxed_audio ≡ muxed_legs false false
unfolding signal
accept_needs_an_offer = refl

-- a rejected section is written without it
rejected_section_has_no_mux : written_to_alice (offered_with muxed_audio accepting) (no_audio ++ codes "a=rtcp-mux\r\n") ≡ codes "v=0\r\nc=IN IP4 198.51.100.20\r\nm=audio 0 RTP/AVP 0\r\nc=IN IP4 203.0.113.1\r\n"
unfolding offers_and_answers
rejected_section_has_no_mux = refl

-- a later answer to the same offer decides anew
later_answer_decides_anew : signalled_by (Answered (answer_by a b (bob_with muxed_audio) plain none1) ∷ offered_with muxed_audio plain) audio ≡ muxed_legs false false
unfolding signal
later_answer_decides_anew = refl

-- so does a later offer: what was muxed before isn't any more
later_offer_decides_anew : signal (Offered (offer_by a (alice_with audio) plain none1) [] [] ∷ Answered (answer_by a b (bob_with muxed_audio) plain none1) ∷ offered_with muxed_audio plain)
    (answer_by a b (bob_with muxed_audio) plain none1)
    ≡ muxed_legs false false
unfolding signal
later_offer_decides_anew = refl

-- side B offers, and side A answers
offer_of_the_other_side : signal (Offered (offer_by b (bob_with muxed_audio) demuxing none1) [] [] ∷ answered_once) (answer_by b a (alice_with muxed_audio) plain none1) ≡ muxed_legs false true
unfolding signal
offer_of_the_other_side = refl

-- the words of the answer's own command say nothing
answers_words_are_ignored : signal (offered_with muxed_audio plain) (answer_by a b (bob_with audio) accepting none1) ≡ muxed_legs false false
unfolding signal
answers_words_are_ignored = refl
