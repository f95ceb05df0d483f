-- Worked rows of calls with SRTP on a side.
use Rattle.std.proofs.Common.{◌≡◌, ℕ, List, [], ◌∷◌, ◌++◌, Option, Some, None, refl, replicate}
use Rattle.sdes_lines.specs.declared.crypto_line.Suite.TheVariants.{Tag80, Tag32}
use Rattle.sdes_lines.specs.declared.crypto_line.CryptoLine.{CryptoLine}
use Rattle.sdp_text.specs.declared.proto.Proto.TheVariants.{Avp, Avpf, Savp, Savpf}
use Rattle.ng_reply.specs.declared.code.ErrorCode.TheVariants.{E8, E12}
use Rattle.port_pool.specs.declared.holder.Side.TheVariants.{A, B}
use Rattle.port_pool.specs.declared.signal.LegSignal.{LegSignal}
use Rattle.port_pool.specs.declared.signal.SectionSignal.TheVariants.{Commit, Reject}
use Rattle.port_pool.specs.Signals.{NewKey}
use Rattle.offer_answer.specs.Rounds.{Round, Offered, Answered, OfferAsk, AnswerAsk}
use Rattle.offer_answer.specs.Keys.{last_lines}
use Rattle.offer_answer.specs.Plan.{offer_fault, demand, answer_fault, signal, protocol}
use Rattle.offer_answer.proofs.rows.Calls.{plain, towards, alice_ip, bob_ip, alice_with, bob_with, audio, feedback_audio, secure_audio, no_secure_audio, no_audio, video, line80, line32, two_legs, key, place, nothing, new_two, offer_by, answer_by, a, b, d, none1, none2, audio_offer, audio_answer, plain_leg}

-- a committed leg with SRTP: the line that its side chose, and the number of the key that it is sent to under
abbrev secure_leg : LegSignal → CryptoLine → ℕ → LegSignal
secure_leg leg line number = record leg { inbound = Some (line.key, line.suite); outbound = Some number }

-- a line with this tag that carries the key with this number
abbrev carrying : ℕ → NewKey → Option CryptoLine
carrying tag k = Some (record { tag = tag; suite = k.suite; key = k.bytes })

-- AVP towards SAVP: two keys, the one of 80 bits first.

abbrev securing : OfferAsk
securing = offer_by a (alice_with audio) (towards Savp) none1

abbrev two_keys : List NewKey
two_keys = key 0 0 B Tag80 ∷ key 1 0 B Tag32 ∷ []

abbrev secured : List Round
secured = Offered securing (two_legs 0 0) two_keys ∷ []

two_keys_are_drawn : demand [] securing ≡ record { pairs = new_two 0; keys = place 0 B Tag80 ∷ place 0 B Tag32 ∷ []; dropped = [] }
unfolding demand
two_keys_are_drawn = refl

two_lines_are_offered : last_lines secured 0 ≡ carrying 1 (key 0 0 B Tag80) ∷ carrying 2 (key 1 0 B Tag32) ∷ []
two_lines_are_offered = refl

-- The answer takes one of them up; which one decides under which key B is sent to.

abbrev first_line : CryptoLine
first_line = record { tag = 1; suite = Tag80; key = replicate 30 40 }

abbrev second_line : CryptoLine
second_line = record { tag = 2; suite = Tag32; key = replicate 30 41 }

abbrev takes : List ℕ → CryptoLine → AnswerAsk
takes to line = answer_by a to (bob_with secure_audio) plain (Some line ∷ [])

takes_no_line : answer_fault secured (answer_by a b (bob_with secure_audio) plain none1) ≡ Some E8
unfolding answer_fault
takes_no_line = refl

-- whatever the answer's own protocol is
plain_answer_takes_no_line : answer_fault secured audio_answer ≡ Some E8
unfolding answer_fault
plain_answer_takes_no_line = refl

takes_first_line : answer_fault secured (takes b first_line) ≡ None
unfolding answer_fault
takes_first_line = refl

-- a section that the answer doesn't use needs no line
rejects_without_line : answer_fault secured (answer_by a b (bob_with no_audio) plain none1) ≡ None
unfolding answer_fault
rejects_without_line = refl

-- nor does one that the offer doesn't use
unused_needs_no_line_taken : answer_fault (Offered (offer_by a (alice_with no_audio) (towards Savp) none1) [] [] ∷ []) (answer_by a b (bob_with secure_audio) plain none1) ≡ None
unfolding answer_fault
unused_needs_no_line_taken = refl

-- the number of sections comes before the crypto lines
count_before_lines : answer_fault secured (answer_by a b (bob_with (secure_audio ++ video)) plain none2) ≡ Some E12
unfolding answer_fault
count_before_lines = refl

first_key_in_force : signal secured (takes b first_line) ≡ Commit (plain_leg alice_ip 6000) (secure_leg (plain_leg bob_ip 6000) first_line 0) ∷ []
unfolding signal
first_key_in_force = refl

abbrev taken : List Round
taken = Answered (takes b first_line) ∷ secured

abbrev taken_otherwise : List Round
taken_otherwise = Answered (takes d second_line) ∷ taken

second_key_in_force : signal taken (takes d second_line) ≡ Commit (plain_leg alice_ip 6000) (secure_leg (plain_leg bob_ip 6000) second_line 1) ∷ []
unfolding signal
second_key_in_force = refl

-- a key is kept over further answers
first_key_again : signal taken_otherwise (takes b first_line) ≡ Commit (plain_leg alice_ip 6000) (secure_leg (plain_leg bob_ip 6000) first_line 0) ∷ []
unfolding signal
first_key_again = refl

profile_of_b : protocol taken 0 B ≡ Some Savp
unfolding protocol
profile_of_b = refl

profile_of_a : protocol taken 0 A ≡ Some Avp
unfolding protocol
profile_of_a = refl

-- A new offer keeps the profile in force on the other leg, and carries as tag 1 the key in force alone.

new_offer_draws_nothing : demand taken audio_offer ≡ nothing
unfolding demand
new_offer_draws_nothing = refl

carries_key_in_force : last_lines (Offered audio_offer [] [] ∷ taken) 0 ≡ carrying 1 (key 0 0 B Tag80) ∷ None ∷ []
carries_key_in_force = refl

carries_other_key_in_force : last_lines (Offered audio_offer [] [] ∷ taken_otherwise) 0 ≡ carrying 1 (key 1 0 B Tag32) ∷ None ∷ []
carries_other_key_in_force = refl

-- what stands while the new offer is open
in_force_while_open : protocol (Offered (offer_by a (alice_with audio) (towards Avp) none1) [] [] ∷ taken) 0 B ≡ Some Savp
unfolding protocol
in_force_while_open = refl

-- the protocol that is asked for comes before the one in force
asked_comes_first : protocol (Answered audio_answer ∷ Offered (offer_by a (alice_with audio) (towards Avpf) none1) [] [] ∷ taken) 0 B ≡ Some Avpf
unfolding protocol
asked_comes_first = refl

-- towards plain RTP no line is written, though a key is in force
plain_has_no_line : last_lines (Offered (offer_by a (alice_with audio) (towards Avp) none1) [] [] ∷ taken) 0 ≡ None ∷ None ∷ []
plain_has_no_line = refl

-- a section that isn't active has no line either
unused_has_no_line : last_lines (Offered (offer_by a (alice_with no_audio) plain none1) [] [] ∷ taken) 0 ≡ None ∷ None ∷ []
unused_has_no_line = refl

-- an offer that nobody answered changes neither the profile nor the key in force
replaced_offer_changes_nothing : last_lines (Offered audio_offer [] [] ∷ Offered (offer_by a (alice_with audio) (towards Avp) none1) [] [] ∷ taken) 0
    ≡ carrying 1 (key 0 0 B Tag80) ∷ None ∷ []
replaced_offer_changes_nothing = refl

-- The other side offers.

abbrev bobs_offer : OfferAsk
bobs_offer = offer_by b (bob_with secure_audio) (towards Avp) (Some line80 ∷ [])

no_key_for_the_one_it_has : demand taken bobs_offer ≡ nothing
unfolding demand
no_key_for_the_one_it_has = refl

no_key_for_the_other_one_it_has : demand taken (offer_by b (bob_with secure_audio) (towards Avp) (Some line32 ∷ [])) ≡ nothing
unfolding demand
no_key_for_the_other_one_it_has = refl

-- A's profile in force is plain, so B's offer is written plain without being asked
plain_to_a : last_lines (Offered (offer_by b (bob_with secure_audio) plain (Some line80 ∷ [])) [] [] ∷ taken) 0 ≡ None ∷ None ∷ []
plain_to_a = refl

-- B is the offerer now: sent to under its key for the suite of the line that it chose
bobs_line_decides : signal (Offered (offer_by b (bob_with secure_audio) plain (Some line32 ∷ [])) [] [] ∷ taken) (answer_by b a (alice_with audio) plain none1)
    ≡ Commit (plain_leg alice_ip 6000) (secure_leg (plain_leg bob_ip 6000) line32 1) ∷ []
unfolding signal
bobs_line_decides = refl

-- A crypto line in a section that isn't offered with SRTP means nothing.

abbrev stray_line : OfferAsk
stray_line = offer_by a (alice_with audio) plain (Some line80 ∷ [])

stray_line_draws_nothing : demand [] stray_line ≡ record { pairs = new_two 0; keys = []; dropped = [] }
unfolding demand
stray_line_draws_nothing = refl

stray_line_is_not_committed : signal (Offered stray_line (two_legs 0 0) [] ∷ []) audio_answer ≡ Commit (plain_leg alice_ip 6000) (plain_leg bob_ip 6000) ∷ []
unfolding signal
stray_line_is_not_committed = refl

-- SAVP towards AVP: one key, for the offerer's chosen line.

abbrev unsecuring : OfferAsk
unsecuring = offer_by a (alice_with secure_audio) (towards Avp) (Some line32 ∷ [])

no_usable_line : offer_fault [] (offer_by a (alice_with secure_audio) (towards Avp) none1) ≡ Some E8
unfolding offer_fault
no_usable_line = refl

-- the second section's line is asked for too, a plain section's isn't
no_usable_second_line : offer_fault [] (offer_by a (alice_with (secure_audio ++ secure_audio)) plain (Some line80 ∷ None ∷ [])) ≡ Some E8
unfolding offer_fault
no_usable_second_line = refl

plain_sections_need_no_line : offer_fault [] (offer_by a (alice_with (secure_audio ++ video)) plain (Some line80 ∷ None ∷ [])) ≡ None
unfolding offer_fault
plain_sections_need_no_line = refl

-- early feedback alone is no SRTP
feedback_needs_no_line : offer_fault [] (offer_by a (alice_with feedback_audio) plain none1) ≡ None
unfolding offer_fault
feedback_needs_no_line = refl

feedback_draws_nothing : demand [] (offer_by a (alice_with audio) (towards Avpf) none1) ≡ record { pairs = new_two 0; keys = []; dropped = [] }
unfolding demand
feedback_draws_nothing = refl

-- nor is a section that isn't active
unused_section_needs_no_line : offer_fault [] (offer_by a (alice_with (audio ++ no_secure_audio)) plain none2) ≡ None
unfolding offer_fault
unused_section_needs_no_line = refl

-- the number of sections comes before the crypto lines
count_before_lines_of_offers : offer_fault
    (Answered (answer_by a b (bob_with (audio ++ video)) plain none2) ∷ Offered (offer_by a (alice_with (audio ++ video)) plain none2) (two_legs 0 0 ++ two_legs 1 2) [] ∷ [])
    (offer_by a (alice_with secure_audio) plain none1) ≡ Some E12
unfolding offer_fault
count_before_lines_of_offers = refl

one_key_is_drawn : demand [] unsecuring ≡ record { pairs = new_two 0; keys = place 0 A Tag32 ∷ []; dropped = [] }
unfolding demand
one_key_is_drawn = refl

abbrev unsecured : List Round
unsecured = Offered unsecuring (two_legs 0 0) (key 0 0 A Tag32 ∷ []) ∷ []

plain_is_offered : last_lines unsecured 0 ≡ None ∷ None ∷ []
plain_is_offered = refl

plain_answer_is_taken : answer_fault unsecured audio_answer ≡ None
unfolding answer_fault
plain_answer_is_taken = refl

secure_answer_to_plain_needs_no_line : answer_fault unsecured (answer_by a b (bob_with secure_audio) plain none1) ≡ None
unfolding answer_fault
secure_answer_to_plain_needs_no_line = refl

alice_is_sent_to_under_her_suite : signal unsecured audio_answer ≡ Commit (secure_leg (plain_leg alice_ip 6000) line32 0) (plain_leg bob_ip 6000) ∷ []
unfolding signal
alice_is_sent_to_under_her_suite = refl

-- SAVP on both sides: the offerer's key comes before the other side's; section by section.

both_sides_draw : demand [] (offer_by a (alice_with (secure_audio ++ secure_audio)) plain (Some line80 ∷ Some line32 ∷ []))
    ≡ record {
      pairs = new_two 0 ++ new_two 1;
      keys = place 0 A Tag80 ∷ place 0 B Tag80 ∷ place 0 B Tag32 ∷ place 1 A Tag32 ∷ place 1 B Tag80 ∷ place 1 B Tag32 ∷ [];
      dropped = [];
    }
unfolding demand
both_sides_draw = refl

-- a section that isn't active draws nothing
unused_draws_nothing : demand [] (offer_by a (alice_with (no_audio ++ audio)) (towards Savp) none2)
    ≡ record { pairs = new_two 1; keys = place 1 B Tag80 ∷ place 1 B Tag32 ∷ []; dropped = [] }
unfolding demand
unused_draws_nothing = refl

-- Keys that were drawn and are not in force.

-- an offer in place of an open one draws no second key and offers both again
replaced_offer_draws_nothing : demand secured securing ≡ nothing
unfolding demand
replaced_offer_draws_nothing = refl

offers_both_again : last_lines (Offered securing [] [] ∷ secured) 0 ≡ carrying 1 (key 0 0 B Tag80) ∷ carrying 2 (key 1 0 B Tag32) ∷ []
offers_both_again = refl

-- the offerer that chooses another suite gets a key for that one
other_suite_draws : demand unsecured (offer_by a (alice_with secure_audio) (towards Avp) (Some line80 ∷ [])) ≡ record { pairs = []; keys = place 0 A Tag80 ∷ []; dropped = [] }
unfolding demand
other_suite_draws = refl

-- a leg that was committed with plain RTP has no key in force: both are offered again, and none is drawn
abbrev plain_since : List Round
plain_since = Answered audio_answer ∷ Offered (offer_by a (alice_with audio) (towards Avp) none1) [] [] ∷ taken

plain_leg_has_no_key : signal (Offered (offer_by a (alice_with audio) (towards Avp) none1) [] [] ∷ taken) audio_answer ≡ Commit (plain_leg alice_ip 6000) (plain_leg bob_ip 6000) ∷ []
unfolding signal
plain_leg_has_no_key = refl

secured_again_draws_nothing : demand plain_since securing ≡ nothing
unfolding demand
secured_again_draws_nothing = refl

both_old_keys_again : last_lines (Offered securing [] [] ∷ plain_since) 0 ≡ carrying 1 (key 0 0 B Tag80) ∷ carrying 2 (key 1 0 B Tag32) ∷ []
both_old_keys_again = refl

-- A leg that was committed as the offerer's, with one key, is later offered SRTP: the key in force alone.
abbrev unsecured_taken : List Round
unsecured_taken = Answered audio_answer ∷ unsecured

one_line_to_a : last_lines (Offered (offer_by b (bob_with audio) plain none1) [] [] ∷ unsecured_taken) 0 ≡ carrying 1 (key 0 0 A Tag32) ∷ None ∷ []
one_line_to_a = refl

key_in_force_draws_no_other : demand unsecured_taken (offer_by b (bob_with audio) plain none1) ≡ nothing
unfolding demand
key_in_force_draws_no_other = refl

-- with a key for one suite and none in force, the other one alone is drawn, and both are offered
abbrev offered_to_a : List Round
offered_to_a = Answered audio_answer ∷ Offered (offer_by a (alice_with audio) plain none1) [] [] ∷ unsecured_taken

missing_key_is_drawn : demand offered_to_a (offer_by b (bob_with audio) (towards Savp) none1) ≡ record { pairs = []; keys = place 0 A Tag80 ∷ []; dropped = [] }
unfolding demand
missing_key_is_drawn = refl

old_and_new_key : last_lines (Offered (offer_by b (bob_with audio) (towards Savp) none1) [] (key 1 0 A Tag80 ∷ []) ∷ offered_to_a) 0
    ≡ carrying 1 (key 1 0 A Tag80) ∷ carrying 2 (key 0 0 A Tag32) ∷ []
old_and_new_key = refl

-- Keys whose leg has gone.

abbrev gone : List Round
gone = Answered (answer_by a b (bob_with no_audio) plain none1) ∷ taken

gone_keys_are_drawn_anew : demand gone securing ≡ record { pairs = new_two 0; keys = place 0 B Tag80 ∷ place 0 B Tag32 ∷ []; dropped = [] }
unfolding demand
gone_keys_are_drawn_anew = refl

abbrev anew : List Round
anew = Offered securing (two_legs 0 2) (key 2 0 B Tag80 ∷ key 3 0 B Tag32 ∷ []) ∷ gone

new_lines_are_offered : last_lines anew 0 ≡ carrying 1 (key 2 0 B Tag80) ∷ carrying 2 (key 3 0 B Tag32) ∷ []
new_lines_are_offered = refl

gone_key_never_returns : signal anew (takes b first_line) ≡ Commit (plain_leg alice_ip 6000) (secure_leg (plain_leg bob_ip 6000) first_line 2) ∷ []
unfolding signal
gone_key_never_returns = refl

-- without a protocol in force the offer's own is written
own_after_gone : demand gone audio_offer ≡ record { pairs = new_two 0; keys = []; dropped = [] }
unfolding demand
own_after_gone = refl

-- an answer that takes no line up is refused also where the section's pairs have gone
gone_still_needs_line : answer_fault gone (answer_by a b (bob_with secure_audio) plain none1) ≡ Some E8
unfolding answer_fault
gone_still_needs_line = refl

gone_is_rejected : signal gone (takes b first_line) ≡ Reject ∷ []
unfolding signal
gone_is_rejected = refl

-- of two sections each has its own keys
abbrev two_secured : List Round
two_secured = Offered (offer_by a (alice_with (audio ++ audio)) (towards Savpf) none2) (two_legs 0 0 ++ two_legs 1 2)
    (key 0 0 B Tag80 ∷ key 1 0 B Tag32 ∷ key 2 1 B Tag80 ∷ key 3 1 B Tag32 ∷ []) ∷ []

second_sections_keys : last_lines two_secured 1 ≡ carrying 1 (key 2 1 B Tag80) ∷ carrying 2 (key 3 1 B Tag32) ∷ []
second_sections_keys = refl

each_section_by_its_line : signal two_secured (answer_by a b (bob_with (secure_audio ++ secure_audio)) plain (Some second_line ∷ Some first_line ∷ []))
    ≡ Commit (plain_leg alice_ip 6000) (secure_leg (plain_leg bob_ip 6000) second_line 1)
    ∷ Commit (plain_leg alice_ip 6000) (secure_leg (plain_leg bob_ip 6000) first_line 2) ∷ []
unfolding signal
each_section_by_its_line = refl
