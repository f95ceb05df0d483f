-- Worked rows of calls with plain RTP.
use Rattle.std.proofs.Common.{◌≡◌, List, [], ◌∷◌, ◌++◌, false, true, Some, None, codes, refl}
use Rattle.sdp_text.specs.declared.proto.Proto.TheVariants.{Avp}
use Rattle.ng_reply.specs.declared.code.ErrorCode.TheVariants.{E10, E11, E12}
use Rattle.port_pool.specs.declared.holder.Side.TheVariants.{A, B}
use Rattle.port_pool.specs.declared.signal.SectionSignal.TheVariants.{Commit, Reject}
use Rattle.relay_outside.specs.declared.address.Ip.TheVariants as ips
use Rattle.offer_answer.specs.Rounds.{Round, Offered, Answered, OfferAsk}
use Rattle.offer_answer.specs.Plan.{offer_fault, demand, answer_fault, signal, tag, is_side, protocol}
use Rattle.offer_answer.proofs.rows.Calls.{plain, new_four, from_source, strict, handing_over, alice_ip, bob_ip, alice_with, bob_with, audio, no_audio, video, no_video, image, two_legs, new_two, nothing, offer_by, answer_by, a, b, d, none1, none2, audio_offer, audio_answer, offered_once, answered_once, plain_leg}

-- The first offer: no fault; two pairs, the other side's first; side A is its from-tag.

first_offer_is_taken : offer_fault [] audio_offer ≡ None
unfolding offer_fault
first_offer_is_taken = refl

first_offer_demands_two_pairs : demand [] audio_offer ≡ record { pairs = new_two 0; keys = []; dropped = [] }
unfolding demand
first_offer_demands_two_pairs = refl

two_sections_demand_four_pairs : demand [] (offer_by a (alice_with (audio ++ video)) plain none2) ≡ record { pairs = new_two 0 ++ new_two 1; keys = []; dropped = [] }
unfolding demand
two_sections_demand_four_pairs = refl

-- a section that carries no RTP gets no pairs
image_gets_no_pair : demand [] (offer_by a (alice_with (image ++ audio)) plain none2) ≡ record { pairs = new_two 1; keys = []; dropped = [] }
unfolding demand
image_gets_no_pair = refl

side_a_offered_first : tag offered_once A ≡ Some a
unfolding tag
side_a_offered_first = refl

nobody_answered : tag offered_once B ≡ None
unfolding tag
nobody_answered = refl

-- A repeated offer keeps the pairs; an offer by a tag that is no side's is refused.

repeated_offer_demands_nothing : demand offered_once audio_offer ≡ nothing
unfolding demand
repeated_offer_demands_nothing = refl

stranger_offers : offer_fault offered_once (offer_by b (alice_with audio) plain none1) ≡ Some E10
unfolding offer_fault
stranger_offers = refl

-- The answer: commits both sides; the answerer is side B.

answer_is_taken : answer_fault offered_once audio_answer ≡ None
unfolding answer_fault
answer_is_taken = refl

answer_commits : signal offered_once audio_answer ≡ Commit (plain_leg alice_ip 6000) (plain_leg bob_ip 6000) ∷ []
unfolding signal
answer_commits = refl

side_b_answered : tag answered_once B ≡ Some b
unfolding tag
side_b_answered = refl

b_is_a_side : is_side answered_once b ≡ true
unfolding is_side
b_is_a_side = refl

d_is_no_side : is_side answered_once d ≡ false
unfolding is_side
d_is_no_side = refl

not_in_force_before_answer : protocol offered_once 0 A ≡ None
unfolding protocol
not_in_force_before_answer = refl

in_force_after_answer : protocol answered_once 0 A ≡ Some Avp
unfolding protocol
in_force_after_answer = refl

-- Refused answers.

answer_from_stranger : answer_fault answered_once (answer_by (codes "q") b (bob_with audio) plain none1) ≡ Some E10
unfolding answer_fault
answer_from_stranger = refl

answer_to_oneself : answer_fault offered_once (answer_by a a (bob_with audio) plain none1) ≡ Some E10
unfolding answer_fault
answer_to_oneself = refl

answer_from_other_side : answer_fault answered_once (answer_by b a (bob_with audio) plain none1) ≡ Some E11
unfolding answer_fault
answer_from_other_side = refl

-- the side comes before the number of sections
other_side_with_two_sections : answer_fault answered_once (answer_by b a (bob_with (audio ++ video)) plain none2) ≡ Some E11
unfolding answer_fault
other_side_with_two_sections = refl

answer_with_two_sections : answer_fault answered_once (answer_by a b (bob_with (audio ++ video)) plain none2) ≡ Some E12
unfolding answer_fault
answer_with_two_sections = refl

-- an answer to the other side's offer by a tag that is no side's: the unknown tag comes first
settled : List Round
settled = Offered audio_offer [] [] ∷ answered_once

unknown_tag_comes_first : answer_fault settled (answer_by b d (bob_with (audio ++ video)) plain none2) ≡ Some E10
unfolding answer_fault settled
unknown_tag_comes_first = refl

-- Forked answers: until an offer follows the first answer, any other tag may answer and becomes side B.

forked_answer_is_taken : answer_fault answered_once (answer_by a d (bob_with audio) plain none1) ≡ None
unfolding answer_fault
forked_answer_is_taken = refl

forked : List Round
forked = Answered (answer_by a d (bob_with audio) plain none1) ∷ answered_once

last_fork_is_side_b : tag forked B ≡ Some d
unfolding tag forked
last_fork_is_side_b = refl

former_fork_is_no_side : is_side forked b ≡ false
unfolding is_side forked
former_fork_is_no_side = refl

forked_further : List Round
forked_further = Offered audio_offer [] [] ∷ forked

fork_after_an_offer : answer_fault forked_further (answer_by a b (bob_with audio) plain none1) ≡ Some E10
unfolding answer_fault forked_further forked
fork_after_an_offer = refl

fork_that_stands : answer_fault forked_further (answer_by a d (bob_with audio) plain none1) ≡ None
unfolding answer_fault forked_further forked
fork_that_stands = refl

side_b_stays : tag (Answered (answer_by a d (bob_with audio) plain none1) ∷ forked_further) B ≡ Some d
unfolding tag forked_further forked
side_b_stays = refl

-- an offer in place of one that nobody answered leaves it open who answers
first_answer_to_a_repeated_offer : answer_fault (Offered audio_offer [] [] ∷ offered_once) audio_answer ≡ None
unfolding answer_fault
first_answer_to_a_repeated_offer = refl

-- The other side offers.

bobs_offer : OfferAsk
bobs_offer = offer_by b (bob_with audio) plain none1

bob_may_offer : offer_fault answered_once bobs_offer ≡ None
unfolding offer_fault bobs_offer
bob_may_offer = refl

bobs_offer_demands_nothing : demand answered_once bobs_offer ≡ nothing
unfolding demand bobs_offer
bobs_offer_demands_nothing = refl

bob_offered : List Round
bob_offered = Offered bobs_offer [] [] ∷ answered_once

alice_answers_bob : answer_fault bob_offered (answer_by b a (alice_with audio) plain none1) ≡ None
unfolding answer_fault bob_offered bobs_offer
alice_answers_bob = refl

bob_does_not_answer_himself : answer_fault bob_offered (answer_by a b (alice_with audio) plain none1) ≡ Some E11
unfolding answer_fault bob_offered bobs_offer
bob_does_not_answer_himself = refl

-- side A's leg stands first in the signal, whoever offered
answer_to_bob_commits : signal bob_offered (answer_by b a (alice_with audio) plain none1) ≡ Commit (plain_leg alice_ip 6000) (plain_leg bob_ip 6000) ∷ []
unfolding signal bob_offered bobs_offer
answer_to_bob_commits = refl

-- the answer to it leaves the sides as they are
sides_stay : tag (Answered (answer_by b a (alice_with audio) plain none1) ∷ bob_offered) B ≡ Some b
unfolding tag bob_offered bobs_offer
sides_stay = refl

-- a new section of side B's offer: side A's leg is the one that the reply names
bob_adds_a_section : demand answered_once (offer_by b (bob_with (audio ++ video)) plain none2) ≡ record { pairs = new_four 1 A ∷ new_four 1 B ∷ []; keys = []; dropped = [] }
unfolding demand
bob_adds_a_section = refl

-- an offer replaces the open offer of the other side, and the answer then goes to the new one
alice_replaces_bobs_offer : offer_fault bob_offered audio_offer ≡ None
unfolding offer_fault bob_offered bobs_offer
alice_replaces_bobs_offer = refl

replaced_offer_is_not_answered : answer_fault (Offered audio_offer [] [] ∷ bob_offered) (answer_by b a (alice_with audio) plain none1) ≡ Some E11
unfolding answer_fault bob_offered bobs_offer
replaced_offer_is_not_answered = refl

-- The number of sections.

offered_two : List Round
offered_two = Offered (offer_by a (alice_with (audio ++ video)) plain none2) (two_legs 0 0 ++ two_legs 1 2) [] ∷ []

answered_two : List Round
answered_two = Answered (answer_by a b (bob_with (audio ++ video)) plain none2) ∷ offered_two

fewer_before_an_answer : offer_fault offered_two audio_offer ≡ None
unfolding offer_fault offered_two
fewer_before_an_answer = refl

fewer_after_an_answer : offer_fault answered_two audio_offer ≡ Some E12
unfolding offer_fault answered_two offered_two
fewer_after_an_answer = refl

-- the unknown tag comes first
stranger_with_fewer : offer_fault answered_two (offer_by (codes "q") (alice_with audio) plain none1) ≡ Some E10
unfolding offer_fault answered_two offered_two
stranger_with_fewer = refl

more_after_an_answer : offer_fault answered_once (offer_by a (alice_with (audio ++ video)) plain none2) ≡ None
unfolding offer_fault
more_after_an_answer = refl

-- an offer with more sections that nobody answered doesn't count
fewer_than_an_open_offer : offer_fault (Offered (offer_by a (alice_with (audio ++ video)) plain none2) (two_legs 1 2) [] ∷ answered_once) audio_offer ≡ None
unfolding offer_fault
fewer_than_an_open_offer = refl

-- Pairs that go.

-- a section that no answer committed and that a new offer doesn't use is dropped
unused_section_is_dropped : demand offered_two audio_offer ≡ record { pairs = []; keys = []; dropped = 1 ∷ [] }
unfolding demand offered_two
unused_section_is_dropped = refl

dropped : List Round
dropped = Offered audio_offer [] [] ∷ offered_two

dropped_section_gets_new_pairs : demand dropped (offer_by a (alice_with (audio ++ video)) plain none2) ≡ record { pairs = new_two 1; keys = []; dropped = [] }
unfolding demand dropped offered_two
dropped_section_gets_new_pairs = refl

-- a committed one stays until an answer rejects it
paused : List Round
paused = Offered (offer_by a (alice_with (audio ++ no_video)) plain none2) [] [] ∷ answered_two

unused_section_stays : demand answered_two (offer_by a (alice_with (audio ++ no_video)) plain none2) ≡ nothing
unfolding demand answered_two offered_two
unused_section_stays = refl

used_again_without_new_pairs : demand paused (offer_by a (alice_with (audio ++ video)) plain none2) ≡ nothing
unfolding demand paused answered_two offered_two
used_again_without_new_pairs = refl

still_in_force : protocol paused 1 B ≡ Some Avp
unfolding protocol paused answered_two offered_two
still_in_force = refl

-- a section that the offer doesn't use is rejected, whatever the answer says
section_of_the_answer_alone : signal paused (answer_by a b (bob_with (audio ++ video)) plain none2) ≡ Commit (plain_leg alice_ip 6000) (plain_leg bob_ip 6000) ∷ Reject ∷ []
unfolding signal paused answered_two offered_two
section_of_the_answer_alone = refl

-- its pairs go then
unused : List Round
unused = Answered (answer_by a b (bob_with (audio ++ video)) plain none2) ∷ paused

unused_gets_new_pairs : demand unused (offer_by a (alice_with (audio ++ video)) plain none2) ≡ record { pairs = new_two 1; keys = []; dropped = [] }
unfolding demand unused paused answered_two offered_two
unused_gets_new_pairs = refl

-- port 0 in an answer rejects the section; its pairs go, a later answer to the same offer doesn't bring it back, and the next offer gets new ones
port_zero_rejects : signal offered_once (answer_by a b (bob_with no_audio) plain none1) ≡ Reject ∷ []
unfolding signal
port_zero_rejects = refl

rejected : List Round
rejected = Answered (answer_by a b (bob_with no_audio) plain none1) ∷ answered_once

rejected_stays_rejected : signal rejected audio_answer ≡ Reject ∷ []
unfolding signal rejected
rejected_stays_rejected = refl

rejected_is_not_in_force : protocol rejected 0 A ≡ None
unfolding protocol rejected
rejected_is_not_in_force = refl

rejected_gets_new_pairs : demand rejected audio_offer ≡ record { pairs = new_two 0; keys = []; dropped = [] }
unfolding demand rejected
rejected_gets_new_pairs = refl

-- A section counts as committed only since it got its pairs: the new pairs are dropped by an offer that doesn't use them.
offered_anew : List Round
offered_anew = Offered audio_offer (two_legs 0 2) [] ∷ rejected

new_pairs_are_dropped : demand offered_anew (offer_by a (alice_with no_audio) plain none1) ≡ record { pairs = []; keys = []; dropped = 0 ∷ [] }
unfolding demand offered_anew rejected
new_pairs_are_dropped = refl

new_pairs_are_not_in_force : protocol offered_anew 0 A ≡ None
unfolding protocol offered_anew rejected
new_pairs_are_not_in_force = refl

-- What is signalled.

-- 0.0.0.0 is hold
hold_is_signalled : signal offered_once (answer_by a b (codes "v=0\r\nc=IN IP4 0.0.0.0\r\n" ++ audio) plain none1)
    ≡ Commit (plain_leg alice_ip 6000) (record (plain_leg (ips.V4 (0 ∷ 0 ∷ 0 ∷ 0 ∷ [])) 6000) { hold = true }) ∷ []
unfolding signal
hold_is_signalled = refl

-- `a=rtcp` gives the place of RTCP
rtcp_line_is_signalled : signal offered_once (answer_by a b (bob_with (audio ++ codes "a=rtcp:7009 IN IP4 198.51.100.21\r\n")) plain none1)
    ≡ Commit (plain_leg alice_ip 6000) (record (plain_leg bob_ip 6000) { rtcp = record { ip = ips.V4 (198 ∷ 51 ∷ 100 ∷ 21 ∷ []); port = 7009 } }) ∷ []
unfolding signal
rtcp_line_is_signalled = refl

-- the source address takes the place of the description's, with its ports; hold is the description's
source_is_signalled : signal offered_once (answer_by a b (codes "v=0\r\nc=IN IP4 0.0.0.0\r\n" ++ audio) from_source none1)
    ≡ Commit (plain_leg alice_ip 6000) (record (plain_leg (ips.V4 (192 ∷ 0 ∷ 2 ∷ 77 ∷ [])) 6000) { hold = true }) ∷ []
unfolding signal
source_is_signalled = refl

-- each side has the flags of its own offer or answer
flags_are_each_sides : signal (Offered (offer_by a (alice_with audio) strict none1) (two_legs 0 0) [] ∷ []) (answer_by a b (bob_with audio) handing_over none1)
    ≡ Commit (record (plain_leg alice_ip 6000) { flags = strict.flags }) (record (plain_leg bob_ip 6000) { flags = handing_over.flags }) ∷ []
unfolding signal
flags_are_each_sides = refl
