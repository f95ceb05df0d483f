-- Worked rows of packets that are refused whatever key stands, or lost since the opposite leg is on hold.
use Rattle.std.proofs.Common.{◌≡◌, List, [], ◌∷◌, Some, None, refl}
use Rattle.relay_outside.specs.declared.address.Family.TheVariants.{V4}
use Rattle.rtp_packet.specs.declared.head.Half.TheVariants.{Rtp, Rtcp}
use Rattle.rtp_packet.specs.Head.{rtp_head, rtcp_ssrc}
use Rattle.port_pool.specs.Ports.{range_pairs}
use Rattle.port_pool.specs.declared.holder.Side.TheVariants.{B}
use Rattle.port_pool.specs.declared.holder.Holder.{Holder}
use Rattle.port_pool.specs.declared.signal.SectionSignal.TheVariants as section
use Rattle.call_cell.specs.declared.outcome.Refused.TheVariants as refused
use Rattle.call_cell.specs.declared.outcome.Lost.TheVariants as lost
use Rattle.call_cell.specs.declared.outcome.Outcome.{Outcome}
use Rattle.call_cell.specs.declared.outcome.Outcome.TheVariants as outcomes
use Rattle.call_cell.specs.Cells.{CellEntry, Prepare, Commit, End, call, legs, in_force, since_end}
use Rattle.call_cell.specs.Deeds.{deed}
use Rattle.call_cell.proofs.rows.Calls.{leg_a, leg_b, at_a, at_b, first_place, second_place, third_place, no_flags, strict, plain, side_a, side_b, held, prepared, committed, rejected, received, from_a, from_b, control_a, answered, steps, now, packet, outcomes_of, sent_to_a, sent_to_b, rtp_of, rtcp_of, fails}

abbrev stale : Outcome
stale = outcomes.Refused refused.Stale

abbrev unanswered : Outcome
unanswered = outcomes.Refused refused.NotAnswered

abbrev malformed : Outcome
malformed = outcomes.Refused refused.Malformed

-- a later lease of the same pair, by the same call or by another
abbrev again : Holder → Holder
again leg = record leg { generation = 2 }

abbrev of_other_call : Holder → Holder
of_other_call leg = record leg { call = 1; generation = 2 }

-- Stale: the leg has gone.

empty_cell : outcomes_of (steps [] (packet (from_a at_a 1) ∷ [])) ≡ stale ∷ []
unfolding deed
empty_cell = refl

-- another call has got the same cell and the same pairs
other_call_got_the_pair : outcomes_of (steps (answered side_a side_b) (now End ∷ now (Prepare 1 (of_other_call leg_b ∷ of_other_call leg_a ∷ []) [] []) ∷ now (committed side_a side_b) ∷ packet (from_a at_a 101) ∷ [])) ≡ stale ∷ []
unfolding deed
other_call_got_the_pair = refl

-- and its own packets are taken
other_call_is_relayed : outcomes_of (steps (answered side_a side_b) (now End ∷ now (Prepare 1 (of_other_call leg_b ∷ of_other_call leg_a ∷ []) [] []) ∷ now (committed side_a side_b) ∷ packet (received (of_other_call leg_a) Rtp at_a (rtp_of 1 1)) ∷ [])) ≡ sent_to_b at_b ∷ []
unfolding deed rtp_head range_pairs
other_call_is_relayed = refl

-- the same call has got the same pairs in a new lease
same_call_got_the_pair_again : outcomes_of (steps (answered side_a side_b) (now rejected ∷ now (Prepare 0 (again leg_b ∷ again leg_a ∷ []) [] []) ∷ now (committed side_a side_b) ∷ packet (from_a at_a 101) ∷ packet (received (again leg_a) Rtp at_a (rtp_of 1 1)) ∷ [])) ≡ sent_to_b at_b ∷ stale ∷ []
unfolding deed rtp_head range_pairs
same_call_got_the_pair_again = refl

section_was_rejected : outcomes_of (steps (answered side_a side_b) (now rejected ∷ packet (from_a at_a 1) ∷ [])) ≡ stale ∷ []
unfolding deed
section_was_rejected = refl

section_was_dropped : outcomes_of (steps [] (now prepared ∷ now (Prepare 0 [] [] (0 ∷ [])) ∷ packet (from_a at_a 1) ∷ [])) ≡ stale ∷ []
unfolding deed
section_was_dropped = refl

other_section_was_dropped : outcomes_of (steps (answered side_a side_b) (now (Prepare 0 [] [] (1 ∷ [])) ∷ packet (from_a at_a 1) ∷ [])) ≡ sent_to_b at_b ∷ []
unfolding deed rtp_head range_pairs
other_section_was_dropped = refl

-- one entry may drop a section and add its new legs
dropped_and_added : legs (steps [] (now prepared ∷ now (Prepare 0 (again leg_b ∷ again leg_a ∷ []) [] (0 ∷ [])) ∷ [])) ≡ again leg_b ∷ again leg_a ∷ []
dropped_and_added = refl

call_has_ended : outcomes_of (steps (answered side_a side_b) (now End ∷ packet (from_a at_a 1) ∷ [])) ≡ stale ∷ []
unfolding deed
call_has_ended = refl

pair_is_no_legs : outcomes_of (steps (answered side_a side_b) (packet (received (record leg_a { pair = 7 }) Rtp at_a (rtp_of 1 1)) ∷ [])) ≡ stale ∷ []
unfolding deed
pair_is_no_legs = refl

call_is_no_legs : outcomes_of (steps (answered side_a side_b) (packet (received (record leg_a { call = 7 }) Rtp at_a (rtp_of 1 1)) ∷ [])) ≡ stale ∷ []
unfolding deed
call_is_no_legs = refl

-- what is asked is asked of the leg that is found by call, pair and lease
leg_is_found : outcomes_of (steps (answered side_a side_b) (packet (received (record leg_a { section = 5; side = B }) Rtp first_place (rtp_of 1 1)) ∷ packet (from_b at_b 1) ∷ [])) ≡ sent_to_a first_place ∷ sent_to_b at_b ∷ []
unfolding deed rtp_head range_pairs
leg_is_found = refl

-- Not answered: no commit since the leg was added.

only_offered : outcomes_of (steps [] (now prepared ∷ packet (from_a at_a 1) ∷ packet (received leg_a Rtp at_a []) ∷ [])) ≡ unanswered ∷ unanswered ∷ []
unfolding deed
only_offered = refl

-- the commit of an earlier lease is none of this one
offered_again : outcomes_of (steps (answered side_a side_b) (now rejected ∷ now (Prepare 0 (again leg_b ∷ again leg_a ∷ []) [] []) ∷ packet (received (again leg_a) Rtp at_a (rtp_of 1 1)) ∷ [])) ≡ unanswered ∷ []
unfolding deed
offered_again = refl

-- a second section that the answer did not have
abbrev second_a : Holder
second_a = record leg_a { section = 1; pair = 3 }

abbrev second_b : Holder
second_b = record leg_b { section = 1; pair = 2 }

abbrev two_sections : List CellEntry
two_sections = steps (answered side_a side_b) (now (Prepare 0 (second_b ∷ second_a ∷ []) [] []) ∷ [])

second_section_is_open : outcomes_of (steps two_sections (packet (received second_a Rtp at_a (rtp_of 1 1)) ∷ packet (from_a at_a 1) ∷ [])) ≡ sent_to_b at_b ∷ unanswered ∷ []
unfolding deed rtp_head range_pairs
second_section_is_open = refl

abbrev both_answered : List CellEntry
both_answered = steps two_sections (now (Commit (section.Commit side_a side_b ∷ section.Commit side_a (plain third_place no_flags) ∷ [])) ∷ [])

-- the legs of the later Prepare stand last: legs stand in lease order
legs_in_order : legs two_sections ≡ leg_b ∷ leg_a ∷ second_b ∷ second_a ∷ []
legs_in_order = refl

-- a packet leaves by the opposite leg of its own section
own_section : outcomes_of (steps both_answered (packet (received second_a Rtp at_a (rtp_of 1 1)) ∷ packet (received second_b Rtp at_b (rtp_of 1 1)) ∷ [])) ≡ outcomes.Sent V4 30006 at_a 13 ∷ outcomes.Sent V4 30004 third_place 13 ∷ []
unfolding deed rtp_head range_pairs
own_section = refl

-- an answer that is shorter takes no section away
shorter_answer : outcomes_of (steps both_answered (now (committed side_a side_b) ∷ packet (received second_a Rtp at_a (rtp_of 1 1)) ∷ [])) ≡ outcomes.Sent V4 30004 third_place 13 ∷ []
unfolding deed rtp_head range_pairs
shorter_answer = refl

-- during an open offer what was committed stays in force
open_offer : in_force (steps (answered side_a side_b) (now (Prepare 0 [] [] []) ∷ [])) leg_a ≡ Some side_a
open_offer = refl

-- Malformed: no head of the half's kind. It is asked after the answer and before the source.

one_byte : outcomes_of (steps (answered side_a side_b) (packet (received leg_a Rtp at_a (128 ∷ [])) ∷ [])) ≡ malformed ∷ []
unfolding deed rtp_head
one_byte = refl

version_one : outcomes_of (steps (answered side_a side_b) (packet (received leg_a Rtp at_a (64 ∷ 0 ∷ 0 ∷ 1 ∷ 0 ∷ 0 ∷ 0 ∷ 0 ∷ 0 ∷ 0 ∷ 0 ∷ 1 ∷ [])) ∷ [])) ≡ malformed ∷ []
unfolding deed rtp_head
version_one = refl

-- an RTP packet at a port for RTCP
wrong_half : outcomes_of (steps (answered side_a side_b) (packet (received leg_a Rtcp at_a (rtp_of 1 1)) ∷ packet (received leg_a Rtp at_a (rtcp_of 1)) ∷ [])) ≡ malformed ∷ malformed ∷ []
unfolding deed rtp_head rtcp_ssrc
wrong_half = refl

malformed_before_source : outcomes_of (steps (answered (plain at_a strict) side_b) (packet (from_a first_place 1) ∷ packet (received leg_a Rtp second_place []) ∷ [])) ≡ malformed ∷ sent_to_b at_b ∷ []
unfolding deed rtp_head range_pairs
malformed_before_source = refl

-- Hold: the packet is accepted, and not sent.

held_back : outcomes_of (steps (answered side_a (held side_b)) (packet (from_a at_a 1) ∷ packet (control_a at_a) ∷ [])) ≡ outcomes.Lost lost.Hold ∷ outcomes.Lost lost.Hold ∷ []
unfolding deed rtp_head rtcp_ssrc
held_back = refl

-- the opposite leg's hold counts, not the own one
held_sends : outcomes_of (steps (answered side_a (held side_b)) (packet (from_b at_b 1) ∷ [])) ≡ sent_to_a at_a ∷ []
unfolding deed rtp_head range_pairs
held_sends = refl

-- what is held back was accepted, so its source was learned
held_is_accepted : outcomes_of (steps (answered (plain at_a strict) (held side_b)) (packet (from_a first_place 1) ∷ packet (from_a second_place 2) ∷ [])) ≡ outcomes.Refused refused.WrongSource ∷ outcomes.Lost lost.Hold ∷ []
unfolding deed rtp_head
held_is_accepted = refl

hold_ends : outcomes_of (steps (answered side_a (held side_b)) (packet (from_a at_a 1) ∷ now (committed side_a side_b) ∷ packet (from_a at_a 2) ∷ [])) ≡ sent_to_b at_b ∷ outcomes.Lost lost.Hold ∷ []
unfolding deed rtp_head range_pairs
hold_ends = refl

-- a send that fails
send_fails : outcomes_of (steps (answered side_a side_b) (fails (from_a at_a 1) ∷ [])) ≡ outcomes.Lost (lost.SendFault V4 30000) ∷ []
unfolding deed rtp_head range_pairs
send_fails = refl

-- The call is that of the first Prepare since the last End.

call_is_begun : call (since_end (steps (answered side_a side_b) (now End ∷ now (Prepare 1 [] [] []) ∷ now (Prepare 2 [] [] []) ∷ []))) ≡ Some 1
call_is_begun = refl

no_call : call (since_end (steps (answered side_a side_b) (now End ∷ []))) ≡ None
no_call = refl
