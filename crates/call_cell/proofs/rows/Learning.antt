-- Worked rows of learning: where packets go, and whose packets are taken.
use Rattle.std.proofs.Common.{◌≡◌, true, [], ◌∷◌, Some, None, refl}
use Rattle.relay_outside.specs.declared.address.Family.TheVariants.{V4}
use Rattle.relay_outside.specs.declared.address.Addr.{Addr}
use Rattle.rtp_packet.specs.declared.head.Half.TheVariants.{Rtp, Rtcp}
use Rattle.rtp_packet.specs.Head.{rtp_head, rtcp_ssrc}
use Rattle.port_pool.specs.Ports.{range_pairs}
use Rattle.port_pool.specs.declared.holder.Side.TheVariants.{B}
use Rattle.call_cell.specs.declared.outcome.Refused.TheVariants as refused
use Rattle.call_cell.specs.declared.outcome.Lost.TheVariants as lost
use Rattle.call_cell.specs.declared.outcome.Outcome.TheVariants as outcomes
use Rattle.call_cell.specs.Cells.{CellEvent, Relay}
use Rattle.call_cell.specs.Lessons.{learned, endpoint}
use Rattle.call_cell.specs.Deeds.{deed, lost_deed}
use Rattle.call_cell.proofs.rows.Calls.{leg_a, leg_b, at_a, at_b, next_port, first_place, second_place, third_place, no_flags, strict, handover, strict_handover, asymmetric, strict_asymmetric, plain, side_a, side_b, held, committed, received, from_a, from_b, control_a, control_b, answered, steps, now, packet, outcomes_of, sent_to_a, sent_to_b, rtp_of}

-- Before any packet, packets go to the signalled addresses.

unlearned : endpoint (answered side_a side_b) leg_a Rtp ≡ Some at_a
unlearned = refl

unlearned_control : endpoint (answered side_a side_b) leg_a Rtcp ≡ Some (next_port at_a)
unlearned_control = refl

unlearned_packet : outcomes_of (steps (answered side_a side_b) (packet (from_a at_a 100) ∷ [])) ≡ sent_to_b at_b ∷ []
unfolding deed rtp_head range_pairs
unlearned_packet = refl

-- The first source is learned. Others are taken too, and change nothing.

first_source : learned (steps (answered side_a side_b) (packet (from_a first_place 1) ∷ packet (from_a second_place 2) ∷ [])) leg_a Rtp ≡ Some first_place
unfolding deed rtp_head
first_source = refl

both_are_sent : outcomes_of (steps (answered side_a side_b) (packet (from_a first_place 1) ∷ packet (from_a second_place 2) ∷ packet (from_b at_b 1) ∷ [])) ≡ sent_to_a first_place ∷ sent_to_b at_b ∷ sent_to_b at_b ∷ []
unfolding deed rtp_head range_pairs
both_are_sent = refl

-- a packet goes to what the opposite leg learned, not to where it came from or to what its own leg learned
towards_the_opposite : outcomes_of (steps (answered side_a side_b) (packet (from_a first_place 1) ∷ packet (from_b second_place 1) ∷ packet (from_a first_place 2) ∷ [])) ≡ sent_to_b second_place ∷ sent_to_a first_place ∷ sent_to_b at_b ∷ []
unfolding deed rtp_head range_pairs
towards_the_opposite = refl

-- Under `strict source` another source is refused, and the learned one is not.

strict_refuses : outcomes_of (steps (answered (plain at_a strict) side_b) (packet (from_a first_place 1) ∷ packet (from_a second_place 2) ∷ packet (from_a first_place 3) ∷ [])) ≡ sent_to_b at_b ∷ outcomes.Refused refused.WrongSource ∷ sent_to_b at_b ∷ []
unfolding deed rtp_head range_pairs
strict_refuses = refl

-- another port is another source, and another host too
strict_refuses_host : outcomes_of (steps (answered (plain at_a strict) side_b) (packet (from_a first_place 1) ∷ packet (from_a third_place 2) ∷ [])) ≡ outcomes.Refused refused.WrongSource ∷ sent_to_b at_b ∷ []
unfolding deed rtp_head range_pairs
strict_refuses_host = refl

-- it is the leg that is found whose learned source counts
strict_asks_the_leg : outcomes_of (steps (answered (plain at_a strict) side_b) (packet (from_a first_place 1) ∷ packet (received (record leg_a { section = 5; side = B }) Rtp second_place (rtp_of 1 1)) ∷ [])) ≡ outcomes.Refused refused.WrongSource ∷ sent_to_b at_b ∷ []
unfolding deed rtp_head range_pairs
strict_asks_the_leg = refl

-- the flags are those of the leg that received the packet
strict_is_of_its_side : outcomes_of (steps (answered (plain at_a strict) side_b) (packet (from_b first_place 1) ∷ packet (from_b second_place 2) ∷ [])) ≡ sent_to_a at_a ∷ sent_to_a at_a ∷ []
unfolding deed rtp_head range_pairs
strict_is_of_its_side = refl

-- a first source that isn't the signalled one is learned under `strict source` too
strict_learns : learned (steps (answered (plain at_a strict) side_b) (packet (from_a first_place 1) ∷ packet (from_a at_a 2) ∷ [])) leg_a Rtp ≡ Some first_place
unfolding deed rtp_head
strict_learns = refl

-- Under `media handover` a later source takes the place of the learned one, but not under `strict source`.

handover_moves : outcomes_of (steps (answered (plain at_a handover) side_b) (packet (from_a first_place 1) ∷ packet (from_a second_place 2) ∷ packet (from_b at_b 1) ∷ [])) ≡ sent_to_a second_place ∷ sent_to_b at_b ∷ sent_to_b at_b ∷ []
unfolding deed rtp_head range_pairs
handover_moves = refl

handover_moves_back : learned (steps (answered (plain at_a handover) side_b) (packet (from_a first_place 1) ∷ packet (from_a second_place 2) ∷ packet (from_a first_place 3) ∷ [])) leg_a Rtp ≡ Some first_place
unfolding deed rtp_head
handover_moves_back = refl

strict_handover_refuses : outcomes_of (steps (answered (plain at_a strict_handover) side_b) (packet (from_a first_place 1) ∷ packet (from_a second_place 2) ∷ packet (from_b at_b 1) ∷ [])) ≡ sent_to_a first_place ∷ outcomes.Refused refused.WrongSource ∷ sent_to_b at_b ∷ []
unfolding deed rtp_head range_pairs
strict_handover_refuses = refl

-- even if a packet of another source were accepted under it
abbrev heard_from : Addr → CellEvent
heard_from source = Relay (record { packet = from_a source 1; sent_ok = true; deed = lost_deed Rtp None lost.Hold })

strict_handover_stays : learned (steps (answered (plain at_a strict_handover) side_b) (now (heard_from first_place) ∷ now (heard_from second_place) ∷ [])) leg_a Rtp ≡ Some first_place
strict_handover_stays = refl

-- what counts is the flag with which the packet was taken
handover_then_none : learned (steps (answered side_a side_b) (packet (from_a first_place 1) ∷ now (committed (plain at_a handover) side_b) ∷ packet (from_a second_place 2) ∷ now (committed side_a side_b) ∷ packet (from_a third_place 3) ∷ [])) leg_a Rtp ≡ Some second_place
unfolding deed rtp_head
handover_then_none = refl

-- Under `asymmetric` nothing is learned, and packets go to the signalled address.

asymmetric_learns_nothing : learned (steps (answered (plain at_a asymmetric) side_b) (packet (from_a first_place 1) ∷ [])) leg_a Rtp ≡ None
unfolding deed rtp_head
asymmetric_learns_nothing = refl

asymmetric_stays : outcomes_of (steps (answered (plain at_a asymmetric) side_b) (packet (from_a first_place 1) ∷ packet (from_b at_b 1) ∷ [])) ≡ sent_to_a at_a ∷ sent_to_b at_b ∷ []
unfolding deed rtp_head range_pairs
asymmetric_stays = refl

asymmetric_refuses_none : outcomes_of (steps (answered (plain at_a strict) side_b) (packet (from_a first_place 1) ∷ now (committed (plain at_a strict_asymmetric) side_b) ∷ packet (from_a second_place 2) ∷ [])) ≡ sent_to_b at_b ∷ sent_to_b at_b ∷ []
unfolding deed rtp_head range_pairs
asymmetric_refuses_none = refl

-- what was learned before stands again after it
asymmetric_in_between : endpoint (steps (answered side_a side_b) (packet (from_a first_place 1) ∷ now (committed (plain at_a asymmetric) side_b) ∷ packet (from_a second_place 2) ∷ now (committed side_a side_b) ∷ [])) leg_a Rtp ≡ Some first_place
unfolding deed rtp_head
asymmetric_in_between = refl

asymmetric_now : endpoint (steps (answered side_a side_b) (packet (from_a first_place 1) ∷ now (committed (plain at_a asymmetric) side_b) ∷ [])) leg_a Rtp ≡ Some at_a
unfolding deed rtp_head
asymmetric_now = refl

-- RTCP is learned apart from RTP.

control_apart : learned (steps (answered side_a side_b) (packet (from_a first_place 1) ∷ [])) leg_a Rtcp ≡ None
unfolding deed rtp_head
control_apart = refl

control_is_sent : outcomes_of (steps (answered (plain at_a strict) side_b) (packet (from_a first_place 1) ∷ packet (control_a second_place) ∷ packet (control_b at_b) ∷ packet (from_b at_b 1) ∷ [])) ≡ sent_to_a first_place ∷ outcomes.Sent V4 30003 second_place 8 ∷ outcomes.Sent V4 30001 (next_port at_b) 8 ∷ sent_to_b at_b ∷ []
unfolding deed rtp_head rtcp_ssrc range_pairs
control_is_sent = refl

-- Learning starts over exactly where the signalled address of the half changes.

same_address_keeps : learned (steps (answered side_a side_b) (packet (from_a first_place 1) ∷ now (committed (plain at_a strict) (held side_b)) ∷ [])) leg_a Rtp ≡ Some first_place
unfolding deed rtp_head
same_address_keeps = refl

other_address_forgets : learned (steps (answered side_a side_b) (packet (from_a first_place 1) ∷ now (committed (plain third_place no_flags) side_b) ∷ [])) leg_a Rtp ≡ None
unfolding deed rtp_head
other_address_forgets = refl

-- the other leg's address is nothing to it
other_leg_keeps : learned (steps (answered side_a side_b) (packet (from_a first_place 1) ∷ now (committed side_a (plain third_place no_flags)) ∷ [])) leg_a Rtp ≡ Some first_place
unfolding deed rtp_head
other_leg_keeps = refl

-- nor is the other half's
other_half_keeps : learned (steps (answered side_a side_b) (packet (from_a first_place 1) ∷ packet (control_a second_place) ∷ now (committed (record side_a { rtp = third_place }) side_b) ∷ [])) leg_a Rtcp ≡ Some second_place
unfolding deed rtp_head rtcp_ssrc
other_half_keeps = refl

-- an address that changes and comes back was changed
back_again_forgets : learned (steps (answered side_a side_b) (packet (from_a first_place 1) ∷ now (committed (plain third_place no_flags) side_b) ∷ now (committed side_a side_b) ∷ [])) leg_a Rtp ≡ None
unfolding deed rtp_head
back_again_forgets = refl

-- what counts is the address before, not the first one
back_to_the_first_forgets : learned (steps (answered side_a side_b) (now (committed (plain third_place no_flags) side_b) ∷ packet (from_a first_place 1) ∷ now (committed side_a side_b) ∷ [])) leg_a Rtp ≡ None
unfolding deed rtp_head
back_to_the_first_forgets = refl

changed_once_keeps : learned (steps (answered side_a side_b) (now (committed (plain third_place no_flags) side_b) ∷ packet (from_a first_place 1) ∷ now (committed (plain third_place no_flags) (held side_b)) ∷ [])) leg_a Rtp ≡ Some first_place
unfolding deed rtp_head
changed_once_keeps = refl

forgotten_is_learned_anew : outcomes_of (steps (answered (plain at_a strict) side_b) (packet (from_a first_place 1) ∷ now (committed (plain third_place strict) side_b) ∷ packet (from_a second_place 2) ∷ packet (from_a first_place 3) ∷ [])) ≡ outcomes.Refused refused.WrongSource ∷ sent_to_b at_b ∷ sent_to_b at_b ∷ []
unfolding deed rtp_head range_pairs
forgotten_is_learned_anew = refl

-- A refused packet teaches nothing; one that is accepted and lost does.

malformed_teaches_nothing : learned (steps (answered side_a side_b) (packet (received leg_a Rtp first_place (128 ∷ [])) ∷ packet (from_a second_place 1) ∷ [])) leg_a Rtp ≡ Some second_place
unfolding deed rtp_head
malformed_teaches_nothing = refl

lost_teaches : learned (steps (answered side_a (held side_b)) (packet (from_a first_place 1) ∷ packet (from_a second_place 2) ∷ [])) leg_a Rtp ≡ Some first_place
unfolding deed rtp_head
lost_teaches = refl

-- what was taken for one leg teaches the other nothing
other_leg_learns_nothing : learned (steps (answered side_a side_b) (packet (from_a first_place 1) ∷ [])) leg_b Rtp ≡ None
unfolding deed rtp_head
other_leg_learns_nothing = refl
