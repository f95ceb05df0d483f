-- Worked rows of legs that take RTP and RTCP on one port and are sent both there, and of report blocks.
use Rattle.std.proofs.Common.{◌≡◌, ℕ, List, [], ◌∷◌, ◌++◌, map, true, Some, None, pos, refl}
use Rattle.std.specs.Prelude.{◌-ℤ◌}
use Rattle.relay_outside.specs.declared.address.Addr.{Addr}
use Rattle.relay_outside.specs.declared.address.Family.TheVariants.{V4}
use Rattle.rtp_packet.specs.declared.head.Half.{Half}
use Rattle.rtp_packet.specs.declared.head.Half.TheVariants.{Rtp, Rtcp}
use Rattle.rtp_packet.specs.Head.{rtp_head, rtcp_ssrc}
use Rattle.rtcp_mux.specs.PacketType.{half_of_packet}
use Rattle.rtcp_reports.specs.Compound.{compound_parts}
use Rattle.rtcp_reports.specs.ReportBlocks.{report_blocks, last_report_block}
use Rattle.port_pool.specs.Ports.{range_pairs}
use Rattle.port_pool.specs.declared.signal.LegSignal.{LegSignal}
use Rattle.call_cell.specs.declared.outcome.Refused.TheVariants as refused
use Rattle.call_cell.specs.declared.outcome.Outcome.TheVariants as outcomes
use Rattle.call_cell.specs.Cells.{CellEntry, Receipt}
use Rattle.call_cell.specs.Lessons.{learned}
use Rattle.call_cell.specs.Blocks.{last_report}
use Rattle.call_cell.specs.Deeds.{deed}
use Rattle.call_cell.specs.Demands.{accepted_count, sent_count}
use Rattle.call_cell.proofs.rows.Calls.{leg_a, leg_b, at_a, at_b, first_place, next_port, strict, plain, side_a, side_b, committed, received, from_a, from_b, control_a, control_b, answered, steps, now, packet, deeds, outcomes_of, rtcp_of, rtp_of}

-- a side with one port for both
abbrev muxed : LegSignal → LegSignal
muxed s = record s { mux = true }

-- side A has one port, side B two
abbrev one_and_two : List CellEntry
one_and_two = answered (muxed side_a) side_b

-- an RTCP packet from the one port of side A
abbrev control_at_rtp : Addr → Receipt
control_at_rtp source = received leg_a Rtp source (rtcp_of 286331153)

abbrev kinds_of : List CellEntry → List Half
kinds_of h = map (λ d. d.kind) (deeds h)

-- What a packet is, and where it goes.

-- RTCP from one port to two leaves by our port for RTCP to that of side B
to_two : outcomes_of (steps one_and_two (packet (control_at_rtp at_a) ∷ [])) ≡ outcomes.Sent V4 30001 (next_port at_b) 8 ∷ []
unfolding deed rtcp_ssrc half_of_packet range_pairs
to_two = refl

-- and back it leaves by our port for RTP to that of side A
to_one : outcomes_of (steps one_and_two (packet (control_b (next_port at_b)) ∷ [])) ≡ outcomes.Sent V4 30002 at_a 8 ∷ []
unfolding deed rtcp_ssrc range_pairs
to_one = refl

-- RTP goes from one port to the other
rtp_stays : outcomes_of (steps one_and_two (packet (from_a at_a 1) ∷ packet (from_b at_b 1) ∷ [])) ≡ outcomes.Sent V4 30002 at_a 13 ∷ outcomes.Sent V4 30000 at_b 13 ∷ []
unfolding deed rtp_head half_of_packet range_pairs
rtp_stays = refl

-- with one port on each side all goes by the ports for RTP
one_to_one : outcomes_of (steps (answered (muxed side_a) (muxed side_b)) (packet (control_at_rtp at_a) ∷ [])) ≡ outcomes.Sent V4 30000 at_b 8 ∷ []
unfolding deed rtcp_ssrc half_of_packet range_pairs
one_to_one = refl

-- on a side with two ports the port tells what a packet is: this one is too short for RTP
two_ports_tell : outcomes_of (steps (answered side_a (muxed side_b)) (packet (control_at_rtp at_a) ∷ [])) ≡ outcomes.Refused refused.Malformed ∷ []
unfolding deed rtp_head
two_ports_tell = refl

-- the other port of a side with one is for RTCP alone
other_port : outcomes_of (steps one_and_two (packet (control_a at_a) ∷ packet (received leg_a Rtcp at_a (rtp_of 5 1)) ∷ [])) ≡ outcomes.Refused refused.Malformed ∷ outcomes.Sent V4 30001 (next_port at_b) 8 ∷ []
unfolding deed rtcp_ssrc range_pairs
other_port = refl

-- an RTP packet with payload type 72 and the marker bit looks like RTCP, and is taken so
marked : kinds_of (steps one_and_two (packet (received leg_a Rtp at_a (128 ∷ 200 ∷ 0 ∷ 1 ∷ 0 ∷ 0 ∷ 0 ∷ 0 ∷ 0 ∷ 0 ∷ 0 ∷ 5 ∷ [])) ∷ [])) ≡ Rtcp ∷ []
unfolding deed rtcp_ssrc half_of_packet range_pairs
marked = refl

-- one byte is no RTCP
one_byte : kinds_of (steps one_and_two (packet (received leg_a Rtp at_a (200 ∷ [])) ∷ [])) ≡ Rtp ∷ []
unfolding deed rtp_head half_of_packet range_pairs
one_byte = refl

-- Learning.

-- a source is learned for the port that took its packet
learned_by_port : learned (steps one_and_two (packet (control_at_rtp first_place) ∷ [])) leg_a Rtp ≡ Some first_place
unfolding deed rtcp_ssrc half_of_packet range_pairs
learned_by_port = refl

not_by_kind : learned (steps one_and_two (packet (control_at_rtp first_place) ∷ [])) leg_a Rtcp ≡ None
unfolding deed rtcp_ssrc half_of_packet range_pairs
not_by_kind = refl

-- and a strict source is that of the port
strict_by_port : outcomes_of (steps (answered (muxed (plain at_a strict)) side_b) (packet (from_a at_a 1) ∷ packet (control_at_rtp first_place) ∷ [])) ≡ outcomes.Refused refused.WrongSource ∷ outcomes.Sent V4 30000 at_b 13 ∷ []
unfolding deed rtp_head rtcp_ssrc half_of_packet range_pairs
strict_by_port = refl

-- Counts.

-- an accepted packet counts as what it is
accepted_by_kind : accepted_count (steps one_and_two (packet (control_at_rtp at_a) ∷ [])) leg_a Rtcp ≡ 1
unfolding deed rtcp_ssrc half_of_packet range_pairs
accepted_by_kind = refl

-- a sent one for the port by which it left
sent_by_way : sent_count (steps one_and_two (packet (control_b (next_port at_b)) ∷ [])) leg_a Rtp ≡ 1
unfolding deed rtcp_ssrc half_of_packet range_pairs
sent_by_way = refl

-- Report blocks.

-- a receiver report of side A with one block: a fraction of 5, these three bytes lost, 65,636 as the highest number, and a jitter of 32
abbrev report_of_three : List ℕ → List ℕ
report_of_three lost = 129 ∷ 201 ∷ 0 ∷ 7 ∷ 17 ∷ 17 ∷ 17 ∷ 17 ∷ 34 ∷ 34 ∷ 34 ∷ 34 ∷ 5 ∷ (lost ++ 0 ∷ 1 ∷ 0 ∷ 100 ∷ 0 ∷ 0 ∷ 0 ∷ 32 ∷ 0 ∷ 0 ∷ 0 ∷ 0 ∷ 0 ∷ 0 ∷ 0 ∷ 0 ∷ [])

abbrev reported : List ℕ → Receipt
reported bytes = received leg_a Rtcp (next_port at_a) bytes

abbrev three_lost : List CellEntry
three_lost = steps (answered side_a side_b) (packet (reported (report_of_three (0 ∷ 0 ∷ 3 ∷ []))) ∷ [])

block_told : last_report three_lost leg_a ≡ Some (record { ssrc = 572662306; fraction = 5; lost = pos 3; highest = 65636; jitter = 32 })
unfolding deed rtcp_ssrc last_report_block report_blocks compound_parts
block_told = refl

-- the other side told nothing
other_untold : last_report three_lost leg_b ≡ None
unfolding deed rtcp_ssrc range_pairs
other_untold = refl

-- a packet without a block changes nothing
kept_report : last_report (steps three_lost (packet (control_a (next_port at_a)) ∷ packet (from_a at_a 1) ∷ [])) leg_a ≡ last_report three_lost leg_a
unfolding deed rtp_head rtcp_ssrc last_report_block report_blocks compound_parts
kept_report = refl

-- nor does a new answer
answered_again : last_report (steps three_lost (now (committed side_a side_b) ∷ [])) leg_a ≡ last_report three_lost leg_a
unfolding deed rtcp_ssrc last_report_block report_blocks compound_parts
answered_again = refl

-- a later block takes its place; the number lost has a sign
later_report : last_report (steps three_lost (packet (reported (report_of_three (255 ∷ 255 ∷ 255 ∷ []))) ∷ [])) leg_a ≡ Some (record { ssrc = 572662306; fraction = 5; lost = pos 0 -ℤ pos 1; highest = 65636; jitter = 32 })
unfolding deed rtcp_ssrc last_report_block report_blocks compound_parts
later_report = refl

-- what an RTP port of a side with two ports takes is no report
no_report : last_report (steps (answered side_a side_b) (packet (received leg_a Rtp at_a (report_of_three (0 ∷ 0 ∷ 3 ∷ []))) ∷ [])) leg_a ≡ None
unfolding deed rtp_head
no_report = refl

-- and on a side with one port it is
report_at_rtp : last_report (steps one_and_two (packet (received leg_a Rtp at_a (report_of_three (0 ∷ 0 ∷ 3 ∷ []))) ∷ [])) leg_a ≡ last_report three_lost leg_a
unfolding deed rtcp_ssrc half_of_packet last_report_block report_blocks compound_parts
report_at_rtp = refl
