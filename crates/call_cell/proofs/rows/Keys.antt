-- Worked rows of packets that are protected: under which key and index they leave, and which are lost for lack of one.
use Rattle.std.proofs.Common.{◌≡◌, ℕ, ◌^◌, ◌-◌, List, [], ◌∷◌, ◌++◌, map, true, Option, Some, None, refl}
use Rattle.relay_outside.specs.declared.address.Family.TheVariants.{V4}
use Rattle.rtp_packet.specs.declared.head.Half.TheVariants.{Rtp, Rtcp}
use Rattle.rtp_packet.specs.Head.{rtp_head, rtcp_ssrc}
use Rattle.replay_window.specs.Indices.{near, nearest_lifted, fresh}
use Rattle.srtp_sources.specs.Notes.{indices, sources, has_room}
use Rattle.srtp_context.specs.Packets as srtp
use Rattle.srtp_context.specs.OutboundPackets as srtp_out
use Rattle.srtcp_context.specs.OutboundPackets as srtcp_out
use Rattle.sdes_lines.specs.declared.crypto_line.Suite.TheVariants.{Tag80}
use Rattle.histories.specs.Words.{first, numbers}
use Rattle.port_pool.specs.Ports.{range_pairs}
use Rattle.call_cell.specs.declared.outcome.Lost.TheVariants as lost
use Rattle.call_cell.specs.declared.outcome.Outcome.TheVariants as outcomes
use Rattle.call_cell.specs.Cells.{CellEvent, CellEntry, Relay, Shield}
use Rattle.call_cell.specs.Protection.{wrapped_under}
use Rattle.call_cell.specs.Deeds.{deed}
use Rattle.call_cell.proofs.rows.Calls.{Step, leg_a, at_a, at_b, side_a, side_b, held, under, committed, received, from_a, from_b, answered, answered_keyed, steps, now, packet, fails, outcomes_of, shields_of, deeds, shield, rtp_of, rtcp_of}

-- a call whose side B takes SRTP under the first key
abbrev keyed : List CellEntry
keyed = answered_keyed side_a (under 0 side_b)

-- RTP packets of one source with these sequence numbers
abbrev packets : List ℕ → List Step
packets seqs = map (λ seq. packet (from_a at_a seq)) seqs

-- their shields, the last one first
abbrev index : ℕ → Option Shield
index n = shield 0 Rtp 286331153 n

-- the indices under which they leave, and what became of the last
protects_under_its_number : shields_of (steps keyed (packets (100 ∷ []))) ≡ index 100 ∷ []
unfolding deed rtp_head wrapped_under srtp_out.wrapping srtp_out.sent_index near nearest_lifted fresh indices sources has_room
protects_under_its_number = refl

-- the bytes are the packet, protected under the key's bytes and suite and that index
leaves_protected : map (λ d. d.sending) (deeds (steps keyed (packets (100 ∷ [])))) ≡ Some (record { pair = 0; half = Rtp; to = at_b; bytes = srtp.protect (1 ∷ []) Tag80 (rtp_of 286331153 100) 100 }) ∷ []
unfolding deed rtp_head wrapped_under srtp_out.wrapping srtp_out.sent_index near nearest_lifted fresh indices sources has_room
leaves_protected = refl

-- the other way there is no key, so no shield
other_way_is_plain : shields_of (steps keyed (packet (from_b at_b 100) ∷ [])) ≡ None ∷ []
unfolding deed rtp_head
other_way_is_plain = refl

-- Sequence numbers that wrap and come late.

wraps : shields_of (steps keyed (packets (65534 ∷ 65535 ∷ 0 ∷ []))) ≡ index 65536 ∷ index 65535 ∷ index 65534 ∷ []
unfolding deed rtp_head wrapped_under srtp_out.wrapping srtp_out.sent_index near nearest_lifted fresh indices sources has_room
wraps = refl

late_after_wrap : first (outcomes_of (steps keyed (packets (65534 ∷ 65535 ∷ 0 ∷ 65535 ∷ [])))) ≡ Some (outcomes.Lost lost.IndexUsed)
unfolding deed rtp_head wrapped_under srtp_out.wrapping srtp_out.sent_index near nearest_lifted fresh indices sources has_room
late_after_wrap = refl

before_the_first : first (outcomes_of (steps keyed (packets (0 ∷ 65535 ∷ [])))) ≡ Some (outcomes.Lost lost.OutTooOld)
unfolding deed rtp_head wrapped_under srtp_out.wrapping srtp_out.sent_index near nearest_lifted fresh indices sources has_room
before_the_first = refl

-- 128 behind the greatest is too old, 127 isn't
too_old : first (outcomes_of (steps keyed (packets (300 ∷ 172 ∷ [])))) ≡ Some (outcomes.Lost lost.OutTooOld)
unfolding deed rtp_head wrapped_under srtp_out.wrapping srtp_out.sent_index near nearest_lifted fresh indices sources has_room
too_old = refl

just_not_too_old : shields_of (steps keyed (packets (300 ∷ 173 ∷ []))) ≡ index 173 ∷ index 300 ∷ []
unfolding deed rtp_head wrapped_under srtp_out.wrapping srtp_out.sent_index near nearest_lifted fresh indices sources has_room
just_not_too_old = refl

-- a lost packet notes nothing
lost_notes_nothing : shields_of (steps keyed (packets (300 ∷ 172 ∷ 301 ∷ []))) ≡ index 301 ∷ None ∷ index 300 ∷ []
unfolding deed rtp_head wrapped_under srtp_out.wrapping srtp_out.sent_index near nearest_lifted fresh indices sources has_room
lost_notes_nothing = refl

-- a packet whose send failed was protected: its index stays used
failed_stays_used : outcomes_of (steps keyed (fails (from_a at_a 100) ∷ packet (from_a at_a 100) ∷ [])) ≡ outcomes.Lost lost.IndexUsed ∷ outcomes.Lost (lost.SendFault V4 30000) ∷ []
unfolding deed rtp_head wrapped_under srtp_out.wrapping srtp_out.sent_index near nearest_lifted fresh indices sources has_room range_pairs
failed_stays_used = refl

-- what was held back was not protected
held_is_unused : shields_of (steps (answered_keyed side_a (held (under 0 side_b))) (packet (from_a at_a 100) ∷ now (committed side_a (under 0 side_b)) ∷ packet (from_a at_a 100) ∷ [])) ≡ index 100 ∷ None ∷ []
unfolding deed rtp_head wrapped_under srtp_out.wrapping srtp_out.sent_index near nearest_lifted fresh indices sources has_room
held_is_unused = refl

-- hold is asked before the key
held_before_used : first (outcomes_of (steps keyed (packets (100 ∷ []) ++ now (committed side_a (held (under 0 side_b))) ∷ packets (100 ∷ [])))) ≡ Some (outcomes.Lost lost.Hold)
unfolding deed rtp_head wrapped_under srtp_out.wrapping srtp_out.sent_index near nearest_lifted fresh indices sources has_room
held_before_used = refl

-- The notes of a key outlive what is in force: a new answer with the same key doesn't reset them.

answered_again : first (outcomes_of (steps keyed (packets (100 ∷ []) ++ now (committed side_a (under 0 side_b)) ∷ packets (100 ∷ [])))) ≡ Some (outcomes.Lost lost.IndexUsed)
unfolding deed rtp_head wrapped_under srtp_out.wrapping srtp_out.sent_index near nearest_lifted fresh indices sources has_room
answered_again = refl

abbrev first_three : List Step
first_three = packets (1 ∷ 2 ∷ 3 ∷ [])

-- three answers by turns, each time three packets
abbrev forked : List CellEntry
forked = steps keyed (first_three ++ now (committed side_a (under 1 side_b)) ∷ first_three ++ now (committed side_a (under 0 side_b)) ∷ first_three)

forked_shields : shields_of forked ≡ None ∷ None ∷ None ∷ shield 1 Rtp 286331153 3 ∷ shield 1 Rtp 286331153 2 ∷ shield 1 Rtp 286331153 1 ∷ index 3 ∷ index 2 ∷ index 1 ∷ []
unfolding deed rtp_head wrapped_under srtp_out.wrapping srtp_out.sent_index near nearest_lifted fresh indices sources has_room
forked_shields = refl

forked_again_is_used : first (outcomes_of forked) ≡ Some (outcomes.Lost lost.IndexUsed)
unfolding deed rtp_head wrapped_under srtp_out.wrapping srtp_out.sent_index near nearest_lifted fresh indices sources has_room
forked_again_is_used = refl

-- a commit without a key in between doesn't either
plain_in_between : first (outcomes_of (steps keyed (packets (100 ∷ []) ++ now (committed side_a side_b) ∷ now (committed side_a (under 0 side_b)) ∷ packets (100 ∷ [])))) ≡ Some (outcomes.Lost lost.IndexUsed)
unfolding deed rtp_head wrapped_under srtp_out.wrapping srtp_out.sent_index near nearest_lifted fresh indices sources has_room
plain_in_between = refl

-- Sources.

-- each source of a key has its own indices
other_source : shields_of (steps keyed (packets (100 ∷ []) ++ packet (received leg_a Rtp at_a (rtp_of 5 100)) ∷ [])) ≡ shield 0 Rtp 5 100 ∷ index 100 ∷ []
unfolding deed rtp_head wrapped_under srtp_out.wrapping srtp_out.sent_index near nearest_lifted fresh indices sources has_room
other_source = refl

abbrev of_sources : List ℕ → List Step
of_sources ssrcs = map (λ ssrc. packet (received leg_a Rtp at_a (rtp_of ssrc 1))) ssrcs

one_source_too_many : first (outcomes_of (steps keyed (of_sources (numbers 1 33)))) ≡ Some (outcomes.Lost lost.OutSources)
unfolding deed rtp_head wrapped_under srtp_out.wrapping srtp_out.sent_index near nearest_lifted fresh indices sources has_room
one_source_too_many = refl

as_many_as_fit : first (shields_of (steps keyed (of_sources (numbers 1 32)))) ≡ Some (shield 0 Rtp 32 1)
unfolding deed rtp_head wrapped_under srtp_out.wrapping srtp_out.sent_index near nearest_lifted fresh indices sources has_room
as_many_as_fit = refl

-- the first source is still known, and is asked for its index first
known_source : first (outcomes_of (steps keyed (of_sources (numbers 1 32 ++ 1 ∷ [])))) ≡ Some (outcomes.Lost lost.IndexUsed)
unfolding deed rtp_head wrapped_under srtp_out.wrapping srtp_out.sent_index near nearest_lifted fresh indices sources has_room
known_source = refl

-- Keys that are spent, or not there.

-- the greatest index of a key was used
abbrev last_used : CellEvent
last_used = Relay (record { packet = from_a at_a 65535; sent_ok = true; deed = record { outcome = outcomes.Sent V4 30000 at_b 23; kind = Rtp; noted = None; shield = index (2 ^ 48 - 1); sending = None } })

spent : first (outcomes_of (steps keyed (now last_used ∷ packets (0 ∷ [])))) ≡ Some (outcomes.Lost lost.KeySpent)
unfolding deed rtp_head wrapped_under srtp_out.wrapping srtp_out.sent_index near nearest_lifted fresh indices sources has_room
spent = refl

-- under a key that the cell hasn't got nothing leaves
no_such_key : outcomes_of (steps (answered side_a (under 9 side_b)) (packets (1 ∷ []))) ≡ outcomes.Lost lost.KeySpent ∷ []
unfolding deed rtp_head
no_such_key = refl

no_such_key_sends_nothing : map (λ d. d.sending) (deeds (steps (answered side_a (under 9 side_b)) (packets (1 ∷ [])))) ≡ None ∷ []
unfolding deed rtp_head
no_such_key_sends_nothing = refl

-- RTCP: the index is the count of the source's packets under the key.

abbrev controls : List ℕ → List Step
controls ssrcs = map (λ ssrc. packet (received leg_a Rtcp at_a (rtcp_of ssrc))) ssrcs

control_counts : shields_of (steps keyed (controls (5 ∷ 5 ∷ 6 ∷ 5 ∷ []))) ≡ shield 0 Rtcp 5 2 ∷ shield 0 Rtcp 6 0 ∷ shield 0 Rtcp 5 1 ∷ shield 0 Rtcp 5 0 ∷ []
unfolding deed rtcp_ssrc wrapped_under srtcp_out.rtcp_wrapping srtcp_out.sent_rtcp_index indices sources has_room
control_counts = refl

-- a copy is no copy to it, and a failed send counts
control_failed_counts : shields_of (steps keyed (fails (received leg_a Rtcp at_a (rtcp_of 5)) ∷ controls (5 ∷ []))) ≡ shield 0 Rtcp 5 1 ∷ shield 0 Rtcp 5 0 ∷ []
unfolding deed rtcp_ssrc wrapped_under srtcp_out.rtcp_wrapping srtcp_out.sent_rtcp_index indices sources has_room
control_failed_counts = refl

-- RTP and RTCP of one source are counted apart
control_apart : shields_of (steps keyed (packet (received leg_a Rtp at_a (rtp_of 5 0)) ∷ controls (5 ∷ []) ++ packet (received leg_a Rtp at_a (rtp_of 5 1)) ∷ [])) ≡ shield 0 Rtp 5 1 ∷ shield 0 Rtcp 5 0 ∷ shield 0 Rtp 5 0 ∷ []
unfolding deed rtp_head rtcp_ssrc wrapped_under srtp_out.wrapping srtp_out.sent_index srtcp_out.rtcp_wrapping srtcp_out.sent_rtcp_index near nearest_lifted fresh indices sources has_room
control_apart = refl

control_sources : first (outcomes_of (steps keyed (controls (numbers 1 33)))) ≡ Some (outcomes.Lost lost.OutSources)
unfolding deed rtcp_ssrc wrapped_under srtcp_out.rtcp_wrapping srtcp_out.sent_rtcp_index indices sources has_room
control_sources = refl

-- the sources of one half leave the other half's places free
control_sources_apart : first (shields_of (steps keyed (of_sources (numbers 1 32) ++ controls (99 ∷ [])))) ≡ Some (shield 0 Rtcp 99 0)
unfolding deed rtp_head rtcp_ssrc wrapped_under srtp_out.wrapping srtp_out.sent_index srtcp_out.rtcp_wrapping srtcp_out.sent_rtcp_index near nearest_lifted fresh indices sources has_room
control_sources_apart = refl
