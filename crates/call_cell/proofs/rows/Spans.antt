-- Worked rows of packets under an inbound key: which notes are in its span, and how the next packet is judged by them. Whether
-- a packet is authentic is taken as said.
use Rattle.std.proofs.Common.{◌≡◌, ap, ℕ, List, [], ◌∷◌, ◌++◌, map, replicate, false, true, Bool, cond, Some, None, Err, refl}
use Rattle.relay_outside.specs.declared.address.Family.TheVariants.{V4}
use Rattle.rtp_packet.specs.declared.head.Half.TheVariants.{Rtp, Rtcp}
use Rattle.rtp_packet.specs.Head.{rtp_head, rtcp_ssrc}
use Rattle.replay_window.specs.Indices.{near, nearest_lifted, fresh}
use Rattle.srtp_sources.specs.Notes.{Note, indices, sources, has_room}
use Rattle.srtp_keys.specs.declared.faults.UnprotectFault.TheVariants.{NotAuthentic}
use Rattle.srtp_context.specs.Packets as srtp
use Rattle.srtp_context.specs.InboundPackets as srtp_in
use Rattle.srtcp_context.specs.InboundPackets as srtcp_in
use Rattle.sdes_lines.specs.declared.crypto_line.Suite.{Suite}
use Rattle.sdes_lines.specs.declared.crypto_line.Suite.TheVariants.{Tag80, Tag32}
use Rattle.relay_outside.specs.declared.address.Addr.{Addr}
use Rattle.histories.specs.Words.{numbers}
use Rattle.port_pool.specs.declared.holder.Holder.{Holder}
use Rattle.port_pool.specs.declared.signal.LegSignal.{LegSignal}
use Rattle.call_cell.specs.declared.outcome.Refused.TheVariants as refused
use Rattle.call_cell.specs.declared.outcome.Lost.TheVariants as lost
use Rattle.call_cell.specs.declared.outcome.Outcome.TheVariants as outcomes
use Rattle.call_cell.specs.Cells.{CellEvent, CellEntry, Prepare, Relay, Receipt}
use Rattle.call_cell.specs.Protection.{accepted, Judged, Stopped, Passed, opened_by, opened_rtp, opened_under}
use Rattle.call_cell.specs.Lessons.{learned}
use Rattle.call_cell.specs.Deeds.{deed, refused_deed, lost_deed}
use Rattle.call_cell.proofs.rows.Calls.{config, Step, prepared, leg_a, leg_b, at_a, at_b, first_place, second_place, strict, plain, side_a, side_b, held, sends_under, under, committed, rejected, received, from_a, answered, steps, now, note, rtp_of, rtcp_of}

-- Spans.

abbrev key : List ℕ
key = 1 ∷ 2 ∷ []

abbrev other_key : List ℕ
other_key = 1 ∷ 3 ∷ []

abbrev secure : LegSignal
secure = sends_under key Tag80 side_a

abbrev secured : List CellEntry
secured = answered secure side_b

abbrev index : ℕ → Note
index n = note Rtp 286331153 n

-- a packet that was taken, with that note
abbrev took_for : Holder → Note → CellEvent
took_for leg noted = Relay (record { packet = received leg Rtp first_place (rtp_of 1 1); sent_ok = true; deed = record { outcome = outcomes.Sent V4 30000 at_b 13; kind = Rtp; noted = Some noted; shield = None; sending = None } })

abbrev took : ℕ → Step
took n = now (took_for leg_a (index n))

-- the same, but it was held back
abbrev kept_back : ℕ → Step
kept_back n = now (Relay (record { packet = from_a first_place n; sent_ok = true; deed = lost_deed Rtp (Some (index n)) lost.Hold }))

same_key_goes_on : accepted (steps secured (took 100 ∷ now (committed secure (held side_b)) ∷ took 101 ∷ [])) leg_a ≡ index 101 ∷ index 100 ∷ []
same_key_goes_on = refl

other_key_begins : accepted (steps secured (took 100 ∷ now (committed (sends_under other_key Tag80 side_a) side_b) ∷ took 101 ∷ [])) leg_a ≡ index 101 ∷ []
other_key_begins = refl

other_suite_begins : accepted (steps secured (took 100 ∷ now (committed (sends_under key Tag32 side_a) side_b) ∷ [])) leg_a ≡ []
other_suite_begins = refl

-- a key that goes away and comes back starts over
back_again_begins : accepted (steps secured (took 100 ∷ now (committed side_a side_b) ∷ now (committed secure side_b) ∷ took 7 ∷ [])) leg_a ≡ index 7 ∷ []
back_again_begins = refl

by_another_begins : accepted (steps secured (took 100 ∷ now (committed (sends_under other_key Tag80 side_a) side_b) ∷ now (committed secure side_b) ∷ [])) leg_a ≡ []
by_another_begins = refl

-- what counts is what was in force before, not what was in force first
back_to_the_first_begins : accepted (steps secured (now (committed (sends_under other_key Tag80 side_a) side_b) ∷ took 5 ∷ now (committed secure side_b) ∷ [])) leg_a ≡ []
back_to_the_first_begins = refl

changed_once_goes_on : accepted (steps secured (now (committed (sends_under other_key Tag80 side_a) side_b) ∷ took 5 ∷ now (committed (sends_under other_key Tag80 side_a) (held side_b)) ∷ [])) leg_a ≡ index 5 ∷ []
changed_once_goes_on = refl

-- a span begins at the first commit at the latest
first_commit_begins : accepted (steps [] (now prepared ∷ took 5 ∷ now (committed secure side_b) ∷ took 6 ∷ [])) leg_a ≡ index 6 ∷ []
first_commit_begins = refl

-- nothing else that changes begins one: address, flags, hold, outbound key, and whatever changes on the other leg
all_else_goes_on : accepted (steps secured (took 100 ∷ now (committed (sends_under key Tag80 (held (under 3 (plain first_place strict)))) (sends_under other_key Tag32 side_b)) ∷ [])) leg_a ≡ index 100 ∷ []
all_else_goes_on = refl

held_back_is_noted : accepted (steps secured (kept_back 100 ∷ [])) leg_a ≡ index 100 ∷ []
held_back_is_noted = refl

other_leg_is_apart : accepted (steps secured (now (took_for leg_b (index 5)) ∷ took 100 ∷ [])) leg_a ≡ index 100 ∷ []
other_leg_is_apart = refl

-- a later lease begins with nothing
later_lease_is_apart : accepted (steps secured (took 100 ∷ now rejected ∷ now (Prepare 0 (record leg_b { generation = 2 } ∷ record leg_a { generation = 2 } ∷ []) [] []) ∷ now (committed secure side_b) ∷ [])) (record leg_a { generation = 2 }) ≡ []
later_lease_is_apart = refl

-- How a packet is judged.

-- a protected packet of `size` bytes after its head of 12
abbrev sealed : ℕ → ℕ → List ℕ
sealed seq size = 128 ∷ 0 ∷ 0 ∷ seq ∷ 0 ∷ 0 ∷ 0 ∷ 0 ∷ 17 ∷ 17 ∷ 17 ∷ 17 ∷ replicate size 9

abbrev judge : Suite → List Note → List ℕ → Judged
judge suite notes bytes = opened_by (Some (key, suite)) notes Rtp bytes

abbrev opens : Suite → List ℕ → ℕ → Judged
opens suite bytes n = Passed (Some (index n)) (srtp.opened key suite bytes n)

too_short : judge Tag80 [] (sealed 100 9) ≡ Stopped refused.Short
unfolding opened_under srtp_in.opening srtp_in.taken_index rtp_head
too_short = refl

too_short_for_32 : judge Tag32 [] (sealed 100 3) ≡ Stopped refused.Short
unfolding opened_under srtp_in.opening srtp_in.taken_index rtp_head
too_short_for_32 = refl

is_taken : srtp.is_authentic key Tag80 (sealed 100 10) 100 ≡ true → judge Tag80 [] (sealed 100 10) ≡ opens Tag80 (sealed 100 10) 100
unfolding opened_under srtp_in.opening srtp_in.taken_index rtp_head near fresh indices sources has_room
is_taken authentic = rw authentic refl

is_taken_under_32 : srtp.is_authentic key Tag32 (sealed 100 4) 100 ≡ true → judge Tag32 [] (sealed 100 4) ≡ opens Tag32 (sealed 100 4) 100
unfolding opened_under srtp_in.opening srtp_in.taken_index rtp_head near fresh indices sources has_room
is_taken_under_32 authentic = rw authentic refl

-- the tag is asked before the window
not_authentic : srtp.is_authentic key Tag80 (sealed 100 10) 100 ≡ false → judge Tag80 (index 100 ∷ []) (sealed 100 10) ≡ Stopped refused.NotAuthentic
unfolding opened_under srtp_in.opening srtp_in.taken_index rtp_head near nearest_lifted fresh indices sources has_room
not_authentic authentic = rw authentic refl

is_a_copy : srtp.is_authentic key Tag80 (sealed 100 10) 100 ≡ true → judge Tag80 (index 100 ∷ []) (sealed 100 10) ≡ Stopped refused.Replayed
unfolding opened_under srtp_in.opening srtp_in.taken_index rtp_head near nearest_lifted fresh indices sources has_room
is_a_copy authentic = rw authentic refl

is_too_old : srtp.is_authentic key Tag80 (sealed 100 10) 100 ≡ true → judge Tag80 (index 228 ∷ []) (sealed 100 10) ≡ Stopped refused.TooOld
unfolding opened_under srtp_in.opening srtp_in.taken_index rtp_head near nearest_lifted fresh indices sources has_room
is_too_old authentic = rw authentic refl

is_just_not_too_old : srtp.is_authentic key Tag80 (sealed 100 10) 100 ≡ true → judge Tag80 (index 227 ∷ []) (sealed 100 10) ≡ opens Tag80 (sealed 100 10) 100
unfolding opened_under srtp_in.opening srtp_in.taken_index rtp_head near nearest_lifted fresh indices sources has_room
is_just_not_too_old authentic = rw authentic refl

-- where there is no index, none is asked for authenticity
has_no_index : judge Tag80 (index 3 ∷ []) (128 ∷ 0 ∷ 255 ∷ 255 ∷ 0 ∷ 0 ∷ 0 ∷ 0 ∷ 17 ∷ 17 ∷ 17 ∷ 17 ∷ replicate 10 9) ≡ Stopped refused.TooOld
unfolding opened_under srtp_in.opening srtp_in.taken_index rtp_head near nearest_lifted fresh indices sources has_room
has_no_index = refl

wraps_to_the_next : srtp.is_authentic key Tag80 (sealed 100 10) 65636 ≡ true → judge Tag80 (index 65535 ∷ []) (sealed 100 10) ≡ opens Tag80 (sealed 100 10) 65636
unfolding opened_under srtp_in.opening srtp_in.taken_index rtp_head near nearest_lifted fresh indices sources has_room
wraps_to_the_next authentic = rw authentic refl

-- a 33rd source
abbrev of_sources : List ℕ → List Note
of_sources ssrcs = map (λ ssrc. note Rtp ssrc 1) ssrcs

-- the judgement, by whether the packet is authentic
abbrev by_tag : List Note → Bool → Judged
by_tag notes authentic =
    opened_rtp
    (srtp_in.opened_at key Tag80 (sealed 100 10) (record { ssrc = 286331153; seq = 100; head = 12 })
    (cond authentic (srtp_in.index_by Rtp 286331153 notes 100 (fresh (indices Rtp 286331153 notes) 100)) (Err NotAuthentic)))

one_source_too_many : srtp.is_authentic key Tag80 (sealed 100 10) 100 ≡ true → judge Tag80 (of_sources (numbers 1 32)) (sealed 100 10) ≡ Stopped refused.TooManySources
unfolding opened_under srtp_in.opening srtp_in.taken_index rtp_head near nearest_lifted fresh indices sources has_room
one_source_too_many authentic = ap (by_tag (of_sources (numbers 1 32))) authentic

as_many_as_fit : srtp.is_authentic key Tag80 (sealed 100 10) 100 ≡ true → judge Tag80 (of_sources (numbers 1 31)) (sealed 100 10) ≡ opens Tag80 (sealed 100 10) 100
unfolding opened_under srtp_in.opening srtp_in.taken_index rtp_head near nearest_lifted fresh indices sources has_room
as_many_as_fit authentic = ap (by_tag (of_sources (numbers 1 31))) authentic

-- A whole relay.

abbrev sealed_from_a : Addr → Receipt
sealed_from_a source = received leg_a Rtp source (sealed 100 10)

-- a packet whose tag is wrong is refused, and teaches nothing
forged_is_refused : srtp.is_authentic key Tag80 (sealed 100 10) 100 ≡ false → deed config secured (sealed_from_a second_place) true ≡ refused_deed Rtp refused.NotAuthentic
unfolding deed opened_under srtp_in.opening srtp_in.taken_index rtp_head near nearest_lifted fresh indices sources has_room
forged_is_refused authentic = rw authentic refl

forged_teaches_nothing : learned (steps secured (now (Relay (record { packet = sealed_from_a second_place; sent_ok = true; deed = refused_deed Rtp refused.NotAuthentic })) ∷ [])) leg_a Rtp ≡ None
forged_teaches_nothing = refl

-- a packet towards a leg on hold is noted before it is held back, so its copy is refused
is_noted_on_hold : srtp.is_authentic key Tag80 (sealed 100 10) 100 ≡ true → deed config (answered secure (held side_b)) (sealed_from_a at_a) true ≡ lost_deed Rtp (Some (index 100)) lost.Hold
unfolding deed opened_under srtp_in.opening srtp_in.taken_index rtp_head near nearest_lifted fresh indices sources has_room
is_noted_on_hold authentic = rw authentic refl

copy_is_refused_on_hold : srtp.is_authentic key Tag80 (sealed 100 10) 100 ≡ true → deed config (steps (answered secure (held side_b)) (kept_back 100 ∷ [])) (sealed_from_a at_a) true ≡ refused_deed Rtp refused.Replayed
unfolding deed opened_under srtp_in.opening srtp_in.taken_index rtp_head near nearest_lifted fresh indices sources has_room
copy_is_refused_on_hold authentic = rw authentic refl

-- the source is asked before the key
source_before_key : deed config (steps (answered (sends_under key Tag80 (plain at_a strict)) side_b) (took 99 ∷ [])) (sealed_from_a second_place) true ≡ refused_deed Rtp refused.WrongSource
unfolding deed rtp_head
source_before_key = refl

-- SRTCP takes the index that the packet carries.

too_short_for_control : opened_by (Some (key, Tag32)) [] Rtcp (rtcp_of 5 ++ replicate 13 0) ≡ Stopped refused.Short
unfolding opened_under srtcp_in.rtcp_opening srtcp_in.taken_rtcp_index rtcp_ssrc
too_short_for_control = refl
