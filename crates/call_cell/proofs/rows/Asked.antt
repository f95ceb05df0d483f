-- Worked rows of timeouts and of reports.
use Rattle.std.proofs.Common.{◌≡◌, ℕ, Bool, List, [], ◌∷◌, map, false, true, None, refl}
use Rattle.relay_outside.specs.declared.address.Addr.{Addr}
use Rattle.rtp_packet.specs.declared.head.Half.TheVariants.{Rtp}
use Rattle.rtp_packet.specs.Head.{rtp_head, rtcp_ssrc}
use Rattle.rtcp_reports.specs.Compound.{compound_parts}
use Rattle.rtcp_reports.specs.ReportBlocks.{report_blocks, last_report_block}
use Rattle.port_pool.specs.Ports.{range_pairs, pair_port}
use Rattle.port_pool.specs.declared.holder.Holder.{Holder}
use Rattle.port_pool.specs.declared.holder.Side.{Side}
use Rattle.port_pool.specs.declared.holder.Side.TheVariants.{A, B}
use Rattle.port_pool.specs.declared.signal.SectionSignal.TheVariants as section
use Rattle.port_pool.specs.declared.reports.LegReport.{LegReport}
use Rattle.call_cell.specs.declared.outcome.Refused.TheVariants as refused
use Rattle.call_cell.specs.Cells.{CellEntry, Relayed, Prepare, Commit, Expire, Read, End, since_end}
use Rattle.call_cell.specs.Deeds.{deed, refused_deed}
use Rattle.call_cell.specs.Demands.{is_due, reports, FitsRelay}
use Rattle.call_cell.proofs.rows.Calls.{config, leg_a, leg_b, at_a, at_b, first_place, second_place, third_place, no_flags, plain, side_a, side_b, held, prepared, committed, rejected, received, from_a, from_b, control_a, control_b, answered, steps, makes, relays, now, packet, fails}

-- Timeouts.

-- answered at 0, a packet at 1,000
abbrev in_use : List CellEntry
in_use = steps (answered side_a side_b) (relays 1000 (from_a at_a 1) true ∷ [])

not_yet : is_due config in_use 60999 ≡ false
unfolding is_due deed rtp_head
not_yet = refl

due : is_due config in_use 61000 ≡ true
unfolding is_due deed rtp_head
due = refl

-- where no packet was accepted, the commit counts
unused_not_yet : is_due config (answered side_a side_b) 59999 ≡ false
unfolding is_due
unused_not_yet = refl

unused_is_due : is_due config (answered side_a side_b) 60000 ≡ true
unfolding is_due
unused_is_due = refl

-- a later commit counts too
committed_again : is_due config (steps in_use (makes 5000 (committed side_a side_b) ∷ [])) 64999 ≡ false
unfolding is_due deed rtp_head
committed_again = refl

committed_again_is_due : is_due config (steps in_use (makes 5000 (committed side_a side_b) ∷ [])) 65000 ≡ true
unfolding is_due deed rtp_head
committed_again_is_due = refl

-- a tick, a query, an offer and a refused packet are no activity
no_activity : is_due config (steps in_use (makes 30000 (Expire false) ∷ makes 30001 (Read []) ∷ makes 30002 (Prepare 0 [] [] []) ∷ relays 30003 (received leg_a Rtp at_a []) true ∷ [])) 61000 ≡ true
unfolding is_due deed rtp_head
no_activity = refl

-- packets that are lost, and those of side B and of RTCP, are
held_is_activity : is_due config (steps (answered side_a (held side_b)) (relays 1000 (from_a at_a 1) true ∷ [])) 60999 ≡ false
unfolding is_due deed rtp_head
held_is_activity = refl

failed_is_activity : is_due config (steps (answered side_a side_b) (relays 1000 (from_b at_b 1) false ∷ [])) 60999 ≡ false
unfolding is_due deed rtp_head
failed_is_activity = refl

control_is_activity : is_due config (steps (answered side_a side_b) (relays 1000 (control_b at_b) true ∷ [])) 60999 ≡ false
unfolding is_due deed rtcp_ssrc
control_is_activity = refl

-- an offer that was never answered ends by its own timeout, from the first offer on
unanswered_not_yet : is_due config (steps [] (now prepared ∷ makes 10 (Prepare 0 [] [] []) ∷ [])) 3599999 ≡ false
unfolding is_due
unanswered_not_yet = refl

unanswered_is_due : is_due config (steps [] (now prepared ∷ makes 10 (Prepare 0 [] [] []) ∷ [])) 3600000 ≡ true
unfolding is_due
unanswered_is_due = refl

-- an answer that rejects every section commits the call
all_rejected_is_due : is_due config (steps [] (now prepared ∷ makes 10 rejected ∷ [])) 60010 ≡ true
unfolding is_due
all_rejected_is_due = refl

all_rejected_not_yet : is_due config (steps [] (now prepared ∷ makes 10 rejected ∷ [])) 60009 ≡ false
unfolding is_due
all_rejected_not_yet = refl

-- a later call starts over
later_call_not_yet : is_due config (since_end (steps in_use (makes 2000 End ∷ makes 50000 (Prepare 1 [] [] []) ∷ []))) 100000 ≡ false
unfolding is_due
later_call_not_yet = refl

empty_is_never_due : is_due config [] 9999999 ≡ false
unfolding is_due
empty_is_never_due = refl

-- Reports.

abbrev report : Holder → Addr → ℕ → ℕ → ℕ → ℕ → LegReport
report leg at rtp_in rtp_out rtcp_in rtcp_out = record {
  section = leg.section;
  side = leg.side;
  port = pair_port config leg.pair;
  endpoint = at;
  rtp_accepted = rtp_in;
  rtp_sent = rtp_out;
  rtcp_accepted = rtcp_in;
  rtcp_sent = rtcp_out;
  report = None;
}

unanswered_has_none : reports config (steps [] (now prepared ∷ [])) ≡ []
unfolding reports
unanswered_has_none = refl

unused_report : reports config (answered side_a side_b) ≡ report leg_a at_a 0 0 0 0 ∷ report leg_b at_b 0 0 0 0 ∷ []
unfolding reports
unused_report = refl

-- side A sends two RTP packets, one of which fails, and one RTCP packet; side B one RTP packet and a malformed one
used_report : reports config (steps (answered side_a side_b) (packet (from_a first_place 1) ∷ fails (from_a first_place 2) ∷ packet (control_a second_place) ∷ packet (from_b at_b 1) ∷ packet (received leg_b Rtp at_b []) ∷ [])) ≡ report leg_a first_place 2 1 1 0 ∷ report leg_b at_b 1 1 0 1 ∷ []
unfolding reports deed rtp_head rtcp_ssrc last_report_block report_blocks compound_parts
used_report = refl

-- what is held back is accepted and not sent
held_report : reports config (steps (answered side_a (held side_b)) (packet (from_a at_a 1) ∷ [])) ≡ report leg_a at_a 1 0 0 0 ∷ report leg_b at_b 0 0 0 0 ∷ []
unfolding reports deed rtp_head
held_report = refl

-- a new answer keeps the counts; a rejected section has no report
answered_again_report : reports config (steps (answered side_a side_b) (packet (from_a at_a 1) ∷ now (committed (plain third_place no_flags) side_b) ∷ [])) ≡ report leg_a third_place 1 0 0 0 ∷ report leg_b at_b 0 1 0 0 ∷ []
unfolding reports deed rtp_head
answered_again_report = refl

rejected_has_none : reports config (steps (answered side_a side_b) (packet (from_a at_a 1) ∷ now rejected ∷ [])) ≡ []
unfolding reports deed rtp_head
rejected_has_none = refl

-- a later lease of the pair begins at 0
later_lease_report : reports config (steps (answered side_a side_b) (packet (from_a at_a 1) ∷ now rejected ∷ now (Prepare 0 (record leg_b { generation = 2 } ∷ record leg_a { generation = 2 } ∷ []) [] []) ∷ now (committed side_a side_b) ∷ [])) ≡ report (record leg_a { generation = 2 }) at_a 0 0 0 0 ∷ report (record leg_b { generation = 2 }) at_b 0 0 0 0 ∷ []
unfolding reports deed rtp_head
later_lease_report = refl

abbrev second_a : Holder
second_a = record leg_a { section = 1; pair = 3 }

abbrev second_b : Holder
second_b = record leg_b { section = 1; pair = 2 }

-- sections in their order, whatever the order in which their legs were added, and in each side A first
abbrev two_sections : List CellEntry
two_sections = steps [] (now (Prepare 0 (second_b ∷ second_a ∷ []) [] []) ∷ now (Prepare 0 (leg_b ∷ leg_a ∷ []) [] []) ∷ now (Commit (section.Commit side_a side_b ∷ section.Commit side_a side_b ∷ [])) ∷ [])

sections_in_order : map {B = ℕ × Side × ℕ} (λ one_report. (one_report.section, one_report.side, one_report.port)) (reports config two_sections) ≡ (0, A, 30002) ∷ (0, B, 30000) ∷ (1, A, 30006) ∷ (1, B, 30004) ∷ []
unfolding reports range_pairs
sections_in_order = refl

-- Results of sends.

-- a send may fail

failed_one : FitsRelay config (answered side_a side_b) (record { packet = from_a at_a 1; sent_ok = false; deed = deed config (answered side_a side_b) (from_a at_a 1) false })
unfolding deed rtp_head
failed_one = record { does = refl; answered = tt }

-- a packet that is refused makes no send, so none that failed
abbrev refused_one : Bool → Relayed
refused_one ok = record { packet = received leg_a Rtp at_a []; sent_ok = ok; deed = refused_deed Rtp refused.Malformed }

refused_fits : FitsRelay config (answered side_a side_b) (refused_one true)
unfolding deed rtp_head
refused_fits = record { does = refl; answered = refl }

refused_failed_not : FitsRelay config (answered side_a side_b) (refused_one false) → ⊥
refused_failed_not f = let q : false ≡ true = f.answered in absurd (let e = q in cc)
