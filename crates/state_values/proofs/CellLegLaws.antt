-- Parts of legs that are written alike, and how deep each is.
use Rattle.std.proofs.Common.{◌≡◌, ◌+◌, ◌<◌, ◌≤◌, ◌^◌, ℕ, ℤ, pos, negsuc, List, Option, Some, None, IfSome, refl, sym, arith}
use Rattle.std.specs.Prelude.{FitsSigned}
use Rattle.std.specs.Int.{w32, w64}
use Rattle.endpoint_learn.specs.declared.learner.Learner.{Learner}
use Rattle.endpoint_learn.specs.SavedLearners.{FitsLearner, saved_learner}
use Rattle.endpoint_learn.proofs.SavedForms.{same_learner}
use Rattle.port_pool.specs.declared.pairs.Lease.{Lease}
use Rattle.port_pool.specs.SavedLeases.{FitsLease, saved_lease}
use Rattle.port_pool.proofs.SavedLeaseParts.{same_lease}
use Rattle.rtcp_reports.specs.declared.block.Block.{Block}
use Rattle.srtp_context.specs.SavedRtp.{saved_in_rtp, saved_out_rtp}
use Rattle.srtp_context.proofs.SavedContexts.{same_in_rtp, same_out_rtp}
use Rattle.srtcp_context.specs.SavedRtcp.{saved_in_rtcp, saved_out_rtcp}
use Rattle.srtcp_context.proofs.SavedContexts.{same_in_rtcp, same_out_rtcp}
use Rattle.call_cell.specs.declared.contexts.Inbound.{Inbound}
use Rattle.call_cell.specs.declared.contexts.Outbound.{Outbound}
use Rattle.call_cell.specs.declared.counts.Counts.{Counts}
use Rattle.call_cell.specs.declared.saved.LegSaved.{LegSaved}
use Rattle.ng_bencode.specs.Tree.{Tree, Int, Bytes}
use Rattle.state_values.specs.Numbers.{number_tree}
use Rattle.state_values.specs.Forms.{option_tree}
use Rattle.state_values.specs.SignalTrees.{holder_tree, signal_tree, FitsLegSignal}
use Rattle.state_values.specs.CellLegTrees.{learner_tree, lease_tree, inbound_tree, outbound_tree, packet_counts_tree, report_block_tree, FitsInbound, FitsOutbound, FitsPacketCounts, FitsReport}
use Rattle.state_values.specs.CellTrees.{cell_leg_tree, FitsLegSaved}
use Rattle.state_values.proofs.NumberTrees.{same_number}
use Rattle.state_values.proofs.KeyedTrees.{same_entries, same_value, same_rest}
use Rattle.state_values.proofs.MissingTrees.{same_option, SpelledIf, option_spelled}
use Rattle.state_values.proofs.SignalLaws.{same_bytes, same_holder, same_signal, holder_spelled, signal_spelled}
use Rattle.state_values.proofs.Spelled.{Spelled, number_spelled}

learners_same : (a b : Learner) → FitsLearner a → FitsLearner b → learner_tree a ≡ learner_tree b → a ≡ b
unfolding learner_tree
learners_same a b fits_a fits_b same = same_learner a b fits_a fits_b (same_bytes (saved_learner a) (saved_learner b) same)

leases_same : (a b : Lease) → FitsLease a → FitsLease b → lease_tree a ≡ lease_tree b → a ≡ b
unfolding lease_tree
leases_same a b fits_a fits_b same = same_lease a b fits_a fits_b (same_bytes (saved_lease a) (saved_lease b) same)

same_lost : (a b : ℤ) → Int a ≡ Int b → a ≡ b
same_lost a b e = cc

pub same_inbound : (a b : Inbound) → FitsInbound a → FitsInbound b → inbound_tree a ≡ inbound_tree b → a ≡ b
unfolding inbound_tree
same_inbound a b fits_a fits_b same =
    let first = same_entries same in
    let second = same_rest first in
    let rtcp_is = same_in_rtcp a.rtcp b.rtcp fits_a.rtcp fits_b.rtcp (same_bytes (saved_in_rtcp a.rtcp) (saved_in_rtcp b.rtcp) (same_value first)) in
    let rtp_is = same_in_rtp a.rtp b.rtp fits_a.rtp fits_b.rtp (same_bytes (saved_in_rtp a.rtp) (saved_in_rtp b.rtp) (same_value second)) in
    λ i. record { rtp = rtp_is i; rtcp = rtcp_is i }

pub same_outbound : (a b : Outbound) → FitsOutbound a → FitsOutbound b → outbound_tree a ≡ outbound_tree b → a ≡ b
unfolding outbound_tree
same_outbound a b fits_a fits_b same =
    let first = same_entries same in
    let second = same_rest first in
    let third = same_rest second in
    let number_is = same_number a.number b.number fits_a.number fits_b.number (same_value first) in
    let rtcp_is = same_out_rtcp a.rtcp b.rtcp fits_a.rtcp fits_b.rtcp (same_bytes (saved_out_rtcp a.rtcp) (saved_out_rtcp b.rtcp) (same_value second)) in
    let rtp_is = same_out_rtp a.rtp b.rtp fits_a.rtp fits_b.rtp (same_bytes (saved_out_rtp a.rtp) (saved_out_rtp b.rtp) (same_value third)) in
    λ i. record { number = number_is i; rtp = rtp_is i; rtcp = rtcp_is i }

pub same_counts : (a b : Counts) → FitsPacketCounts a → FitsPacketCounts b → packet_counts_tree a ≡ packet_counts_tree b → a ≡ b
unfolding packet_counts_tree
same_counts a b fits_a fits_b same =
    let first = same_entries same in
    let second = same_rest first in
    let third = same_rest second in
    let fourth = same_rest third in
    let rtcp_accepted_is = same_number a.rtcp_accepted b.rtcp_accepted fits_a.rtcp_accepted fits_b.rtcp_accepted (same_value first) in
    let rtcp_sent_is = same_number a.rtcp_sent b.rtcp_sent fits_a.rtcp_sent fits_b.rtcp_sent (same_value second) in
    let rtp_accepted_is = same_number a.rtp_accepted b.rtp_accepted fits_a.rtp_accepted fits_b.rtp_accepted (same_value third) in
    let rtp_sent_is = same_number a.rtp_sent b.rtp_sent fits_a.rtp_sent fits_b.rtp_sent (same_value fourth) in
    λ i. record { rtp_accepted = rtp_accepted_is i; rtp_sent = rtp_sent_is i; rtcp_accepted = rtcp_accepted_is i; rtcp_sent = rtcp_sent_is i }

pub same_report : (a b : Block) → FitsReport a → FitsReport b → report_block_tree a ≡ report_block_tree b → a ≡ b
unfolding report_block_tree
same_report a b fits_a fits_b same =
    let first = same_entries same in
    let second = same_rest first in
    let third = same_rest second in
    let fourth = same_rest third in
    let fifth = same_rest fourth in
    let fraction_is = same_number a.fraction b.fraction (omega (arith, fits_a.fraction)) (omega (arith, fits_b.fraction)) (same_value first) in
    let highest_is = same_number a.highest b.highest (omega (arith, fits_a.highest)) (omega (arith, fits_b.highest)) (same_value second) in
    let jitter_is = same_number a.jitter b.jitter (omega (arith, fits_a.jitter)) (omega (arith, fits_b.jitter)) (same_value third) in
    let lost_is = same_lost a.lost b.lost (same_value fourth) in
    let ssrc_is = same_number a.ssrc b.ssrc (omega (arith, fits_a.ssrc)) (omega (arith, fits_b.ssrc)) (same_value fifth) in
    λ i. record { ssrc = ssrc_is i; fraction = fraction_is i; lost = lost_is i; highest = highest_is i; jitter = jitter_is i }

pub same_leg : (a b : LegSaved) → FitsLegSaved a → FitsLegSaved b → cell_leg_tree a ≡ cell_leg_tree b → a ≡ b
unfolding cell_leg_tree
same_leg a b fits_a fits_b same =
    let first = same_entries same in
    let second = same_rest first in
    let third = same_rest second in
    let fourth = same_rest third in
    let fifth = same_rest fourth in
    let sixth = same_rest fifth in
    let seventh = same_rest sixth in
    let eighth = same_rest seventh in
    let ninth = same_rest eighth in
    let tenth = same_rest ninth in
    let counts_is = same_counts a.counts b.counts fits_a.counts fits_b.counts (same_value first) in
    let holder_is = same_holder a.holder b.holder fits_a.holder fits_b.holder (same_value second) in
    let inbound_is = same_option inbound_tree FitsInbound same_inbound a.inbound b.inbound fits_a.inbound fits_b.inbound (same_value third) in
    let lease_is = leases_same a.lease b.lease fits_a.lease fits_b.lease (same_value fourth) in
    let report_is = same_option report_block_tree FitsReport same_report a.report b.report fits_a.report fits_b.report (same_value fifth) in
    let rtcp_is = same_option learner_tree FitsLearner learners_same a.rtcp b.rtcp fits_a.rtcp fits_b.rtcp (same_value sixth) in
    let rtp_is = same_option learner_tree FitsLearner learners_same a.rtp b.rtp fits_a.rtp fits_b.rtp (same_value seventh) in
    let signal_is = same_option signal_tree FitsLegSignal same_signal a.signal b.signal fits_a.signal fits_b.signal (same_value eighth) in
    let tag32_is = same_option outbound_tree FitsOutbound same_outbound a.tag32 b.tag32 fits_a.tag32 fits_b.tag32 (same_value ninth) in
    let tag80_is = same_option outbound_tree FitsOutbound same_outbound a.tag80 b.tag80 fits_a.tag80 fits_b.tag80 (same_value tenth) in
    λ i. record { holder = holder_is i; lease = lease_is i; signal = signal_is i; rtp = rtp_is i; rtcp = rtcp_is i; inbound = inbound_is i; tag80 = tag80_is i; tag32 = tag32_is i; counts = counts_is i; report = report_is i }

-- ---- how deep each is

learner_spelled : (learner : Learner) → SpelledIf (FitsLearner learner) 0 (learner_tree learner)
unfolding learner_tree
learner_spelled learner = record { ints = λ fits. tt; deep = omega arith }

lease_spelled : (lease : Lease) → Spelled 0 (lease_tree lease)
unfolding lease_tree
lease_spelled lease = record { ints = tt; deep = omega arith }

inbound_spelled : (inbound : Inbound) → SpelledIf (FitsInbound inbound) 1 (inbound_tree inbound)
unfolding inbound_tree
inbound_spelled inbound = record { ints = λ fits. (tt, (tt, tt)); deep = omega arith }

outbound_spelled : (outbound : Outbound) → SpelledIf (FitsOutbound outbound) 1 (outbound_tree outbound)
unfolding outbound_tree
outbound_spelled outbound =
    let number = number_spelled outbound.number in
    record { ints = λ fits. (number.ints, (tt, (tt, tt))); deep = omega (arith, number.deep) }

counts_spelled : (counts : Counts) → Spelled 1 (packet_counts_tree counts)
unfolding packet_counts_tree
counts_spelled counts =
    let rtcp_accepted = number_spelled counts.rtcp_accepted in
    let rtcp_sent = number_spelled counts.rtcp_sent in
    let rtp_accepted = number_spelled counts.rtp_accepted in
    let rtp_sent = number_spelled counts.rtp_sent in
    record {
      ints = (rtcp_accepted.ints, (rtcp_sent.ints, (rtp_accepted.ints, (rtp_sent.ints, tt))));
      deep = omega (arith, rtcp_accepted.deep, rtcp_sent.deep, rtp_accepted.deep, rtp_sent.deep);
    }

wider : (z : ℤ) → FitsSigned w32 z → FitsSigned w64 z
wider (pos n) fits = record { sfits = omega (arith, fits.sfits) }
wider (negsuc n) fits = record { sfits = omega (arith, fits.sfits) }

report_spelled : (block : Block) → SpelledIf (FitsReport block) 1 (report_block_tree block)
unfolding report_block_tree
report_spelled block =
    let fraction = number_spelled block.fraction in
    let highest = number_spelled block.highest in
    let jitter = number_spelled block.jitter in
    let ssrc = number_spelled block.ssrc in
    record {
      ints = λ fits. (fraction.ints, (highest.ints, (jitter.ints, (wider block.lost fits.lost, (ssrc.ints, tt)))));
      deep = omega (arith, fraction.deep, highest.deep, jitter.deep, ssrc.deep);
    }

pub leg_spelled : (saved : LegSaved) → SpelledIf (FitsLegSaved saved) 5 (cell_leg_tree saved)
unfolding cell_leg_tree
leg_spelled saved =
    let counts = counts_spelled saved.counts in
    let holder = holder_spelled saved.holder in
    let inbound = option_spelled inbound_tree 1 FitsInbound inbound_spelled saved.inbound in
    let lease = lease_spelled saved.lease in
    let report = option_spelled report_block_tree 1 FitsReport report_spelled saved.report in
    let rtcp = option_spelled learner_tree 0 FitsLearner learner_spelled saved.rtcp in
    let rtp = option_spelled learner_tree 0 FitsLearner learner_spelled saved.rtp in
    let signal = option_spelled signal_tree 3 FitsLegSignal signal_spelled saved.signal in
    let tag32 = option_spelled outbound_tree 1 FitsOutbound outbound_spelled saved.tag32 in
    let tag80 = option_spelled outbound_tree 1 FitsOutbound outbound_spelled saved.tag80 in
    record {
      ints = λ fits. (
        counts.ints,
        (
          holder.ints,
          (
            inbound.ints fits.inbound,
            (
              lease.ints,
              (
                report.ints fits.report,
                (
                  rtcp.ints fits.rtcp,
                  (
                    rtp.ints fits.rtp,
                    (signal.ints fits.signal, (tag32.ints fits.tag32, (tag80.ints fits.tag80, tt))),
                  ),
                ),
              ),
            ),
          ),
        ),
      );
      deep = omega (arith, counts.deep, holder.deep, inbound.deep, lease.deep, report.deep, rtcp.deep, rtp.deep, signal.deep, tag32.deep, tag80.deep);
    }
