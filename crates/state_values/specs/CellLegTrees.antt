-- How the parts of a leg are written: where its packets go, its contexts, its counts and its last report.
use Rattle.std.specs.Prelude.{codes, ℕ, ◌<◌, ◌^◌, FitsSigned}
use Rattle.std.specs.Int.{w32}
use Rattle.endpoint_learn.specs.declared.learner.Learner.{Learner}
use Rattle.endpoint_learn.specs.SavedLearners.{saved_learner}
use Rattle.port_pool.specs.declared.pairs.Lease.{Lease}
use Rattle.port_pool.specs.SavedLeases.{saved_lease}
use Rattle.rtcp_reports.specs.declared.block.Block.{Block}
use Rattle.srtp_context.specs.SavedRtp.{FitsInRtp, saved_in_rtp, FitsOutRtp, saved_out_rtp}
use Rattle.srtcp_context.specs.SavedRtcp.{FitsInRtcp, saved_in_rtcp, FitsOutRtcp, saved_out_rtcp}
use Rattle.call_cell.specs.declared.contexts.Inbound.{Inbound}
use Rattle.call_cell.specs.declared.contexts.Outbound.{Outbound}
use Rattle.call_cell.specs.declared.counts.Counts.{Counts}
use Rattle.ng_bencode.specs.Tree.{Tree, Int, Bytes, Dict, entry, no_entries}
use Rattle.state_values.specs.Numbers.{number_tree}

-- the bytes that it is saved as
unfoldable pub learner_tree : Learner → Tree
learner_tree learner = Bytes (saved_learner learner)

unfoldable pub lease_tree : Lease → Tree
lease_tree lease = Bytes (saved_lease lease)

-- each of the contexts by the bytes that it is saved as
unfoldable pub inbound_tree : Inbound → Tree
inbound_tree inbound = Dict
    (entry (codes "rtcp") (Bytes (saved_in_rtcp inbound.rtcp))
    (entry (codes "rtp") (Bytes (saved_in_rtp inbound.rtp)) no_entries))

unfoldable pub outbound_tree : Outbound → Tree
outbound_tree outbound = Dict
    (entry (codes "number") (number_tree outbound.number)
    (entry (codes "rtcp") (Bytes (saved_out_rtcp outbound.rtcp))
    (entry (codes "rtp") (Bytes (saved_out_rtp outbound.rtp)) no_entries)))

unfoldable pub packet_counts_tree : Counts → Tree
packet_counts_tree counts = Dict
    (entry (codes "rtcp_accepted") (number_tree counts.rtcp_accepted)
    (entry (codes "rtcp_sent") (number_tree counts.rtcp_sent)
    (entry (codes "rtp_accepted") (number_tree counts.rtp_accepted)
    (entry (codes "rtp_sent") (number_tree counts.rtp_sent) no_entries))))

-- the packets lost may be fewer than none
unfoldable pub report_block_tree : Block → Tree
report_block_tree block = Dict
    (entry (codes "fraction") (number_tree block.fraction)
    (entry (codes "highest") (number_tree block.highest)
    (entry (codes "jitter") (number_tree block.jitter)
    (entry (codes "lost") (Int block.lost)
    (entry (codes "ssrc") (number_tree block.ssrc) no_entries)))))

-- the ranges of the fields
pub record FitsInbound (inbound : Inbound) : Type 0 where
  pub rtcp : FitsInRtcp inbound.rtcp
  pub rtp : FitsInRtp inbound.rtp

pub record FitsOutbound (outbound : Outbound) : Type 0 where
  pub number : outbound.number < 2 ^ 64
  pub rtcp : FitsOutRtcp outbound.rtcp
  pub rtp : FitsOutRtp outbound.rtp

pub record FitsPacketCounts (counts : Counts) : Type 0 where
  pub rtcp_accepted : counts.rtcp_accepted < 2 ^ 64
  pub rtcp_sent : counts.rtcp_sent < 2 ^ 64
  pub rtp_accepted : counts.rtp_accepted < 2 ^ 64
  pub rtp_sent : counts.rtp_sent < 2 ^ 64

pub record FitsReport (block : Block) : Type 0 where
  pub fraction : block.fraction < 2 ^ 8
  pub highest : block.highest < 2 ^ 32
  pub jitter : block.jitter < 2 ^ 32
  pub lost : FitsSigned w32 block.lost
  pub ssrc : block.ssrc < 2 ^ 32
