-- How a cell is written: what it is run with, its call and moments, and its legs in lease order.
use Rattle.std.specs.Prelude.{codes, ℕ, ◌≡◌, ◌<◌, ◌^◌, All, IfSome}
use Rattle.endpoint_learn.specs.SavedLearners.{FitsLearner}
use Rattle.port_pool.specs.SavedLeases.{FitsLease}
use Rattle.call_cell.specs.declared.saved.CellSaved.{CellSaved}
use Rattle.call_cell.specs.declared.saved.LegSaved.{LegSaved}
use Rattle.ng_bencode.specs.Tree.{Tree, Dict, entry, no_entries}
use Rattle.state_values.specs.Numbers.{number_tree, list_tree}
use Rattle.state_values.specs.Forms.{flag_tree, option_tree}
use Rattle.state_values.specs.ConfigTrees.{config_tree, FitsConfig}
use Rattle.state_values.specs.SignalTrees.{holder_tree, signal_tree, FitsHolder, FitsLegSignal}
use Rattle.state_values.specs.CellLegTrees.{learner_tree, lease_tree, inbound_tree, outbound_tree, packet_counts_tree, report_block_tree, FitsInbound, FitsOutbound, FitsPacketCounts, FitsReport}

unfoldable pub cell_leg_tree : LegSaved → Tree
cell_leg_tree saved = Dict
    (entry (codes "counts") (packet_counts_tree saved.counts)
    (entry (codes "holder") (holder_tree saved.holder)
    (entry (codes "inbound") (option_tree inbound_tree saved.inbound)
    (entry (codes "lease") (lease_tree saved.lease)
    (entry (codes "report") (option_tree report_block_tree saved.report)
    (entry (codes "rtcp") (option_tree learner_tree saved.rtcp)
    (entry (codes "rtp") (option_tree learner_tree saved.rtp)
    (entry (codes "signal") (option_tree signal_tree saved.signal)
    (entry (codes "tag32") (option_tree outbound_tree saved.tag32)
    (entry (codes "tag80") (option_tree outbound_tree saved.tag80) no_entries))))))))))

unfoldable pub cell_tree : CellSaved → Tree
cell_tree saved = Dict
    (entry (codes "active") (number_tree saved.active)
    (entry (codes "began") (number_tree saved.began)
    (entry (codes "call") (option_tree number_tree saved.call)
    (entry (codes "config") (config_tree saved.config)
    (entry (codes "is_committed") (flag_tree saved.is_committed)
    (entry (codes "legs") (list_tree cell_leg_tree saved.legs.items)
    (entry (codes "moment") (number_tree saved.moment) no_entries)))))))

-- the ranges of the fields
pub record FitsLegSaved (saved : LegSaved) : Type 0 where
  pub counts : FitsPacketCounts saved.counts
  pub holder : FitsHolder saved.holder
  pub inbound : IfSome saved.inbound FitsInbound
  pub lease : FitsLease saved.lease
  pub report : IfSome saved.report FitsReport
  pub rtcp : IfSome saved.rtcp FitsLearner
  pub rtp : IfSome saved.rtp FitsLearner
  pub signal : IfSome saved.signal FitsLegSignal
  pub tag32 : IfSome saved.tag32 FitsOutbound
  pub tag80 : IfSome saved.tag80 FitsOutbound

pub record FitsCellSaved (saved : CellSaved) : Type 0 where
  pub active : saved.active < 2 ^ 64
  pub began : saved.began < 2 ^ 64
  pub call : IfSome saved.call (λ (number : ℕ). number < 2 ^ 64)
  pub config : FitsConfig saved.config
  pub legs : All FitsLegSaved saved.legs.items
  pub moment : saved.moment < 2 ^ 64

-- the same but for spare room
pub record IsSameCell (a b : CellSaved) : Type 0 where
  pub config : a.config ≡ b.config
  pub moment : a.moment ≡ b.moment
  pub call : a.call ≡ b.call
  pub began : a.began ≡ b.began
  pub is_committed : a.is_committed ≡ b.is_committed
  pub active : a.active ≡ b.active
  pub legs : a.legs.items ≡ b.legs.items
