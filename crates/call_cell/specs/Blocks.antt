-- The last report block that came from a leg's side: of the last accepted RTCP packet that has one (RFC 3550, section 6.4).
use Rattle.std.specs.Prelude.{ℕ, ◌&&◌, List, [], ◌∷◌, Option, Some, None, if◌then◌else◌}
use Rattle.std.specs.List.{list_any}
use Rattle.rtp_packet.specs.declared.head.Half.{Half}
use Rattle.rtp_packet.specs.declared.head.Half.TheVariants.{Rtp, Rtcp}
use Rattle.rtcp_reports.specs.declared.block.Block.{Block}
use Rattle.rtcp_reports.specs.ReportBlocks.{last_report_block}
use Rattle.histories.specs.Words.{or_else}
use Rattle.port_pool.specs.declared.holder.Holder.{Holder}
use Rattle.port_pool.specs.Signals.{same_leg}
use Rattle.call_cell.specs.Cells.{CellEntry, Relayed, is_accepted, legs_of, relayed}
use Rattle.call_cell.specs.Protection.{Judged, Stopped, Passed}
use Rattle.call_cell.specs.Deeds.{judged, kind}

-- the last block of a plain packet of a kind; RTP has none
abbrev pub block_in : Half → List ℕ → Option Block
block_in Rtp plain = None
block_in Rtcp plain = last_report_block plain

-- the block of a packet that is judged so
abbrev pub block_of : Half → Judged → Option Block
block_of kind (Stopped cause) = None
block_of kind (Passed noted plain) = block_in kind plain

-- the block that the relay after these entries, if it is one, took from the leg
abbrev pub block_from : List CellEntry → Holder → Option Relayed → Option Block
block_from h leg None = None
block_from h leg (Some r) =
    if same_leg leg r.packet.holder && is_accepted r.deed.outcome then block_of (kind h r.packet) (judged h r.packet leg) else None

-- the last block that was taken from the leg since it came; a packet without one changes nothing
abbrev pub last_report : List CellEntry → Holder → Option Block
last_report [] leg = None
last_report (e ∷ h) leg =
    if list_any (same_leg leg) (legs_of e.event) then None else or_else (block_from h leg (relayed e)) (last_report h leg)
