-- What a side reported stands after what else is told of its leg.
use Rattle.std.proofs.Common.{◌≡◌, refl, Option, Some, None, codes}
use Rattle.ng_bencode.specs.Tree.{Tree, entry, no_entries}
use Rattle.rtcp_reports.specs.declared.block.Block.{Block}
use Rattle.call_board.specs.Reports.{report_entry}
use Rattle.call_report.specs.Blocks.{with_report}

pub told_last : (rtcp rtp endpoint index port protocol : Tree) (block : Option Block) →
    with_report (entry (codes "RTCP") rtcp (entry (codes "RTP") rtp (entry (codes "endpoint") endpoint (
    entry (codes "index") index (entry (codes "local port") port (entry (codes "protocol") protocol no_entries)))))) block
    ≡ entry (codes "RTCP") rtcp (entry (codes "RTP") rtp (entry (codes "endpoint") endpoint (
    entry (codes "index") index (entry (codes "local port") port (entry (codes "protocol") protocol (report_entry block))))))
told_last rtcp rtp endpoint index port protocol None = refl
told_last rtcp rtp endpoint index port protocol (Some block) = refl
