-- The last block is that of the bytes that are left, or else the one that was found.
use Rattle.std.proofs.Common.{◌≡◌, length}
use Rattle.histories.specs.Words.{or_else}
use Rattle.rtcp_reports.specs.ReportBlocks.{last_report_block}
use Rattle.rtcp_reports.proofs.compound.last_block.Given as goal

abbrev pub invariant-parts : goal.invariant-parts
invariant-parts l = last_report_block l.packet ≡ or_else (last_report_block l.rest) l.last

abbrev pub decreases-parts : goal.decreases-parts
decreases-parts l = length l.rest
