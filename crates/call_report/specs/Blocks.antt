-- The report block of a side, where there is one, after what else is told of its leg.
use Rattle.std.specs.Prelude.{Option, Some, None, codes}
use Rattle.ng_bencode.specs.Tree.{Entries}
use Rattle.rtcp_reports.specs.declared.block.Block.{Block}
use Rattle.call_board.specs.Reports.{block_tree}
use Rattle.ng_reply.specs.Pairs.{with_pair}

-- the pairs with the block appended, if there is one
abbrev pub with_report : Entries → Option Block → Entries
with_report pairs None = pairs
with_report pairs (Some block) = with_pair pairs (codes "report") (block_tree block)
