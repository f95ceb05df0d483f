-- The tags of a call in their order.
use Rattle.std.specs.Prelude.{ℕ, List, Option, Some, None, if◌then◌else◌}
use Rattle.ng_bencode.specs.Tree.{Tree, Entries}
use Rattle.port_pool.specs.declared.holder.Side.{Side}
use Rattle.port_pool.specs.declared.holder.Side.TheVariants.{A, B}
use Rattle.offer_answer.specs.Plan as plan
use Rattle.call_board.specs.Reports.{Report, side_value, stands_before}
use Rattle.ng_reply.specs.Pairs.{with_pair}

-- the side whose tag stands first, in byte order; side A where a side has none
abbrev pub first_side : Option (List ℕ) → Option (List ℕ) → Side
first_side (Some a) (Some b) = if stands_before a b then A else B
first_side (Some a) None = A
first_side None other = A

-- the pairs with the tag of a side appended, if it has one
abbrev pub with_tag : Entries → Option (List ℕ) → Tree → Entries
with_tag pairs None tree = pairs
with_tag pairs (Some tag) tree = with_pair pairs tag tree

-- of a call: the pairs with the tag of a side and what is told of the side appended
abbrev pub with_side : Entries → Report → Side → Entries
with_side pairs report side = with_tag pairs (plan.tag report.rounds side) (side_value report side)
