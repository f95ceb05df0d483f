use Rattle.std.proofs.Common.{◌≡◌, ◌++◌, drop, map}
use Rattle.ng_bencode.specs.Tree.{tree_of}
use Rattle.state_values.specs.CellTrees.{cell_leg_tree}
use Rattle.state_values.proofs.cells.read_legs.Given as goal

-- what is read, with what is left, is the whole list
abbrev pub invariant-loop-item : goal.invariant-loop-item
invariant-loop-item l = map cell_leg_tree l.legs.items ++ map tree_of (drop l.item-index l.item-items) ≡ map tree_of l.item-items
