use Rattle.std.proofs.Common.{◌≡◌, ◌+◌, ◌++◌, map, vec_len}
use Rattle.ng_bencode.specs.Row.{list_in}
use Rattle.ng_bencode.specs.Tree.{tree_of}
use Rattle.state_values.specs.CellTrees.{cell_leg_tree}
use Rattle.state_values.proofs.cells.legs_value.Given as goal

-- what is put in, with what is left, is the whole list
abbrev pub invariant-loop : goal.invariant-loop
invariant-loop l =
    (vec_len l.legs + l.counter ≡ vec_len l.initial.legs)
    × (map tree_of (list_in l.values) ++ map cell_leg_tree l.legs.items ≡ map cell_leg_tree l.initial.legs.items)
