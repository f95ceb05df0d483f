use Rattle.std.proofs.Common.{◌≡◌, ◌++◌, drop, map}
use Rattle.ng_bencode.specs.Row.{list_in}
use Rattle.ng_bencode.specs.Tree.{tree_of}
use Rattle.state_values.specs.Forms.{option_tree}
use Rattle.state_values.specs.OfferTrees.{line_tree}
use Rattle.state_values.proofs.lines.lines_value.Given as goal

-- what is put, with what is left, is the whole list
abbrev pub invariant-loop-line : goal.invariant-loop-line
invariant-loop-line l = map tree_of (list_in l.values) ++ map (option_tree line_tree) (drop l.line-index l.lines) ≡ map (option_tree line_tree) l.lines
