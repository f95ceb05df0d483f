use Rattle.std.proofs.Common.{◌≡◌, ◌++◌, drop, map}
use Rattle.ng_bencode.specs.Tree.{tree_of}
use Rattle.state_values.specs.CallTrees.{call_tree}
use Rattle.state_values.proofs.calls.read_calls.Given as goal

-- what is read, with what is left, is the whole list
abbrev pub invariant-loop-item : goal.invariant-loop-item
invariant-loop-item l = map call_tree l.calls.items ++ map tree_of (drop l.item-index l.item-items) ≡ map tree_of l.item-items
