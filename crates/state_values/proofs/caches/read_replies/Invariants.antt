use Rattle.std.proofs.Common.{◌≡◌, ◌++◌, drop, map}
use Rattle.ng_bencode.specs.Tree.{tree_of}
use Rattle.state_values.specs.CacheTrees.{reply_tree}
use Rattle.state_values.proofs.caches.read_replies.Given as goal

-- what is read, with what is left, is the whole list
abbrev pub invariant-loop-item : goal.invariant-loop-item
invariant-loop-item l = map reply_tree l.kept.items ++ map tree_of (drop l.item-index l.item-items) ≡ map tree_of l.item-items
