use Rattle.std.proofs.Common.{◌≡◌, ◌++◌, drop, map}
use Rattle.ng_bencode.specs.Row.{list_in}
use Rattle.ng_bencode.specs.Tree.{tree_of}
use Rattle.state_values.specs.CacheTrees.{reply_tree}
use Rattle.state_values.proofs.caches.replies_value.Given as goal

-- what is put, with what is left, is the whole list
abbrev pub invariant-loop-saved : goal.invariant-loop-saved
invariant-loop-saved l = map tree_of (list_in l.values) ++ map reply_tree (drop l.saved-index l.kept) ≡ map reply_tree l.kept
