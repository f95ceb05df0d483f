use Rattle.std.proofs.Common.{◌≡◌, take, map}
use Rattle.ng_bencode.specs.Row.{list_in}
use Rattle.ng_bencode.specs.Tree.{tree_of}
use Rattle.state_values.specs.DialogTrees.{kept_tree}
use Rattle.state_values.proofs.kept_sections.kept_sections_value.Given as goal

-- what is put are the sections so far
abbrev pub invariant-loop-kept : goal.invariant-loop-kept
invariant-loop-kept l = map tree_of (list_in l.values) ≡ map kept_tree (take l.kept-index l.kept_sections)
