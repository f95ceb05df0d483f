use Rattle.std.proofs.Common.{◌≡◌, take, map}
use Rattle.ng_bencode.specs.Row.{list_in}
use Rattle.ng_bencode.specs.Tree.{tree_of}
use Rattle.state_values.specs.OfferTrees.{made_tree}
use Rattle.state_values.proofs.made_sections.made_sections_value.Given as goal

-- what is put are the sections so far
abbrev pub invariant-loop-made : goal.invariant-loop-made
invariant-loop-made l = map tree_of (list_in l.values) ≡ map made_tree (take l.made-index l.made_sections)
