use Rattle.std.proofs.Common.{rules, ◌≡◌}
use Rattle.ng_bencode.specs.Tree.{tree_of}
use Rattle.state_values.specs.Numbers.{list_tree}
use Rattle.state_values.specs.DialogTrees.{kept_tree, FitsKept}
use Rattle.state_values.proofs.ListTrees.{too_few}
use Rattle.state_values.proofs.kept_sections.read_kept_sections.Goals as goal

pub returns-clause-none : goal.returns-clause-none
returns-clause-none c =
    let is : tree_of c.args.value.now ≡ list_tree kept_tree c.in-Some.list.items = search rules in
    too_few kept_tree FitsKept c.eight_kept.result (tree_of c.args.value.now) c.in-Some.list.items c.as_slice.result.now 8 c.as_slice.ensures.value is c.eight_kept.ensures.none
