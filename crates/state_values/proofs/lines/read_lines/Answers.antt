use Rattle.std.proofs.Common.{◌≡◌, List, map, sym, ap, ◌∙◌}
use Rattle.ng_bencode.specs.declared.value.Value.{Value}
use Rattle.ng_bencode.specs.Tree.{Items, items_of, tree_of}
use Rattle.state_values.specs.Forms.{option_tree}
use Rattle.state_values.specs.OfferTrees.{line_tree}
use Rattle.state_values.proofs.KeyedTrees.{refused}
use Rattle.state_values.proofs.ListTrees.{as_long}
use Rattle.state_values.proofs.lines.read_lines.Goals as goal

pub returns-in_err-a-clause-none : goal.returns-in_err-a-clause-none
returns-in_err-a-clause-none c = refused c.from_residual-in_err-a.ensures (λ lines fits long same.
    let is : tree_of c.args.value.now ≡ Items (items_of (map tree_of c.as_slice.result.now)) =
    c.in_ok-list.ensures ∙ ap (λ (l : List Value). Items (items_of (map tree_of l))) (sym c.as_slice.ensures) in
    c.in_err-a.ensures.none (as_long (option_tree line_tree) (tree_of c.args.value.now) c.as_slice.result.now lines is same ∙ long))
