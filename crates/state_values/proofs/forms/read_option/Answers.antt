use Rattle.std.proofs.Common.{◌∙◌, sym, ap, List, map}
use Rattle.ng_bencode.specs.declared.value.Value.{Value}
use Rattle.ng_bencode.specs.Tree.{Items, items_of, tree_of}
use Rattle.state_values.proofs.FormTrees.{too_many}
use Rattle.state_values.proofs.forms.read_option.Goals as goal

pub returns-in_default-clause-none : goal.returns-in_default-clause-none
returns-in_default-clause-none c = λ there same.
    too_many (tree_of c.args.value.now) c.as_slice.result.now there c.in_default.len_at_least
    (c.in_ok-as_list.ensures ∙ ap (λ (l : List Value). Items (items_of (map tree_of l))) (sym c.as_slice.ensures)) same
