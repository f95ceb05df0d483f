use Rattle.std.proofs.Common.{rules, ◌≡◌, ◌<◌, ◌^◌, ◌+◌, ◌∷◌, ◌++◌, ℕ, List, map, drop, sym, ap, ◌∙◌}
use Rattle.std.proofs.lemmas.List.{drop_more}
use Rattle.ng_bencode.specs.declared.value.Value.{Value}
use Rattle.ng_bencode.specs.Tree.{Items, items_of, tree_of}
use Rattle.state_values.specs.Numbers.{number_tree}
use Rattle.state_values.proofs.ListTrees.{none_there}
use Rattle.state_values.proofs.numbers.read_numbers.Goals as goal

pub returns-in_default-read_number-clause-none : goal.returns-in_default-read_number-clause-none
returns-in_default-read_number-clause-none c =
    let items : List Value = c.as_slice-item-items.result.now in
    let i = c.loop-item.item-index in
    let front = map number_tree c.loop-item.numbers.items in
    let one : Value = c.item-item.result in
    let step : drop i items ≡ one ∷ drop (i + 1) items = search (rules, drop_more) in
    none_there number_tree (λ (n : ℕ). n < 2 ^ 64) (tree_of c.args.value.now) (map tree_of items) front (tree_of one) (map tree_of (drop (i + 1) items))
    (c.in-Some.ensures ∙ ap (λ (l : List Value). Items (items_of (map tree_of l))) (sym c.as_slice-item-items.ensures))
    (ap (λ (l : List Value). front ++ map tree_of l) (sym step) ∙ c.loop-item.invariant)
    c.in_default-read_number.ensures.none
