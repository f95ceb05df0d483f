use Rattle.std.proofs.Common.{rules, ◌≡◌, ◌+◌, ◌∷◌, ◌++◌, List, map, drop, sym, ap, ◌∙◌}
use Rattle.std.proofs.lemmas.List.{drop_more}
use Rattle.ng_bencode.specs.declared.value.Value.{Value}
use Rattle.ng_bencode.specs.Tree.{Items, items_of, tree_of}
use Rattle.state_values.specs.OfferTrees.{made_tree, FitsMade}
use Rattle.state_values.proofs.ListTrees.{none_there, goes_on}
use Rattle.state_values.proofs.made_sections.read_made_list.Goals as goal

pub returns-in_default-read_made-clause-none : goal.returns-in_default-read_made-clause-none
returns-in_default-read_made-clause-none c =
    let items : List Value = c.as_slice-item-items.result.now in
    let i = c.loop-item.item-index in
    let front = map made_tree c.loop-item.made_sections.items in
    let one : Value = c.item-item.result in
    let step : drop i items ≡ one ∷ drop (i + 1) items = search (rules, drop_more) in
    none_there made_tree FitsMade (tree_of c.args.value.now) (map tree_of items) front (tree_of one) (map tree_of (drop (i + 1) items))
    (c.in-Some.ensures ∙ ap (λ (l : List Value). Items (items_of (map tree_of l))) (sym c.as_slice-item-items.ensures))
    (ap (λ (l : List Value). front ++ map tree_of l) (sym step) ∙ c.loop-item.invariant)
    c.in_default-read_made.ensures.none

pub loop-item-preserved : goal.loop-item-preserved
loop-item-preserved c =
    let items : List Value = c.as_slice-item-items.result.now in
    let i = c.loop-item.item-index in
    let one : Value = c.item-item.result in
    let step : drop i items ≡ one ∷ drop (i + 1) items = search (rules, drop_more) in
    goes_on made_tree c.loop-item.made_sections.items c.in-Some-read_made.made (tree_of one) (map tree_of (drop (i + 1) items)) (map tree_of items) c.push.new.self.items
    c.in_ok-push.ensures.items c.in-Some-read_made.ensures.some
    (ap (λ (l : List Value). map made_tree c.loop-item.made_sections.items ++ map tree_of l) (sym step) ∙ c.loop-item.invariant)
