use Rattle.std.proofs.Common.{rules, ◌≡◌, ◌+◌, ◌∷◌, ◌++◌, List, None, map, drop, sym, ap, ◌∙◌}
use Rattle.std.proofs.lemmas.List.{drop_more}
use Rattle.ng_bencode.specs.declared.value.Value.{Value}
use Rattle.ng_bencode.specs.Tree.{Items, items_of, tree_of}
use Rattle.cookie_cache.specs.declared.saved.SavedReply.{SavedReply}
use Rattle.state_values.specs.CacheTrees.{reply_tree, FitsSavedReply}
use Rattle.state_values.proofs.ListTrees.{none_there, from_none}
use Rattle.state_values.proofs.caches.read_replies.Goals as goal

pub returns-in_default-2-clause-none : goal.returns-in_default-2-clause-none
returns-in_default-2-clause-none c =
    let items : List Value = c.as_slice-item-items.result.now in
    let i = c.loop-item.item-index in
    let front = map reply_tree c.loop-item.kept.items in
    let one : Value = c.item-item.result in
    let step : drop i items ≡ one ∷ drop (i + 1) items = search (rules, drop_more) in
    let none : c.in_ok-saved.field-0 ≡ None = first_of (assumption (c.in_default-2.is), search rules, cc) in
    none_there reply_tree FitsSavedReply (tree_of c.args.value.now) (map tree_of items) front (tree_of one) (map tree_of (drop (i + 1) items))
    (c.in-Some.ensures ∙ ap (λ (l : List Value). Items (items_of (map tree_of l))) (sym c.as_slice-item-items.ensures))
    (ap (λ (l : List Value). front ++ map tree_of l) (sym step) ∙ c.loop-item.invariant)
    (from_none c.in_ok-saved.field-0 ((saved : SavedReply) → FitsSavedReply saved → tree_of one ≡ reply_tree saved → ⊥) c.in_ok-saved.ensures.none none)
