use Rattle.std.proofs.Common.{rules, ◌≡◌, ◌+◌, ◌∷◌, ◌++◌, List, Some, None, map, drop, sym, ap, ◌∙◌}
use Rattle.std.proofs.lemmas.List.{drop_more}
use Rattle.ng_bencode.specs.declared.value.Value.{Value}
use Rattle.ng_bencode.specs.Tree.{Items, items_of, tree_of}
use Rattle.call_board.specs.declared.saved_board.CallSaved.{CallSaved}
use Rattle.state_values.specs.CallTrees.{call_tree, FitsCallSaved}
use Rattle.state_values.proofs.ListTrees.{none_there, from_none}
use Rattle.state_values.proofs.MovedTrees.{moved, from_some}
use Rattle.state_values.proofs.calls.read_calls.Goals as goal

pub returns-in_default-2-clause-none : goal.returns-in_default-2-clause-none
returns-in_default-2-clause-none c =
    let items : List Value = c.as_slice-item-items.result.now in
    let i = c.loop-item.item-index in
    let front = map call_tree c.loop-item.calls.items in
    let one : Value = c.item-item.result in
    let step : drop i items ≡ one ∷ drop (i + 1) items = search (rules, drop_more) in
    let none : c.in_ok-saved.field-0 ≡ None = first_of (assumption (c.in_default-2.is), search rules, cc) in
    none_there call_tree FitsCallSaved (tree_of c.args.value.now) (map tree_of items) front (tree_of one) (map tree_of (drop (i + 1) items))
    (c.in-Some.ensures ∙ ap (λ (l : List Value). Items (items_of (map tree_of l))) (sym c.as_slice-item-items.ensures))
    (ap (λ (l : List Value). front ++ map tree_of l) (sym step) ∙ c.loop-item.invariant)
    (from_none c.in_ok-saved.field-0 ((saved : CallSaved) → FitsCallSaved saved → tree_of one ≡ call_tree saved → ⊥) c.in_ok-saved.ensures.none none)

pub loop-item-preserved : goal.loop-item-preserved
loop-item-preserved c =
    let items : List Value = c.as_slice-item-items.result.now in
    let i = c.loop-item.item-index in
    let one : Value = c.item-item.result in
    let saved : CallSaved = c.in-Some-2.saved in
    let step : drop i items ≡ one ∷ drop (i + 1) items = search (rules, drop_more) in
    let is : c.in_ok-saved.field-0 ≡ Some saved = first_of (assumption (c.in-Some-2.is), search rules, cc) in
    let read : tree_of one ≡ call_tree saved = from_some c.in_ok-saved.field-0 (λ (it : CallSaved). tree_of one ≡ call_tree it) saved c.in_ok-saved.ensures.some is in
    moved call_tree tree_of c.loop-item.calls.items c.push.new.self.items saved (drop i items) (drop (i + 1) items) one (map tree_of items)
    c.in_ok-push.ensures.items (sym read) step c.loop-item.invariant
