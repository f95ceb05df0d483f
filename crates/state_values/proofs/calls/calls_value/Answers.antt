use Rattle.std.proofs.Common.{rules, ◌≡◌, ◌+◌, ◌∷◌, List, map, drop}
use Rattle.std.proofs.lemmas.List.{drop_more}
use Rattle.ng_bencode.specs.Row.{list_in}
use Rattle.ng_bencode.specs.Tree.{tree_of}
use Rattle.call_board.specs.declared.saved_board.CallSaved.{CallSaved}
use Rattle.state_values.specs.CallTrees.{call_tree}
use Rattle.state_values.proofs.MovedTrees.{moved}
use Rattle.state_values.proofs.calls.calls_value.Goals as goal

pub loop-saved-preserved : goal.loop-saved-preserved
loop-saved-preserved c =
    let calls : List CallSaved = c.args.calls.now in
    let i = c.loop-saved.saved-index in
    let one : CallSaved = c.saved-item.result in
    let step : drop i calls ≡ one ∷ drop (i + 1) calls = search (rules, drop_more) in
    moved tree_of call_tree (list_in c.loop-saved.values) (list_in c.put_item.new.values) c.in_ok-value.value (drop i calls) (drop (i + 1) calls) one (map call_tree calls)
    c.in_ok-put_item.ensures c.in_ok-value.ensures step c.loop-saved.invariant
