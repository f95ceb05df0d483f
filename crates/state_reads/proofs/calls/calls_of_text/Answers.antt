use Rattle.std.proofs.Common.{◌≡◌, All, List}
use Rattle.ng_bencode.specs.Spells.{Spells}
use Rattle.ng_bencode.specs.Tree.{Tree, tree_of}
use Rattle.call_board.specs.declared.saved_board.CallSaved.{CallSaved}
use Rattle.state_values.specs.CallTrees.{calls_tree, FitsCallSaved}
use Rattle.state_reads.specs.Calls.{saved_numbers, saved_cells, saved_ids, CallsStand, IsCallsText}
use Rattle.state_reads.proofs.OneTree.{from_none, from_some, none_in_result}
use Rattle.state_reads.proofs.calls.calls_of_text.Goals as goal

pub returns-in_default-clause-none : goal.returns-in_default-clause-none
returns-in_default-clause-none c = λ saved fits is. from_none _ _ c.in_ok-value.ensures.none c.in_default.is _ is.spelled

pub returns-clause-none : goal.returns-clause-none
returns-clause-none c =
    let begun = c.args.begun in
    let count = c.args.count in
    none_in_result calls_tree (All FitsCallSaved) (λ (l : List CallSaved). CallsStand begun count (saved_numbers l) (saved_cells l) (saved_ids l))
    (IsCallsText begun count c.args.text.now) c.args.text.now _ _ (λ it is. is.spelled) (λ it is. is.stand)
    (from_some _ (λ value. (tree : Tree) → Spells c.args.text.now tree → tree ≡ tree_of value) _ c.in_ok-value.ensures.only c.in-Some.is) c.calls_of_value.ensures.none
