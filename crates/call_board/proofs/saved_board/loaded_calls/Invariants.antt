use Rattle.std.proofs.Common.{List}
use Rattle.std.specs.Vec.Iter.{into_iter_items}
use Rattle.call_board.specs.declared.saved_board.CallSaved.{CallSaved}
use Rattle.call_board.proofs.SavedLoading.{LoadsSo}
use Rattle.call_board.proofs.saved_board.loaded_calls.Given as goal

abbrev pub invariant-loop-one : goal.invariant-loop-one
invariant-loop-one l =
    (goal.iterator-loop-one).can_next l.one-iterator ×
    (goal.iterator-loop-one).is_finite l.one-iterator ×
    ((front : List CallSaved) × LoadsSo l.fn.saved.items front (into_iter_items l.one-iterator) l.begun l.cells l.next l.taken.items l.calls.list)
