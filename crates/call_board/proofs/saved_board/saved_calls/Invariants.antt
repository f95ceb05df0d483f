use Rattle.std.proofs.Common.{◌++◌, List}
use Rattle.std.specs.Map.{values_of}
use Rattle.call_board.specs.declared.saved_board.CallSaved.{CallSaved}
use Rattle.call_board.specs.SavedBoards.{CallsSave}
use Rattle.call_board.proofs.saved_board.saved_calls.Given as goal

-- what saves the rest completes what saves all
abbrev pub invariant-loop-entry : goal.invariant-loop-entry
invariant-loop-entry l =
    (goal.iterator-loop-entry).can_next l.entry-iterator ×
    (goal.iterator-loop-entry).is_finite l.entry-iterator ×
    ((more : List CallSaved) → CallsSave (values_of l.entry-iterator) more → CallsSave (values_of l.fn.calls.entries) (l.saved.items ++ more))
