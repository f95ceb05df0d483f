use Rattle.std.proofs.Common.{take}
use Rattle.histories.specs.Words.{In}
use Rattle.call_board.specs.declared.saved_board.CallSaved.{CallSaved}
use Rattle.whole_records.specs.SavedShapes.{saved_cell_at}
use Rattle.whole_records.specs.RecordParts.{CellHolds}
use Rattle.whole_records.proofs.calls.calls_hold.Given as goal

abbrev pub invariant-loop-call : goal.invariant-loop-call
invariant-loop-call l = (call : CallSaved) → In call (take l.call-index l.calls) → CellHolds l.config l.generations call (saved_cell_at l.config l.cells call.cell)
