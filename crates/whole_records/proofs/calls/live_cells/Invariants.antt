use Rattle.std.proofs.Common.{map, take}
use Rattle.call_board.specs.declared.saved_board.CallSaved.{CallSaved}
use Rattle.call_shapes.specs.WholeRelay.{AreMarked}
use Rattle.whole_records.proofs.calls.live_cells.Given as goal

abbrev pub invariant-loop-call : goal.invariant-loop-call
invariant-loop-call l = AreMarked l.count l.marks.items (map (λ (call : CallSaved). call.cell) (take l.call-index l.calls))
