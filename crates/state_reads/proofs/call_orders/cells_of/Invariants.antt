use Rattle.std.proofs.Common.{◌≡◌, take}
use Rattle.state_reads.specs.Calls.{saved_cells}
use Rattle.state_reads.proofs.call_orders.cells_of.Given as goal

abbrev pub invariant-loop-call : goal.invariant-loop-call
invariant-loop-call l = l.cells.items ≡ saved_cells (take l.call-index l.calls)
