use Rattle.std.proofs.Common.{ℕ, ◌<◌, ◌≡◌, false, get_or}
use Rattle.call_cell.specs.Shapes.{ended_shape}
use Rattle.call_cell.specs.declared.saved.CellSaved.{CellSaved}
use Rattle.whole_records.specs.SavedShapes.{saved_cell_shape}
use Rattle.whole_records.proofs.calls.others_are_empty.Given as goal

abbrev pub invariant-loop-place : goal.invariant-loop-place
invariant-loop-place l = (k : ℕ) (d : CellSaved) → k < l.place → get_or l.marks k false ≡ false → saved_cell_shape (get_or l.cells k d) ≡ ended_shape l.config
