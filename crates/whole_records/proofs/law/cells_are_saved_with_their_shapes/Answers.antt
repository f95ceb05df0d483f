use Rattle.whole_records.proofs.HeldShapes.{cell_held}
use Rattle.whole_records.proofs.law.cells_are_saved_with_their_shapes.Goals as goal

pub returns : goal.returns
returns g c = cell_held
