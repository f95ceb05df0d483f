use Rattle.state_values.proofs.CellLaws.{same_cells}
use Rattle.state_values.proofs.law.cells_differ.Goals as goal

pub returns : goal.returns
returns c = same_cells
