use Rattle.state_values.proofs.CellLaws.{cell_deep, cell_spelled}
use Rattle.state_values.proofs.law.cells_are_spelled.Goals as goal

pub returns-clause-deep : goal.returns-clause-deep
returns-clause-deep c = cell_deep

pub returns-clause-spelled : goal.returns-clause-spelled
returns-clause-spelled c = cell_spelled
