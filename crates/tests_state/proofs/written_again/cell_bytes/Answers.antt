use Rattle.state_values.specs.CellTrees.{cell_tree}
use Rattle.tests_state.proofs.Depths.{value_deep}
use Rattle.tests_state.proofs.written_again.cell_bytes.Goals as goal

pub bytes_of-requires : goal.bytes_of-requires
bytes_of-requires g c = value_deep _ (cell_tree c.args.saved) c.cell_value.ensures (c.cells_are_spelled.ensures.deep c.args.saved)
