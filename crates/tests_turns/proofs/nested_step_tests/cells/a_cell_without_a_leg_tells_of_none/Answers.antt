use Rattle.board_turns.proofs.First.{first_new}
use Rattle.tests_turns.proofs.nested_step_tests.cells.a_cell_without_a_leg_tells_of_none.Goals as goal

pub read_cell-requires-clause-keys : goal.read_cell-requires-clause-keys
read_cell-requires-clause-keys g c = first_new _ 1 c.in-Some.ensures.hand.0
