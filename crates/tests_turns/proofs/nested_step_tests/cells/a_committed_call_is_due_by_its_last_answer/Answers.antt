use Rattle.std.proofs.Common.{inl}
use Rattle.board_turns.proofs.First.{first_new, first_room}
use Rattle.tests_turns.proofs.nested_step_tests.cells.a_committed_call_is_due_by_its_last_answer.Goals as goal

pub commit_cell-requires-clause-keys : goal.commit_cell-requires-clause-keys
commit_cell-requires-clause-keys g c = first_new _ 2 c.in-Some.ensures.hand.0

pub commit_cell-requires-clause-room : goal.commit_cell-requires-clause-room
commit_cell-requires-clause-room g c = inl (first_room _ 2 _ _ c.in-Some.ensures.hand.0)
