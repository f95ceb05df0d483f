use Rattle.board_turns.proofs.Firsts.{first_between}
use Rattle.tests_media.proofs.main_sweep_tests.begin.Goals as goal

pub returns-clause-between : goal.returns-clause-between
returns-clause-between c =
    first_between _ c.in-Ok-start.turns c.in-Ok-start.hand c.in-Ok.states.items c.in-Ok-start.ensures.0 c.in-Ok-start.ensures.1 c.in-Ok.ensures.begins c.in-Ok.ensures.whole
