use Rattle.call_board.proofs.WholeBoards.{board_whole, board_loads}
use Rattle.call_board.proofs.saved_board.boards_are_loaded.Goals as goal

pub returns-clause-whole : goal.returns-clause-whole
returns-clause-whole c = board_whole

pub returns-clause-loaded : goal.returns-clause-loaded
returns-clause-loaded c = λ config board h saved fits is given none. board_loads config board h saved fits is given.0 given.1 given.2 none
