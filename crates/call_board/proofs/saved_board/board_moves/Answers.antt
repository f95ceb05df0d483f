use Rattle.call_board.proofs.SavedMoves.{board_moves_lem}
use Rattle.call_board.proofs.saved_board.board_moves.Goals as goal

pub returns : goal.returns
returns c = board_moves_lem
