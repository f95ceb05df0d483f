-- Drawn keys, numbered one after the other.
use Rattle.std.proofs.Common.{subst, ℕ, ◌+◌}
use Rattle.relay_outside.specs.declared.settings.Config.{Config}
use Rattle.call_board.specs.declared.board.Board.{Board}
use Rattle.call_board.specs.Views.{View, one_drawn}
use Rattle.call_board.specs.Boards.{BoardMatches}
use Rattle.call_board.specs.Whole.{with_draws}
use Rattle.call_board.proofs.Entries.{one_more_drawn}

-- one more
pub shows_next : (config : Config) (board : Board) (v : View) (count : ℕ) → BoardMatches config board (one_drawn (with_draws v count)) → BoardMatches config board (with_draws v (count + 1))
shows_next config board v count s = subst (BoardMatches config board) (one_more_drawn v count) s
