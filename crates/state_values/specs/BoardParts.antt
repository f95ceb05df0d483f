-- Which values a saved board is written as.
use Rattle.std.specs.Prelude.{◌≡◌}
use Rattle.call_board.specs.declared.saved_board.BoardSaved.{BoardSaved}
use Rattle.state_values.specs.declared.boards.BoardParts.{BoardParts}

-- nothing of the board is in none of them
pub record ArePartsOf (saved : BoardSaved) (parts : BoardParts) : Type 0 where
  pub config_is : saved.config ≡ parts.relay.config
  pub moment_is : saved.moment ≡ parts.relay.moment
  pub begun_is : saved.begun ≡ parts.relay.begun
  pub drawn_is : saved.drawn ≡ parts.relay.drawn
  pub pool_is : saved.pool ≡ parts.pool
  pub calls_are : saved.calls ≡ parts.calls
  pub replies_are : saved.replies ≡ parts.replies
