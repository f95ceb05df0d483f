use Rattle.turn_table.specs.Hands.{front_of, state_of}
use Rattle.board_turns.proofs.TickTurns.{made_after}
use Rattle.board_turns.proofs.tick.tick_turn.Given as goal

abbrev pub ghosts-put_step : goal.ghosts-put_step
ghosts-put_step g a = record { made = made_after a.hand.now (front_of a.turn) a.data.now (state_of a.turn) }
