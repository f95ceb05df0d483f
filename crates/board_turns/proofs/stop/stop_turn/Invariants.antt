use Rattle.turn_table.specs.Hands.{front_of, state_of}
use Rattle.relay_core.specs.PartShapes.{board_shape_in}
use Rattle.relay_core.specs.Entries.{board_history}
use Rattle.relay_core.specs.Turns.{made_by}
use Rattle.board_turns.specs.Stops.{stop_made}
use Rattle.board_turns.proofs.stop.stop_turn.Given as goal

abbrev pub ghosts-put_entry : goal.ghosts-put_entry
ghosts-put_entry g a = record { made = stop_made (board_history (made_by a.hand.now) (front_of a.turn)) (board_shape_in (state_of a.turn)) }
