use Rattle.turn_table.specs.Hands.{front_of, state_of}
use Rattle.relay_core.specs.PartShapes.{board_shape_in}
use Rattle.relay_core.specs.Entries.{board_history}
use Rattle.relay_core.specs.Turns.{made_by}
use Rattle.board_turns.specs.Controls.{control_made}
use Rattle.ng_server.specs.Requests.{record_of}
use Rattle.ng_server.proofs.datagram.answer_datagram.Given as goal

abbrev pub ghosts-put_control : goal.ghosts-put_control
ghosts-put_control g a =
    record { made = control_made a.config.now (board_history (made_by a.hand.now) (front_of a.turn)) a.arrived.now.moment (record_of a.arrived.now.request a.turn_record.now) (board_shape_in (state_of a.turn)) }
