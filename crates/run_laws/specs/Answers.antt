-- A datagram of a run, and how it was answered.
use Rattle.std.specs.Prelude.{ℕ, List}
use Rattle.relay_outside.specs.declared.settings.Config.{Config}
use Rattle.call_board.specs.Acts.{Control}
use Rattle.board_turns.specs.Controls.{RequestRecord, control_of, moment_at}
use Rattle.relay_runs.specs.Rounds.{ControlRound, history_after}

-- the moment of a round that follows these: the one that was handed to its control turn, or the board's last one, where that is later
abbrev pub moment_in : Config → List ControlRound → ControlRound → ℕ
moment_in config earlier r = moment_at (history_after config earlier) r.handed

-- the datagram of the round, as the board's history before it has it answered
abbrev pub turn_in : Config → List ControlRound → ControlRound → RequestRecord → Control
turn_in config earlier r x = control_of config (history_after config earlier) (moment_in config earlier r) x
