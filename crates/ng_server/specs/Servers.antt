-- A server and its main hand between two calls.
use Rattle.std.specs.Prelude.{List, Option}
use Rattle.relay_outside.specs.declared.ports.PortCall.{PortCall}
use Rattle.relay_outside.specs.declared.settings.Config.{Config}
use Rattle.turn_table.specs.declared.hands.Hand.{Hand}
use Rattle.call_board.specs.Acts.{BoardEntry}
use Rattle.call_board.specs.Pairs.{held}
use Rattle.relay_core.specs.declared.part.Part.{Part}
use Rattle.relay_core.specs.Records.{Made}
use Rattle.relay_core.specs.Turns.{made_by}
use Rattle.media_ports.specs.OpenPorts.{LogsHeld}
use Rattle.board_turns.specs.Between.{board_of}
use Rattle.board_turns.specs.CallEnds.{leg_pairs}

-- where the port maker tells, just the ports of the pairs are open that are held after this history of the board
abbrev pub OpensJust : Config → List BoardEntry → Option (List PortCall) → Type 0
OpensJust config h log = LogsHeld config log (leg_pairs (held h))

module _ {M I O T : Type 0} {g : _} where
  -- the board's history, as the main hand's list has it
  abbrev pub history_of : Hand M (Part I O) Made T g → List BoardEntry
  history_of hand = board_of (made_by hand)
