use Rattle.turn_table.specs.Hands.{taken_of}
use Rattle.call_cell.specs.Cells.{Read}
use Rattle.relay_core.specs.Entries.{Cell}
use Rattle.board_turns.specs.NestedSteps.{nested}
use Rattle.board_turns.specs.InCells.{moment_of_cell}
use Rattle.board_turns.proofs.cells.read_cell.Given as goal

abbrev pub ghosts-put_step : goal.ghosts-put_step
ghosts-put_step g a = record { made = nested a.entry_id.number a.entry_id.moment (moment_of_cell (taken_of a.turn)) (Cell (Read a.data.now)) }
