use Rattle.std.specs.Prelude.{max}
use Rattle.turn_table.specs.Hands.{taken_of}
use Rattle.call_cell.specs.Cells.{Commit}
use Rattle.relay_core.specs.Entries.{Cell}
use Rattle.board_turns.specs.NestedSteps.{leaving, gone_left}
use Rattle.board_turns.specs.InCells.{moment_of_cell}
use Rattle.board_turns.proofs.signals.commit_cell.Given as goal

abbrev pub ghosts-put_step : goal.ghosts-put_step
ghosts-put_step g a = record {
  made = leaving a.entry_id.number a.entry_id.moment (max a.entry_id.moment (moment_of_cell (taken_of a.turn))) (Cell (Commit a.data.now)) (gone_left g.O.OutEnd.log a.left.now);
}
