use Rattle.port_pool.specs.Boxes.{Open}
use Rattle.relay_core.specs.Entries.{Box}
use Rattle.board_turns.specs.NestedSteps.{nested}
use Rattle.board_turns.proofs.boxes.open_box.Given as goal

abbrev pub ghosts-put_step : goal.ghosts-put_step
ghosts-put_step g a = record { made = nested a.entry_id.number a.entry_id.moment 0 (Box (Open a.data.now)) }
