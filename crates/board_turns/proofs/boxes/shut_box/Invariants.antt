use Rattle.port_pool.specs.Boxes.{Close}
use Rattle.relay_core.specs.Entries.{Box}
use Rattle.board_turns.specs.NestedSteps.{leaving, ends_left}
use Rattle.board_turns.proofs.boxes.shut_box.Given as goal

abbrev pub ghosts-put_step : goal.ghosts-put_step
ghosts-put_step g a = record { made = leaving a.entry_id.number a.entry_id.moment 0 (Box Close) (ends_left g.I.InEnd.log a.left.now) }
