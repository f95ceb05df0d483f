use Rattle.turn_example.specs.declared.machine.Event.TheVariants.{Opened}
use Rattle.turn_example.specs.declared.machine.Outcome.TheVariants.{Done}
use Rattle.turn_example.proofs.boxes.open_under.Given as goal

abbrev pub ghosts-put_opening : goal.ghosts-put_opening
ghosts-put_opening g a = record { event = Opened a.board; outcome = Done }
