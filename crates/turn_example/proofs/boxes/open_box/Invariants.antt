use Rattle.turn_example.specs.declared.machine.Event.TheVariants.{Planned}
use Rattle.turn_example.specs.declared.machine.Outcome.TheVariants.{Done}
use Rattle.turn_example.proofs.boxes.open_box.Given as goal

abbrev pub ghosts-put_plan : goal.ghosts-put_plan
ghosts-put_plan g a = record { event = Planned a.opened; outcome = Done }
