use Rattle.turn_example.specs.declared.machine.Event.TheVariants.{Took}
use Rattle.turn_example.proofs.boxes.try_take.Given as goal

abbrev pub ghosts-put_take : goal.ghosts-put_take
ghosts-put_take g a = record { event = Took; outcome = a.outcome.now }
