use Rattle.relay_core.specs.FirstPlaces.{AddsCells}
use Rattle.relay_core.proofs.first_places.add_cells.Given as goal

abbrev pub invariant-loop : goal.invariant-loop
invariant-loop g l = AddsCells l.config l.initial.parts.items l.parts.items l.counter
