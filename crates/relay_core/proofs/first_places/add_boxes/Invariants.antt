use Rattle.relay_core.specs.FirstPlaces.{AddsBoxes}
use Rattle.relay_core.proofs.first_places.add_boxes.Given as goal

abbrev pub invariant-loop-pair : goal.invariant-loop-pair
invariant-loop-pair g l = AddsBoxes l.config l.initial.parts.items l.parts.items l.pair
