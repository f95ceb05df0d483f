use Rattle.call_cell.proofs.GivenEnds.{GivesUpTo}
use Rattle.call_cell.proofs.given_ends.give_ends.Given as goal

abbrev pub invariant-loop-leg : goal.invariant-loop-leg
invariant-loop-leg g l = GivesUpTo l.config l.leg-index l.initial.legs l.legs l.initial.ends.items l.ends.items
