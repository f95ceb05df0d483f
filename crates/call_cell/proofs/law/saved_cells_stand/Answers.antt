use Rattle.std.proofs.Common.{sym, subst, List}
use Rattle.call_cell.specs.declared.leg.Leg.{Leg}
use Rattle.call_cell.specs.SavedCells.{AreEmptied}
use Rattle.call_cell.proofs.Moved.{cell_moves, saved_before}
use Rattle.call_cell.proofs.ListedEnds.{none_left_there}
use Rattle.call_cell.proofs.law.saved_cells_stand.Goals as goal

pub returns-clause-moves : goal.returns-clause-moves
returns-clause-moves g c config a b s h one two ends for = cell_moves config a b s h one two ends for

pub returns-clause-taken : goal.returns-clause-taken
returns-clause-taken g c old new taken s takes saves = saved_before old new taken s takes saves

pub returns-clause-loaded : goal.returns-clause-loaded
returns-clause-loaded g c config old new s ends left h one two gives for = cell_moves config old new s h one two gives.all for

pub returns-clause-emptied : goal.returns-clause-emptied
returns-clause-emptied g c old new takes =
    subst (λ (l : List (Leg _)). AreEmptied l) (sym takes.legs) (none_left_there old.config old.legs.items (sym takes.taken))
