use Rattle.std.proofs.Common.{ℕ, ◌≡◌, ◌≤◌, ◌<◌, ◌+◌, take, get_or}
use Rattle.call_cell.specs.declared.leg.Leg.{Leg}
use Rattle.call_cell.specs.Commits.{LegCommitsBy, contexts_due, said_of}
use Rattle.call_cell.proofs.cell.commit_legs.Given as goal

abbrev pub invariant-loop-leg : goal.invariant-loop-leg
invariant-loop-leg g l =
    (l.contexts + contexts_due l.signal (take l.leg-index l.initial.legs) ≡ l.initial.contexts)
    × ((j : ℕ) (d : Leg _) → j < l.leg-index → LegCommitsBy (said_of l.signal (get_or l.initial.legs j d).holder) (get_or l.initial.legs j d) (get_or l.legs j d))
    × ((j : ℕ) (d : Leg _) → l.leg-index ≤ j → get_or l.legs j d ≡ get_or l.initial.legs j d)
