use Rattle.std.proofs.Common.{◌≡◌, ◌+◌, ◌++◌, vec_len, vec_capacity}
use Rattle.call_cell.specs.SavedCells.{AreEmptied}
use Rattle.call_cell.proofs.SavedLegs.{saved_legs}
use Rattle.call_cell.proofs.saving.save_legs.Given as goal

abbrev pub invariant-loop : goal.invariant-loop
invariant-loop g l =
    (vec_len l.legs + l.counter ≡ vec_len l.initial.legs)
    × AreEmptied l.legs.items
    × (l.saved.items ++ saved_legs l.legs.items ≡ saved_legs l.initial.legs.items)
    × (vec_len l.saved ≡ l.counter)
    × (vec_capacity l.saved ≡ vec_len l.initial.legs)
