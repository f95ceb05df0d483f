use Rattle.std.proofs.Common.{◌≡◌, ◌+◌, ◌++◌, vec_len, vec_capacity, length}
use Rattle.std.specs.Vec.Iter.{into_iter_items}
use Rattle.call_cell.specs.SavedCells.{AreEmptied}
use Rattle.call_cell.proofs.SavedLegs.{saved_legs}
use Rattle.call_cell.proofs.loading.load_legs.Given as goal

abbrev pub invariant-loop-one : goal.invariant-loop-one
invariant-loop-one g l =
    (goal.iterator-loop-one g).can_next l.one-iterator
    × (goal.iterator-loop-one g).is_finite l.one-iterator
    × (saved_legs l.legs.items ++ into_iter_items l.one-iterator ≡ l.fn.saved.items)
    × AreEmptied l.legs.items
    × (vec_len l.legs + length (into_iter_items l.one-iterator) ≡ vec_capacity l.legs)
