use Rattle.std.proofs.Common.{◌≡◌, ◌+◌, vec_len}
use Rattle.call_cell.specs.SavedCells.{AreEmptied}
use Rattle.call_cell.proofs.saving.let_go.Given as goal

abbrev pub invariant-loop : goal.invariant-loop
invariant-loop g l = (vec_len l.legs + l.counter ≡ vec_len l.initial.legs) × AreEmptied l.legs.items
