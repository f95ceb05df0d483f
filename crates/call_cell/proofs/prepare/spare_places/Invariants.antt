use Rattle.std.proofs.Common.{◌≡◌, vec_len}
use Rattle.call_cell.proofs.prepare.spare_places.Given as goal

abbrev pub invariant-loop : goal.invariant-loop
invariant-loop l = vec_len l.places ≡ l.counter
