use Rattle.std.proofs.Common.{◌≡◌, ◌*◌, ◌≤◌, vec_len, vec_capacity}
use Rattle.turn_table.proofs.Casing.{Left, Laid}
use Rattle.turn_table.proofs.cased.case_all.Given as goal

abbrev pub invariant-boxes : goal.invariant-boxes
invariant-boxes g l = record {
  low : l.spot ≤ 960 * l.rows;
  count : vec_len l.slots ≡ l.spot;
  room : vec_capacity l.slots ≡ 960 * l.rows;
  left : Left l.rows l.initial.aside.items l.spot l.aside.items;
  laid : Laid l.rows l.initial.aside.items l.spot l.slots.items;
}
