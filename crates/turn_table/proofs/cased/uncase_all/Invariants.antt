use Rattle.std.proofs.Common.{◌≡◌, min, vec_len, vec_capacity}
use Rattle.std.specs.Slots.{slots_items, slots_filled, slots_len}
use Rattle.turn_table.proofs.Casing.{Full, Taken, Back}
use Rattle.turn_table.proofs.cased.uncase_all.Given as goal

abbrev pub invariant-takes : goal.invariant-takes
invariant-takes g l = record {
  same : slots_items l.closed.slots ≡ slots_items l.initial.closed.slots;
  long : slots_len l.closed.slots ≡ slots_len l.initial.closed.slots;
  end : l.place-end ≡ slots_len l.initial.closed.slots;
  count : vec_len l.states ≡ min l.place l.places;
  room : vec_capacity l.states ≡ vec_capacity l.initial.states;
  full : Full l.rows l.place (slots_filled l.closed.slots);
  taken : Taken l.rows l.place (slots_filled l.closed.slots);
  back : Back l.rows l.places (slots_items l.initial.closed.slots) l.place l.states.items;
}
