use Rattle.std.proofs.Common.{◌≡◌, ◌+◌, ◌++◌, map, reverse, Some, vec_len, vec_capacity}
use Rattle.turn_table.proofs.cased.set_aside.Given as goal

abbrev pub invariant-moves : goal.invariant-moves
invariant-moves g l = record {
  whole : map (λ x. Some x) l.fn.states.items ≡ map (λ x. Some x) l.states.items ++ reverse l.aside.items;
  room : vec_len l.aside + vec_len l.states ≡ vec_capacity l.aside;
}

abbrev pub decreases-moves : goal.decreases-moves
decreases-moves g l = vec_len l.states
