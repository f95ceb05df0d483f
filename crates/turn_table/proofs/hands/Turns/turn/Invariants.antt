use Rattle.std.proofs.Common.{◌≡◌, ℕ, ◌≢◌, ◌≤◌}
use Rattle.turn_table.specs.Hands.{IsSameHand, entries, SameTurns, TriedOnly, seen}
use Rattle.turn_table.proofs.hands.Turns.turn.Given as goal

abbrev pub invariant-loop : goal.invariant-loop
invariant-loop g l = record {
  same : IsSameHand l.initial.hand l.hand;
  entries : entries l.hand ≡ entries l.initial.hand;
  tried : TriedOnly l.place l.initial.hand l.hand;
  turns : SameTurns l.initial.hand l.hand;
  more : seen l.initial.hand l.place ≤ seen l.hand l.place;
  others : (j : ℕ) → j ≢ l.place → seen l.hand j ≡ seen l.initial.hand j;
}
