use Rattle.turn_table.specs.Hands.{IsSameHand, HasNoTurn}
use Rattle.turn_bench.proofs.turns.turn_rounds.Given as goal

abbrev pub invariant-loop-round : goal.invariant-loop-round
invariant-loop-round g l = record { same : IsSameHand l.initial.hand l.hand; idle : HasNoTurn l.hand }
