use Rattle.turn_table.specs.Hands.{IsSameHand, HasNoTurn}
use Rattle.tests_turns.proofs.turn_table_tests.counts.add_times.Given as goal

abbrev pub invariant-loop : goal.invariant-loop
invariant-loop g l = record { same : IsSameHand l.initial.hand l.hand; idle : HasNoTurn l.hand }
