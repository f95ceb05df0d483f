use Rattle.std.proofs.Common.{◌≡◌}
use Rattle.turn_table.specs.Hands.{parts}
use Rattle.board_turns.specs.Between.{IsBetween}
use Rattle.tests_turns.proofs.one_datagram_tests.a_call_is_offered_answered_and_deleted.Given as goal

abbrev pub invariant-loop-place : goal.invariant-loop-place
invariant-loop-place g l = record {
  parts : parts l.hand ≡ 1024;
  between : IsBetween l.server.config l.server.turns l.hand;
}
