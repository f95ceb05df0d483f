use Rattle.std.proofs.Common.{lit<}
use Rattle.port_pool.specs.Ports.{pair_count, range_pairs}
use Rattle.board_turns.proofs.First.{first_shut}
use Rattle.tests_turns.proofs.nested_step_tests.a_box_is_opened_for_its_leg.Goals as goal

pub open_box-requires-clause-pair : goal.open_box-requires-clause-pair
unfolding pair_count range_pairs
open_box-requires-clause-pair g c = lit< tt

pub open_box-requires-clause-shut : goal.open_box-requires-clause-shut
unfolding pair_count range_pairs
open_box-requires-clause-shut g c = first_shut _ c.in-Some.hand 1 c.in-Some.ensures.may.parts c.in-Some.ensures.may.whole_parts c.in-Some.ensures.hand.0 (lit< tt)

pub open_box-requires-clause-ends : goal.open_box-requires-clause-ends
open_box-requires-clause-ends g c = (record { at_is = c.quiet-rtp.ensures; uncalled = tt }, record { at_is = c.quiet-rtcp.ensures; uncalled = tt })
