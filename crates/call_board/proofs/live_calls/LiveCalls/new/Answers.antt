use Rattle.std.proofs.Common.{ap, sym, subst}
use Rattle.std.specs.Map.{values_of}
use Rattle.call_board.specs.CallIds.{AreUnderTheirIds}
use Rattle.call_board.proofs.live_calls.LiveCalls.new.Goals as goal

pub invariant_of-result : goal.invariant_of-result
invariant_of-result c = subst AreUnderTheirIds (sym c.new.ensures.empty) tt

pub returns : goal.returns
returns c = ap values_of c.new.ensures.empty
