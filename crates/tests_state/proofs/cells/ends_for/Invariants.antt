use Rattle.std.proofs.Common.{take}
use Rattle.call_cell.specs.GivenEnds.{HasEndsFor}
use Rattle.tests_state.proofs.cells.ends_for.Given as goal

abbrev pub invariant-loop-index : goal.invariant-loop-index
invariant-loop-index g l = HasEndsFor l.saved.config (take l.index l.saved.legs.items) l.ends.items
