use Rattle.std.proofs.Common.{◌∙◌}
use Rattle.call_cell.proofs.Callers.{empty_fits}
use Rattle.tests_calls.proofs.call_cell_tests.offered.Goals as goal

pub prepare-requires-clause-room : goal.prepare-requires-clause-room
prepare-requires-clause-room g c =
    empty_fits _ c.empty-cell.result c.add_key.new.self _ _ c.empty-cell.ensures c.in-Ok.ensures.nothing.1
    (c.add_key.ensures.legs.0 ∙ c.add_leg.ensures.holders)
