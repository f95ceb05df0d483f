use Rattle.std.proofs.Common.{◌∙◌}
use Rattle.tests_state.proofs.TwoLegs.{both_added, two_fit, two_stand}
use Rattle.tests_state.proofs.cells.offered_cell.Goals as goal

pub prepare-requires-clause-room : goal.prepare-requires-clause-room
prepare-requires-clause-room g c =
    two_fit _ c.empty-cell.result c.add_key-2.new.self c.empty-cell.ensures
    (both_added _ _ _ _ _ _ c.in-Ok.ensures.nothing.1 c.add_leg.ensures.holders c.add_leg-2.ensures.holders (c.add_key-2.ensures.legs.0 ∙ c.add_key.ensures.legs.0))

pub returns : goal.returns
returns g c =
    two_stand _ c.empty-cell.result c.prepare.new.self c.add_key-2.new.self _ _ c.empty-cell.ensures
    (both_added _ _ _ _ _ _ c.in-Ok.ensures.nothing.1 c.add_leg.ensures.holders c.add_leg-2.ensures.holders (c.add_key-2.ensures.legs.0 ∙ c.add_key.ensures.legs.0))
    c.prepare.ensures.legs
