use Rattle.std.proofs.Common.{sym, subst}
use Rattle.turn_example.specs.Parts.{IsExampleBox}
use Rattle.turn_example.proofs.Stays.{given_box}
use Rattle.turn_example.proofs.boxes.try_take.Goals as goal

pub take_from-outcome-requires : goal.take_from-outcome-requires
take_from-outcome-requires g c = subst IsExampleBox (sym c.state.ensures.value) (given_box g.I.End.gives _ _ _ _ c.in_ok-turn.ensures.turn.1 c.requires.place.1)
