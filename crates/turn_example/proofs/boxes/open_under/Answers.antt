use Rattle.std.proofs.Common.{sym, subst}
use Rattle.turn_example.specs.Parts.{IsExampleBox}
use Rattle.turn_example.proofs.Stays.{given_box}
use Rattle.turn_example.proofs.boxes.open_under.Goals as goal

pub open_part-former-requires : goal.open_part-former-requires
open_part-former-requires g c = subst IsExampleBox (sym c.state.ensures.value) (given_box g.I.End.gives _ _ _ _ c.turn-turn.ensures.turn.1 c.requires.place.1)
