use Rattle.std.proofs.Common.{sym, subst}
use Rattle.turn_example.specs.Parts.{IsBoard}
use Rattle.turn_example.proofs.Stays.{given_board}
use Rattle.turn_example.proofs.boxes.open_box.Goals as goal

pub count_opening-requires : goal.count_opening-requires
count_opening-requires g c = subst IsBoard (sym c.state.ensures.value) (given_board g.I.End.gives _ _ _ _ c.turn-turn.ensures.turn.1 c.requires.starts.0)
