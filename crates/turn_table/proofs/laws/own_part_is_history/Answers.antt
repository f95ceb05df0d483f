use Rattle.turn_table.proofs.Places.{whole_history}
use Rattle.turn_table.proofs.laws.own_part_is_history.Goals as goal

pub returns : goal.returns
returns g c = whole_history
