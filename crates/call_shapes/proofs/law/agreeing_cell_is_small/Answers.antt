use Rattle.call_shapes.proofs.Small.{agreeing_small}
use Rattle.call_shapes.proofs.law.agreeing_cell_is_small.Goals as goal

pub returns : goal.returns
returns c = agreeing_small
