use Rattle.call_shapes.proofs.Needs.{cell_within, spare_is_empty, cell_is_small}
use Rattle.call_shapes.proofs.law.whole_cells.Goals as goal

pub returns-clause-within : goal.returns-clause-within
returns-clause-within c = λ config relay. cell_within config relay.board relay.cells relay.holders

pub returns-clause-spare : goal.returns-clause-spare
returns-clause-spare c = λ config relay. spare_is_empty config relay.board relay.cells relay.holders

pub returns-clause-small : goal.returns-clause-small
returns-clause-small c = λ config relay. cell_is_small config relay.board relay.cells relay.holders
