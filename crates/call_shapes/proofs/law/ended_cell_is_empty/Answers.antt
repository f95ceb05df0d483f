use Rattle.std.proofs.Common.{ap}
use Rattle.call_cell.specs.Shapes.{ended_shape}
use Rattle.call_shapes.proofs.law.ended_cell_is_empty.Goals as goal

pub returns : goal.returns
returns c = λ config cell call dialog shape h. ap ended_shape h.config_is
