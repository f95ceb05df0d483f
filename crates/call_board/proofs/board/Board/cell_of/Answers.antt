use Rattle.std.proofs.Common.{ap}
use Rattle.std.specs.Prelude.{option_map}
use Rattle.call_board.specs.Shapes.{LiveShape}
use Rattle.call_board.proofs.Shaped.{numbered_shape}
use Rattle.call_board.proofs.board.Board.cell_of.Goals as goal

pub returns-clause-shape : goal.returns-clause-shape
returns-clause-shape c =
    ap (option_map (λ (live : LiveShape). live.cell)) (numbered_shape c.args.call c.args.self.now.calls.list c.live.result.now c.live.ensures.found)
