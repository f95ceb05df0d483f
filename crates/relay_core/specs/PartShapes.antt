-- What a place keeps, whatever its history.
use Rattle.std.specs.Prelude.{Option, Some, None}
use Rattle.port_pool.specs.declared.holder.Holder.{Holder}
use Rattle.port_pool.specs.PairBoxes.{holder_in}
use Rattle.call_cell.specs.Shapes.{CellShape, cell_shape}
use Rattle.call_board.specs.Shapes.{BoardShape, board_shape}
use Rattle.relay_core.specs.declared.part.Part.{Part}
use Rattle.relay_core.specs.declared.part.Part.TheVariants as part

module _ {I O : Type 0} where
  abbrev pub board_shape_in : Part I O → Option BoardShape
  board_shape_in (part.Board board) = Some (board_shape board)
  board_shape_in _ = None

  abbrev pub cell_shape_in : Part I O → Option CellShape
  cell_shape_in (part.Cell cell) = Some (cell_shape cell)
  cell_shape_in _ = None

  -- the leg that the box is open for
  abbrev pub box_holder_in : Part I O → Option Holder
  box_holder_in (part.Pair box) = holder_in box
  box_holder_in _ = None
