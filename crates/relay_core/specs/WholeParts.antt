-- Which parts a node may begin with: their states go together, whatever their histories.
use Rattle.std.specs.Prelude.{◌≡◌, ◌<◌, ◌≤◌, ◌+◌, ℕ, List, length, Option, Some, None, slice_get}
use Rattle.relay_outside.specs.declared.settings.Config.{Config}
use Rattle.rtp_packet.specs.declared.head.Half.TheVariants.{Rtp}
use Rattle.port_pool.specs.declared.holder.Holder.{Holder}
use Rattle.port_pool.specs.declared.boxes.PairBox.{PairBox}
use Rattle.port_pool.specs.PairBoxes.{holder_in, at_of, cells_of}
use Rattle.port_pool.specs.Ports.{pair_count, port_address}
use Rattle.call_cell.specs.declared.cell.Cell as cell
use Rattle.call_cell.specs.Shapes.{CellShape, ended_shape, cell_shape}
use Rattle.call_board.specs.declared.board.Board as board
use Rattle.call_board.specs.Shapes.{board_shape}
use Rattle.call_shapes.specs.WholeRelay.{AreWhole}
use Rattle.relay_core.specs.declared.part.Part.{Part}
use Rattle.relay_core.specs.declared.part.Part.TheVariants as part
use Rattle.relay_core.specs.Entries.{box_of}

module _ {I O : Type 0} where
  -- the shape of the cell at a place, and the holder of the box of a pair; where there is none, those of an empty cell and a shut box
  abbrev pub shape_of_part : Config → Option (Part I O) → CellShape
  shape_of_part config (Some (part.Cell c)) = cell_shape c
  shape_of_part config _ = ended_shape config

  abbrev pub cell_shape_at : Config → List (Part I O) → (place : ℕ) → CellShape
  cell_shape_at config parts place = shape_of_part config (slice_get parts place)

  abbrev pub holder_of_part : Option (Part I O) → Option Holder
  holder_of_part (Some (part.Pair box)) = holder_in box
  holder_of_part _ = None

  abbrev pub box_holder_at : Config → List (Part I O) → (pair : ℕ) → Option Holder
  box_holder_at config parts pair = holder_of_part (slice_get parts (box_of config pair))

  -- the place has a cell, or the box of that pair, at the address of the pair's port for RTP
  abbrev pub HasCell : List (Part I O) → (place : ℕ) → Type 0
  HasCell parts place = (c : cell.Cell O) × (slice_get parts place ≡ Some (part.Cell c))

  abbrev pub HasBox : Config → List (Part I O) → (pair : ℕ) → Type 0
  HasBox config parts pair =
      (box : PairBox I) × (slice_get parts (box_of config pair) ≡ Some (part.Pair box)) × (cells_of box ≡ config.max_sessions) × (at_of box ≡ port_address config pair Rtp)

  -- The board, a cell for each call that may be live, and the box of each port pair: what they keep goes together
  pub record AreWholeParts (config : Config) (parts : List (Part I O)) : Type 0 where
    pub count_is : length parts ≡ config.max_sessions + 1 + pair_count config
    pub board : board.Board
    pub board_is : slice_get parts 0 ≡ Some (part.Board board)
    pub cells : (k : ℕ) → 1 ≤ k → k ≤ config.max_sessions → HasCell parts k
    pub boxes : (pair : ℕ) → pair < pair_count config → HasBox config parts pair
    pub whole : AreWhole config (board_shape board) (cell_shape_at config parts) (box_holder_at config parts)
