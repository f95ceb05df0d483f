-- What keeps together stays together where a cell is told of what changes none of it.
use Rattle.std.proofs.Common.{◌≡◌, ◌∙◌, refl, ℕ, Bool, true, false, cond, ◌==◌, [], ◌∷◌, Option}
use Rattle.relay_outside.specs.declared.settings.Config.{Config}
use Rattle.turn_table.specs.declared.hands.Hand.{Hand}
use Rattle.turn_table.specs.Hands.{starts}
use Rattle.port_pool.specs.declared.holder.Holder.{Holder}
use Rattle.call_cell.specs.Cells.{CellEvent}
use Rattle.call_cell.specs.Shapes.{CellShape}
use Rattle.call_board.specs.Shapes.{BoardShape}
use Rattle.call_shapes.specs.Events.{shape_after_event}
use Rattle.relay_core.specs.declared.part.Part.{Part}
use Rattle.relay_core.specs.Entries.{box_of}
use Rattle.relay_core.specs.KeptAfter.{IsWholeWith, cell_shape_after, holder_after}
use Rattle.relay_core.specs.Records.{Made}
use Rattle.relay_core.specs.Turns.{GainsNested, made_by}
use Rattle.relay_core.proofs.KeptGained.{hand_cells, hand_holders}
use Rattle.relay_core.proofs.KeptWhole.{whole_alike}
use Rattle.board_turns.specs.InCells.{in_cell_of}

either_shape : (t : Bool) (told shape : CellShape) → told ≡ shape → cond t told shape ≡ shape
either_shape true told shape same = same
either_shape false told shape same = refl

either_held : (t : Bool) (held : Option Holder) → cond t held held ≡ held
either_held true held = refl
either_held false held = refl

module _ {M I O T : Type 0} {g : _} (config : Config) (number moment : ℕ) (old new : Hand M (Part I O) Made T g) (same : starts new ≡ starts old) where
  -- a cell was told of an event that changes nothing of its shape
  pub told_whole : (cell : ℕ) (event : CellEvent) (board : BoardShape) → ((shape : CellShape) → shape_after_event event shape ≡ shape)
      → GainsNested number moment (in_cell_of cell event ∷ []) old new → IsWholeWith config old board → IsWholeWith config new board
  told_whole cell event board idle gains whole =
      let cells = cell_shape_after config (starts old) (made_by old) in
      let holders = holder_after config (starts old) (made_by old) in
      whole_alike config board cells (cell_shape_after config (starts new) (made_by new)) holders (holder_after config (starts new) (made_by new))
      (λ k.
      hand_cells config number moment (in_cell_of cell event ∷ []) old new same gains k
      ∙ either_shape (cell == k) (shape_after_event event (cells k)) (cells k) (idle (cells k)))
      (λ pair. hand_holders config number moment (in_cell_of cell event ∷ []) old new same gains pair ∙ either_held (cell == box_of config pair) (holders pair))
      whole
