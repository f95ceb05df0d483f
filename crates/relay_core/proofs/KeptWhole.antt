-- What a hand keeps still goes together after a turn of the board, and with the rows of a lane.
use Rattle.std.proofs.Common.{◌≡◌, ◌∙◌, sym, ap, subst, ℕ, true, false, List, [], ◌∷◌, ◌++◌, Option, Some}
use Rattle.relay_outside.specs.declared.settings.Config.{Config}
use Rattle.turn_table.specs.declared.machine.Entry as table
use Rattle.turn_table.specs.Histories as table_lists
use Rattle.turn_table.specs.declared.hands.Hand.{Hand}
use Rattle.turn_table.specs.Hands.{starts, entries}
use Rattle.histories.specs.Words.{In, has}
use Rattle.port_pool.specs.declared.holder.Holder.{Holder}
use Rattle.call_cell.specs.Cells.{CellEvent}
use Rattle.call_cell.specs.Shapes.{CellShape}
use Rattle.call_board.specs.Acts.{Call}
use Rattle.call_board.specs.Shapes.{BoardShape}
use Rattle.call_shapes.specs.Agreement.{CallAgrees}
use Rattle.call_shapes.specs.Events.{shape_after_event}
use Rattle.call_shapes.specs.Turns.{pairs_held, holders_of, BoxesMove}
use Rattle.call_shapes.specs.WholeRelay.{AreWhole, PoolHolds, held_legs, holder_among}
use Rattle.call_shapes.proofs.Places.{flat_alike}
use Rattle.call_shapes.proofs.Relays.{legs_in}
use Rattle.relay_core.specs.declared.part.Part.{Part}
use Rattle.relay_core.specs.Records.{Made, list_of}
use Rattle.relay_core.specs.ReturnedPairs.{is_boards}
use Rattle.relay_core.specs.Turns.{IsAbove, IsOfLane, made_by, GainsNested}
use Rattle.relay_core.specs.KeptAfter.{cell_shape_after, holder_after, board_shape_after, IsWholeWith, IsWholeNow}
use Rattle.relay_core.proofs.KeptBoards.{lanes_keep_board, board_row_kept}
use Rattle.relay_core.proofs.KeptGained.{lanes_keep_cells, lanes_keep_holders, board_event_keeps_cells, board_keeps_holders, hand_cells, hand_holders}
use Rattle.relay_core.proofs.KeptScripts.{HaveOwnPairs, one_turn, turn_cell, turn_other_cells, turn_boxes}

-- Cells and boxes that keep the same, one by one.

pub whole_alike : (config : Config) (shape : BoardShape) (cells others : ℕ → CellShape) (holders boxes : ℕ → Option Holder) → ((k : ℕ) → others k ≡ cells k)
    → ((pair : ℕ) → boxes pair ≡ holders pair) → AreWhole config shape cells holders → AreWhole config shape others boxes
whole_alike config shape cells others holders boxes same_cells same_boxes whole =
    let held : held_legs others shape.calls ≡ held_legs cells shape.calls
    = flat_alike (legs_in others) (legs_in cells) shape.calls (λ call i. ap (λ (s : CellShape). holders_of s.legs) (same_cells call.cell)) in
    record {
      families = whole.families;
      config_is = whole.config_is;
      numbers = whole.numbers;
      apart = whole.apart;
      low = whole.low;
      marked = whole.marked;
      calls = λ call i. subst (λ (s : CellShape). CallAgrees config call.cell call.number call.dialog s) (sym (same_cells call.cell)) (whole.calls call i);
      empty = λ k low high out. same_cells k ∙ whole.empty k low high out;
      pool = subst (λ (l : List Holder). PoolHolds config shape.pool l) (sym held) whole.pool;
      held = λ pair below. same_boxes pair ∙ whole.held pair below ∙ ap (λ (l : List Holder). holder_among l pair) (sym held);
    }

pub boxes_alike : (came gone : List Holder) (old new others : ℕ → Option Holder) → ((pair : ℕ) → others pair ≡ new pair)
    → BoxesMove came gone old new → BoxesMove came gone old others
boxes_alike came gone old new others same moves = record {
  opened = λ leg i. same leg.pair ∙ moves.opened leg i;
  shut = λ leg i. same leg.pair ∙ moves.shut leg i;
  others = λ pair none_came none_gone. same pair ∙ moves.others pair none_came none_gone;
}

-- A hand's turn with an offer or an answer, by what its list gains: the nested entries.

module _ {M I O T : Type 0} {g : _} (config : Config) (number moment : ℕ) (came : List Holder) (of : Call) (event : CellEvent) (gone : List Holder)
    (old new : Hand M (Part I O) Made T g) (same : starts new ≡ starts old) (gains : GainsNested number moment (one_turn config came of event gone) old new) where
  pub hand_turn_cell : cell_shape_after config (starts new) (made_by new) of.cell ≡ shape_after_event event (cell_shape_after config (starts old) (made_by old) of.cell)
  hand_turn_cell =
      hand_cells config number moment (one_turn config came of event gone) old new same gains of.cell
      ∙ turn_cell config came of event gone (cell_shape_after config (starts old) (made_by old))

  pub hand_other_cells : (k : ℕ) → (k ≡ of.cell → ⊥)
      → cell_shape_after config (starts new) (made_by new) k ≡ cell_shape_after config (starts old) (made_by old) k
  hand_other_cells k apart =
      hand_cells config number moment (one_turn config came of event gone) old new same gains k
      ∙ turn_other_cells config came of event gone (cell_shape_after config (starts old) (made_by old)) k apart

  pub hand_turn_boxes : HaveOwnPairs came → ((leg : Holder) → In leg came → has (pairs_held gone) leg.pair ≡ false)
      → BoxesMove came gone (holder_after config (starts old) (made_by old)) (holder_after config (starts new) (made_by new))
  hand_turn_boxes own apart =
      let before = holder_after config (starts old) (made_by old) in
      boxes_alike came gone before _ (holder_after config (starts new) (made_by new))
      (λ pair. hand_holders config number moment (one_turn config came of event gone) old new same gains pair)
      (turn_boxes config came of event gone before own apart)

-- A hand's own entry of the board, and a lane's rows.

module _ {M I O T : Type 0} {g : _} (config : Config) (old new : Hand M (Part I O) Made T g) (same : starts new ≡ starts old) where
  whole_same : (shape : BoardShape) → ((k : ℕ) → cell_shape_after config (starts old) (made_by new) k ≡ cell_shape_after config (starts old) (made_by old) k)
      → ((pair : ℕ) → holder_after config (starts old) (made_by new) pair ≡ holder_after config (starts old) (made_by old) pair)
      → IsWholeWith config old shape → IsWholeWith config new shape
  whole_same shape cells boxes whole =
      whole_alike config shape (cell_shape_after config (starts old) (made_by old)) (cell_shape_after config (starts new) (made_by new))
      (holder_after config (starts old) (made_by old)) (holder_after config (starts new) (made_by new))
      (λ k. ap (λ (parts : List (Part I O)). cell_shape_after config parts (made_by new) k) same ∙ cells k)
      (λ pair. ap (λ (parts : List (Part I O)). holder_after config parts (made_by new) pair) same ∙ boxes pair) whole

  -- what the board's entry records that the board keeps goes with what the cells and the boxes kept before it
  pub turn_whole : (row : table.Entry Made T) (shape : BoardShape) → entries new ≡ entries old ++ row ∷ [] → row.place ≡ 0 → is_boards row.event.event ≡ true
      → IsAbove (made_by old) 0 row.number → row.event.kept ≡ Some shape → IsWholeWith config old shape → IsWholeNow config new
  turn_whole row shape is at boards above kept whole = record {
    shape = shape;
    kept = ap (λ (parts : List (Part I O)). board_shape_after parts (entries new)) same
        ∙ ap (λ (rows : List (table.Entry Made T)). board_shape_after (starts old) rows) is
        ∙ board_row_kept (starts old) (entries old) row at boards above ∙ kept;
    whole = whole_same shape
        (λ k. ap (λ (rows : List (table.Entry Made T)). cell_shape_after config (starts old) (list_of rows) k) is
        ∙ board_event_keeps_cells config (starts old) (entries old) row boards (subst (λ (p : ℕ). IsAbove (made_by old) p row.number) (sym at) above) k)
        (λ pair. ap (λ (rows : List (table.Entry Made T)). holder_after config (starts old) (list_of rows) pair) is
        ∙ board_keeps_holders config (starts old) (entries old) row at pair) whole;
  }

  -- takes and relays that follow the list change nothing
  pub lanes_whole : (rows : List (table.Entry Made T)) → entries new ≡ entries old ++ rows
      → ((row : table.Entry Made T) → table_lists.IsMemberOf row rows → IsOfLane row.event.event) → IsWholeNow config old → IsWholeNow config new
  lanes_whole rows is lanes now = record {
    shape = now.shape;
    kept = ap (λ (parts : List (Part I O)). board_shape_after parts (entries new)) same
        ∙ ap (λ (all : List (table.Entry Made T)). board_shape_after (starts old) all) is
        ∙ lanes_keep_board (starts old) (entries old) rows lanes ∙ now.kept;
    whole = whole_same now.shape
        (λ k. ap (λ (all : List (table.Entry Made T)). cell_shape_after config (starts old) (list_of all) k) is
        ∙ lanes_keep_cells config (starts old) (entries old) rows lanes k)
        (λ pair. ap (λ (all : List (table.Entry Made T)). holder_after config (starts old) (list_of all) pair) is
        ∙ lanes_keep_holders config (starts old) (entries old) rows lanes pair) now.whole;
  }
