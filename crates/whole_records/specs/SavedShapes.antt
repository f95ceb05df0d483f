-- The shapes that records hold: those of the dialogs, calls and cells that are saved so.
use Rattle.std.specs.Prelude.{◌≡◌, ◌≤◌, ℕ, zero, suc, true, List, map, Option, Some, None, is_some, slice_index_or}
use Rattle.relay_outside.specs.declared.settings.Config.{Config}
use Rattle.histories.specs.Words.{In, numbers}
use Rattle.offer_answer.specs.Sections.{most_sections}
use Rattle.offer_answer.specs.Shapes.{DialogShape, shape_in}
use Rattle.offer_answer.specs.declared.last_offer.LastOffer.{LastOffer}
use Rattle.offer_answer.specs.declared.saved.DialogSaved.{DialogSaved}
use Rattle.call_cell.specs.Parts.{key_number_in}
use Rattle.call_cell.specs.Shapes.{CellLegShape, CellShape, ended_shape}
use Rattle.call_cell.specs.declared.leg.Leg.{Leg}
use Rattle.call_cell.specs.declared.saved.CellSaved.{CellSaved}
use Rattle.call_cell.specs.declared.saved.LegSaved.{LegSaved}
use Rattle.call_board.specs.Shapes.{LiveShape}
use Rattle.call_board.specs.declared.saved_board.CallSaved.{CallSaved}

-- how many sections the last offer has, 0 where there is none
abbrev pub saved_offered_count : Option LastOffer → ℕ
saved_offered_count None = 0
saved_offered_count (Some last) = last.count

abbrev pub saved_dialog_shape : DialogSaved → DialogShape
saved_dialog_shape saved = record {
  sections = map (shape_in saved.sections) (numbers 0 most_sections);
  offered_count = saved_offered_count saved.last_offer;
  committed_count = saved.committed_count;
}

abbrev pub saved_live_shape : CallSaved → LiveShape
saved_live_shape saved = record { number = saved.number; cell = saved.cell; dialog = saved_dialog_shape saved.dialog }

abbrev pub saved_live_shapes : List CallSaved → List LiveShape
saved_live_shapes saved = map (λ (one : CallSaved). saved_live_shape one) saved

-- a leg has its ends once it is loaded
abbrev pub saved_leg_shape : LegSaved → CellLegShape
saved_leg_shape saved = record {
  holder = saved.holder;
  lease = saved.lease;
  has_ends = true;
  is_committed = is_some saved.signal;
  tag80 = key_number_in saved.tag80;
  tag32 = key_number_in saved.tag32;
}

abbrev pub saved_leg_shapes : List LegSaved → List CellLegShape
saved_leg_shapes saved = map (λ (leg : LegSaved). saved_leg_shape leg) saved

abbrev pub saved_cell_shape : CellSaved → CellShape
saved_cell_shape saved = record {
  config = saved.config;
  call = saved.call;
  is_committed = saved.is_committed;
  legs = saved_leg_shapes saved.legs.items;
}

abbrev pub saved_cell_shapes : List CellSaved → List CellShape
saved_cell_shapes saved = map (λ (one : CellSaved). saved_cell_shape one) saved

-- the cell of a number, of these from 1 in order; there is none else, which is as one that holds no call
abbrev pub saved_cell_at : Config → List CellSaved → ℕ → CellShape
saved_cell_at config saved zero = ended_shape config
saved_cell_at config saved (suc place) = slice_index_or (saved_cell_shapes saved) place (ended_shape config)

-- these are the shapes of the cells that are saved so, from 1 in order
abbrev pub AreSavedCells : Config → List CellSaved → (ℕ → CellShape) → Type 0
AreSavedCells config saved places = (k : ℕ) → 1 ≤ k → k ≤ config.max_sessions → places k ≡ saved_cell_at config saved k

-- each leg has its ends
abbrev pub HaveEnds : {O : Type 0} → List (Leg O) → Type 0
HaveEnds {O} those = (leg : Leg O) → In leg those → is_some leg.sending.ends ≡ true
