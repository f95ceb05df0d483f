-- What a record holds of the shape of what is saved so.
use Rattle.std.proofs.Common.{◌≡◌, ◌∙◌, refl, sym, ap, true, List, [], ◌∷◌, map, Option, Some, None}
use Rattle.std.specs.Prelude.{is_some}
use Rattle.histories.specs.Words.{here, there, numbers}
use Rattle.offer_answer.specs.Sections.{most_sections}
use Rattle.offer_answer.specs.declared.leg.DialogSection.{DialogSection}
use Rattle.offer_answer.specs.declared.last_offer.LastOffer.{LastOffer}
use Rattle.offer_answer.specs.declared.dialog.Dialog.{Dialog}
use Rattle.offer_answer.specs.declared.saved.DialogSaved.{DialogSaved}
use Rattle.offer_answer.specs.SavedDialogs.{DialogSaves, LastOfferSaves}
use Rattle.offer_answer.specs.Shapes.{dialog_shape, shape_in}
use Rattle.call_cell.specs.Parts.{key_number_in, boxed_in}
use Rattle.call_cell.specs.declared.leg.Leg.{Leg}
use Rattle.call_cell.specs.declared.cell.Cell.{Cell}
use Rattle.call_cell.specs.declared.saved.CellSaved.{CellSaved}
use Rattle.call_cell.specs.declared.saved.LegSaved.{LegSaved}
use Rattle.call_cell.specs.SavedCells.{SavesCell, saved_leg}
use Rattle.call_cell.specs.Shapes.{cell_shape, cell_leg_shape, cell_leg_shapes}
use Rattle.call_board.specs.declared.live_call.LiveCall.{LiveCall}
use Rattle.call_board.specs.declared.saved_board.CallSaved.{CallSaved}
use Rattle.call_board.specs.SavedBoards.{CallSaves, CallsSave}
use Rattle.call_board.specs.Shapes.{live_shape, live_shapes}
use Rattle.whole_records.specs.SavedShapes.{saved_offered_count, saved_dialog_shape, saved_live_shape, saved_live_shapes, saved_leg_shape, saved_leg_shapes, saved_cell_shape, HaveEnds}

offered_held : (last saved : Option LastOffer) → LastOfferSaves last saved → saved_offered_count last ≡ saved_offered_count saved
offered_held None None h = refl
offered_held None (Some saved) h = absurd h
offered_held (Some last) None h = absurd h
offered_held (Some last) (Some saved) h = sym h.count_is

pub dialog_held : (dialog : Dialog) (saved : DialogSaved) → DialogSaves dialog saved → dialog_shape dialog ≡ saved_dialog_shape saved
dialog_held dialog saved h =
    let sections = ap (λ (those : List DialogSection). map (shape_in those) (numbers 0 most_sections)) (sym h.sections_are) in
    let offered = offered_held dialog.last_offer saved.last_offer h.last_offer_is in
    let committed = sym h.committed_count_is in
    λ i. record { sections = sections i; offered_count = offered i; committed_count = committed i }

pub call_held : (call : LiveCall) (saved : CallSaved) → CallSaves call saved → live_shape call ≡ saved_live_shape saved
call_held call saved h =
    let dialog = dialog_held call.dialog.value saved.dialog h.dialog_is in
    λ i. record { number = h.number_is i; cell = h.cell_is i; dialog = dialog i }

pub calls_held : (calls : List LiveCall) (saved : List CallSaved) → CallsSave calls saved → live_shapes calls ≡ saved_live_shapes saved
calls_held [] [] h = refl
calls_held [] (one ∷ saved) h = absurd h
calls_held (call ∷ calls) [] h = absurd h
calls_held (call ∷ calls) (one ∷ saved) h = λ i. call_held call one h.0 i ∷ calls_held calls saved h.1 i

leg_held : {O : Type 0} (leg : Leg O) → is_some leg.sending.ends ≡ true → cell_leg_shape leg ≡ saved_leg_shape (saved_leg leg)
leg_held leg there_ = λ i. record {
  holder = leg.holder;
  lease = leg.lease;
  has_ends = there_ i;
  is_committed = is_some leg.signal;
  tag80 = key_number_in (boxed_in leg.sending.tag80);
  tag32 = key_number_in (boxed_in leg.sending.tag32);
}

legs_held : {O : Type 0} (those : List (Leg O)) → HaveEnds those → cell_leg_shapes those ≡ saved_leg_shapes (map (λ (leg : Leg O). saved_leg leg) those)
legs_held [] ends = refl
legs_held (leg ∷ those) ends = λ i. leg_held leg (ends leg (here refl)) i ∷ legs_held those (λ other at. ends other (there at)) i

pub cell_held : {O : Type 0} (cell : Cell O) (saved : CellSaved) → SavesCell cell saved → HaveEnds cell.legs.items → cell_shape cell ≡ saved_cell_shape saved
cell_held {O} cell saved h ends =
    let config = sym h.config in
    let call = sym h.call in
    let committed = sym h.is_committed in
    let legs = legs_held cell.legs.items ends ∙ ap (λ (those : List LegSaved). saved_leg_shapes those) (sym h.legs) in
    λ i. record { config = config i; call = call i; is_committed = committed i; legs = legs i }
