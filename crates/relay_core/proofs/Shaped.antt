-- The shape of a cell, the holder of a box and what the board keeps, as a turn gives them to the main hand: they follow from the start and from
-- the hand's own list, since a relay and a take change nothing of them.
use Rattle.std.proofs.Common.{◌≡◌, refl, sym, ◌∙◌, ap, subst, ℕ, ◌≤◌, Bool, true, false, List, [], ◌∷◌, Option, Some, None, IfSome, cond, filter}
use Rattle.std.specs.List.{filter_map, cons_option}
use Rattle.relay_outside.specs.declared.ports.InCall.{InCall}
use Rattle.relay_outside.specs.declared.ports.OutCall.{OutCall}
use Rattle.relay_outside.specs.DeviceLogs.{EndLog}
use Rattle.turn_table.specs.declared.machine.Entry as table
use Rattle.turn_table.specs.declared.view.View.{View}
use Rattle.turn_table.specs.Histories.{Leaves}
use Rattle.port_pool.specs.declared.holder.Holder.{Holder}
use Rattle.port_pool.specs.declared.boxes.PairBox.{PairBox}
use Rattle.port_pool.specs.Boxes.{BoxEvent, Open, Take, Close, holder}
use Rattle.port_pool.specs.PairBoxes.{holder_in, cells_of}
use Rattle.call_cell.specs.declared.cell.Cell as cell
use Rattle.call_cell.specs.Cells.{CellEvent, CellEntry, Prepare, Commit, Relay, Expire, Read, End}
use Rattle.call_cell.specs.Shapes.{CellShape, cell_shape}
use Rattle.call_board.specs.Shapes.{BoardShape, board_shape}
use Rattle.call_shapes.specs.Events.{shape_after_event, shape_by, holder_by}
use Rattle.relay_core.specs.declared.part.Part.{Part}
use Rattle.relay_core.specs.declared.part.Part.TheVariants as part
use Rattle.relay_core.specs.Entries.{Event, Board, Cell, Box, Entry, history, cell_at, cell_entry, cell_history, box_in, box_event, box_history}
use Rattle.relay_core.specs.PlaceHistories.{nested_of}
use Rattle.relay_core.specs.Records.{Made, entry_of, list_of}
use Rattle.relay_core.specs.Steps.{CellSteps, CellStepsBy, BoxSteps, is_reserved}
use Rattle.relay_core.specs.Turns.{Numbered}
use Rattle.relay_core.proofs.Stays.{onto, Steps}
use Rattle.relay_core.proofs.Given.{Gives, same_nested, kept_history}

-- A cell.

pub cell_shaped : {O : Type 0} (ot : O → EndLog OutCall) (oc : O → ℕ) (old new : cell.Cell O) (made : Made) (event : CellEvent) → CellStepsBy ot oc old made event new
    → cell_shape new ≡ shape_after_event event (cell_shape old)
cell_shaped ot oc old new made (Prepare call legs keys dropped) step = step.shape
cell_shaped ot oc old new made (Commit signal) step = step.shape
cell_shaped ot oc old new made (Relay x) step = step.shape
cell_shaped ot oc old new made (Expire due) step = step.shape
cell_shaped {O} ot oc old new made (Read reports) step = ap (λ (c : cell.Cell O). cell_shape c) step.same
cell_shaped ot oc old new made End step = step.shape

shaped_step : {O : Type 0} (ot : O → EndLog OutCall) (oc : O → ℕ) (old new : cell.Cell O) (made : Made) (moment : ℕ) (event : Event) (h : List CellEntry) (shape : CellShape)
    → CellSteps ot oc old made event new → cell_shape old ≡ shape_by h shape → cell_shape new ≡ shape_by (cons_option (cell_at moment event) h) shape
shaped_step ot oc old new made moment (Cell c) h shape step was = cell_shaped ot oc old new made c step ∙ ap (λ (s : CellShape). shape_after_event c s) was
shaped_step ot oc old new made moment (Board b) h shape step was = absurd step
shaped_step ot oc old new made moment (Box b) h shape step was = absurd step

module _ {I O : Type 0} where
  -- the state is a cell of this shape
  abbrev pub HasShape : Part I O → CellShape → Type 0
  HasShape (part.Cell c) shape = cell_shape c ≡ shape
  HasShape _ shape = ⊥

  -- the state is the box of a pair with this holder, whose cell is one of the table's
  abbrev pub HasHolder : ℕ → Part I O → Option Holder → Type 0
  HasHolder cells (part.Pair box) held =
      (holder_in box ≡ held) × (cells_of box ≡ cells) × IfSome (holder_in box) (λ leg. (1 ≤ leg.cell) × (leg.cell ≤ cells_of box))
  HasHolder cells _ held = ⊥

  -- the state is a board that keeps this
  abbrev pub Keeps : Part I O → BoardShape → Type 0
  Keeps (part.Board b) shape = board_shape b ≡ shape
  Keeps _ shape = ⊥

-- no relay changes the shape
nested_shape_by : (e : CellEntry) (h : List CellEntry) (shape : CellShape) → shape_by (nested_of h) shape ≡ shape_by h shape → shape_by (nested_of (e ∷ h)) shape ≡ shape_by (e ∷ h) shape
nested_shape_by e h shape rest = by_event e.moment e.event
  where
    by_event : (moment : ℕ) (event : CellEvent) → shape_by (nested_of ((record { moment = moment; event = event }) ∷ h)) shape ≡ shape_after_event event (shape_by h shape)
    by_event moment (Relay x) = rest
    by_event moment (Prepare call legs keys dropped) = ap (shape_after_event (Prepare call legs keys dropped)) rest
    by_event moment (Commit signal) = ap (shape_after_event (Commit signal)) rest
    by_event moment (Expire due) = rest
    by_event moment (Read reports) = rest
    by_event moment End = ap (shape_after_event End) rest

pub nested_shape : (h : List CellEntry) (shape : CellShape) → shape_by (nested_of h) shape ≡ shape_by h shape
nested_shape [] shape = refl
nested_shape (e ∷ h) shape = nested_shape_by e h shape (nested_shape h shape)

-- A box.

-- a box in any state stands for an opening, or for nothing
abbrev opening : Option Holder → List BoxEvent
opening None = []
opening (Some leg) = Open leg ∷ []

opening_held : (held : Option Holder) → holder (opening held) ≡ held
opening_held None = refl
opening_held (Some leg) = refl

held_after : (event : BoxEvent) (held : Option Holder) → holder (event ∷ opening held) ≡ holder_by (event ∷ []) held
held_after (Open leg) held = refl
held_after (Take half taken) held = opening_held held
held_after Close held = refl

held_by : (event : Event) (h : List BoxEvent) (start held : Option Holder) → held ≡ holder_by h start
    → holder (cons_option (box_in event) (opening held)) ≡ holder_by (cons_option (box_in event) h) start
held_by (Box (Open leg)) h start held is = refl
held_by (Box (Take half taken)) h start held is = opening_held held ∙ is
held_by (Box Close) h start held is = refl
held_by (Board b) h start held is = opening_held held ∙ is
held_by (Cell c) h start held is = opening_held held ∙ is

held_step : {I : Type 0} (it : I → EndLog InCall) (ic : I → ℕ) (old new : PairBox I) (made : Made) (event : Event) (h : List BoxEvent) (start : Option Holder) (cells : ℕ)
    → BoxSteps it ic old made event new → (holder_in old ≡ holder_by h start) × (cells_of old ≡ cells) × IfSome (holder_in old) (λ leg. (1 ≤ leg.cell) × (leg.cell ≤ cells_of old))
    → (holder_in new ≡ holder_by (cons_option (box_in event) h) start) × (cells_of new ≡ cells) × IfSome (holder_in new) (λ leg. (1 ≤ leg.cell) × (leg.cell ≤ cells_of new))
held_step it ic old new made (Box b) h start cells step was =
    let s = step.stands (opening (holder_in old)) (record { holder_is = opening_held (holder_in old); cell_is = was.2 }) in
    (sym s.1.holder_is ∙ held_by (Box b) h start (holder_in old) was.0, step.cells_are ∙ was.1, s.1.cell_is)
held_step it ic old new made (Board b) h start cells step was = absurd step
held_step it ic old new made (Cell c) h start cells step was = absurd step

-- what a history keeps of takes does not matter
held_more : (o : Option BoxEvent) (h k : List BoxEvent) (start : Option Holder) → holder_by h start ≡ holder_by k start
    → holder_by (cons_option o h) start ≡ holder_by (cons_option o k) start
held_more None h k start same = same
held_more (Some (Open leg)) h k start same = refl
held_more (Some (Take half taken)) h k start same = same
held_more (Some Close) h k start same = refl

abbrev keeps_event : Entry → Bool
keeps_event e = is_reserved e.event

held_kept_in : (event : Event) (h : List BoxEvent) (start : Option Holder) → is_reserved event ≡ false → holder_by (cons_option (box_in event) h) start ≡ holder_by h start
held_kept_in (Board b) h start q = absurd (let r : true ≡ false = q in cc)
held_kept_in (Cell c) h start q = refl
held_kept_in (Box (Open leg)) h start q = absurd (let r : true ≡ false = q in cc)
held_kept_in (Box (Take half taken)) h start q = refl
held_kept_in (Box Close) h start q = absurd (let r : true ≡ false = q in cc)

held_kept_by : (e : Entry) (h : List Entry) (start : Option Holder) → holder_by (filter_map box_event h) start ≡ holder_by (filter_map box_event (filter keeps_event h)) start
    → (t : Bool) → keeps_event e ≡ t
    → holder_by (filter_map box_event (e ∷ h)) start ≡ holder_by (filter_map box_event (cond t (e ∷ filter keeps_event h) (filter keeps_event h))) start
held_kept_by e h start rest true q = held_more (box_event e) (filter_map box_event h) (filter_map box_event (filter keeps_event h)) start rest
held_kept_by e h start rest false q = held_kept_in e.event (filter_map box_event h) start q ∙ rest

held_kept : (h : List Entry) (start : Option Holder) → holder_by (filter_map box_event h) start ≡ holder_by (filter_map box_event (filter keeps_event h)) start
held_kept [] start = refl
held_kept (e ∷ h) start = held_kept_by e h start (held_kept h start) (keeps_event e) refl

-- Any number of steps.

module _ {T I O : Type 0} (it : I → EndLog InCall) (ic : I → ℕ) (ot : O → EndLog OutCall) (oc : O → ℕ) where
  -- one step
  pub shape_step : (a b : Part I O) (row : table.Entry Made T) (h : List Entry) (shape : CellShape) → Steps it ic ot oc a row.event row.outcome b
      → HasShape a (shape_by (filter_map cell_entry h) shape) → HasShape b (shape_by (filter_map cell_entry (entry_of row ∷ h)) shape)
  shape_step (part.Cell old) (part.Cell new) row h shape step was =
      shaped_step ot oc old new row.event row.event.moment row.event.event (filter_map cell_entry h) shape step was
  shape_step (part.Board old) (part.Board new) row h shape step was = absurd was
  shape_step (part.Pair old) (part.Pair new) row h shape step was = absurd was
  shape_step _ _ row h shape step was = absurd step

  shape_onto : (a b : Part I O) (rows : List (table.Entry Made T)) (h : List Entry) (shape : CellShape) → Leaves (Steps it ic ot oc) a rows b
      → HasShape a (shape_by (filter_map cell_entry h) shape) → HasShape b (shape_by (filter_map cell_entry (onto rows h)) shape)
  shape_onto a b [] h shape same was = subst (λ (x : Part I O). HasShape x (shape_by (filter_map cell_entry h) shape)) same was
  shape_onto a b (row ∷ rows) h shape l was = shape_onto l.0 b rows (entry_of row ∷ h) shape l.2 (shape_step a l.0 row h shape l.1 was)

  -- the main hand is given a cell whose shape is that of the start after the nested entries of its own list
  pub given_shape : (v : View (Part I O) Made T) (k n : ℕ) (x : Part I O) (shape : CellShape) → (g : Gives it ic ot oc k v n x) → v.main ≡ true → Numbered (list_of v.entries)
      → HasShape g.start shape → HasShape x (shape_by (cell_history (list_of v.entries) k n) shape)
  given_shape v k n x shape g main numbered was =
      let whole = filter_map cell_entry (onto g.history []) in
      let own = cell_history (list_of v.entries) k n in
      subst (λ (s : CellShape). HasShape x s)
      (sym (nested_shape whole shape) ∙ ap (λ (h : List CellEntry). shape_by h shape) (same_nested it ic ot oc k v n x g main numbered) ∙ nested_shape own shape)
      (shape_onto g.start x g.history [] shape g.leaves was)

  holder_step : (cells : ℕ) (a b : Part I O) (row : table.Entry Made T) (h : List Entry) (held : Option Holder) → Steps it ic ot oc a row.event row.outcome b
      → HasHolder cells a (holder_by (filter_map box_event h) held) → HasHolder cells b (holder_by (filter_map box_event (entry_of row ∷ h)) held)
  holder_step cells (part.Pair old) (part.Pair new) row h held step was =
      held_step it ic old new row.event row.event.event (filter_map box_event h) held cells step was
  holder_step cells (part.Board old) (part.Board new) row h held step was = absurd was
  holder_step cells (part.Cell old) (part.Cell new) row h held step was = absurd was
  holder_step cells _ _ row h held step was = absurd step

  holder_onto : (cells : ℕ) (a b : Part I O) (rows : List (table.Entry Made T)) (h : List Entry) (held : Option Holder) → Leaves (Steps it ic ot oc) a rows b
      → HasHolder cells a (holder_by (filter_map box_event h) held) → HasHolder cells b (holder_by (filter_map box_event (onto rows h)) held)
  holder_onto cells a b [] h held same was = subst (λ (x : Part I O). HasHolder cells x (holder_by (filter_map box_event h) held)) same was
  holder_onto cells a b (row ∷ rows) h held l was = holder_onto cells l.0 b rows (entry_of row ∷ h) held l.2 (holder_step cells a l.0 row h held l.1 was)

  -- and a box with the holder of the start after the openings and closings of its own list
  pub given_holder : (cells : ℕ) (v : View (Part I O) Made T) (k n : ℕ) (x : Part I O) (held : Option Holder) → (g : Gives it ic ot oc k v n x) → v.main ≡ true → Numbered (list_of v.entries)
      → HasHolder cells g.start held → HasHolder cells x (holder_by (box_history (list_of v.entries) k n) held)
  given_holder cells v k n x held g main numbered was =
      subst (λ (o : Option Holder). HasHolder cells x o)
      (held_kept (onto g.history []) held
      ∙ ap (λ (xs : List Entry). holder_by (filter_map box_event xs) held) (kept_history it ic ot oc k v n x g main numbered)
      ∙ sym (held_kept (history (list_of v.entries) k n) held))
      (holder_onto cells g.start x g.history [] held g.leaves was)
