-- What a longer list leaves of what the cells and the boxes keep.
use Rattle.std.proofs.Common.{◌≡◌, ◌∙◌, refl, sym, ap, subst, ℕ, ◌≤◌, Bool, true, false, cond, List, [], ◌∷◌, ◌++◌, map, Option, ◌==◌, append_assoc, arith}
use Rattle.std.proofs.lemmas.List.{map-append}
use Rattle.std.specs.List.{filter_map, cons_option}
use Rattle.relay_outside.specs.declared.settings.Config.{Config}
use Rattle.turn_table.specs.declared.machine.Entry as table
use Rattle.turn_table.specs.Histories as table_lists
use Rattle.turn_table.specs.declared.hands.Hand.{Hand}
use Rattle.turn_table.specs.Hands.{starts, entries}
use Rattle.histories.specs.Words.{In, here, there}
use Rattle.histories.proofs.Lists.{equal, equal_if}
use Rattle.port_pool.specs.declared.holder.Holder.{Holder}
use Rattle.port_pool.specs.Boxes.{BoxEvent, Open, Take, Close}
use Rattle.call_cell.specs.Cells.{CellEntry}
use Rattle.call_cell.specs.Shapes.{CellShape}
use Rattle.call_shapes.specs.Events.{shape_by, holder_by}
use Rattle.relay_core.specs.declared.part.Part.{Part}
use Rattle.relay_core.specs.Entries.{Event, Board, Cell, Box, Entry, history, front, cell_at, cell_entry, box_in, box_event, box_of}
use Rattle.relay_core.specs.Records.{Made, entry_of, list_of}
use Rattle.relay_core.specs.ReturnedPairs.{is_boards}
use Rattle.relay_core.specs.Scripts.{Owed, owed_by}
use Rattle.relay_core.specs.Turns.{IsAbove, Rising, IsOfLane, made_by, GainsNested}
use Rattle.relay_core.specs.WholeParts.{cell_shape_at, box_holder_at}
use Rattle.relay_core.specs.KeptAfter.{cell_shape_after, holder_after, cell_by_event, box_by_event, cells_after_one, holders_after_one, cells_after, holders_after}
use Rattle.relay_core.proofs.Turns.{nothing_more}
use Rattle.relay_core.proofs.Joins.{lane_entries}
use Rattle.relay_core.proofs.KeptHistories.{others_front, one_front, lanes_shape, lanes_holder}
use Rattle.relay_core.proofs.KeptScripts.{cells_same, holders_same}

-- One entry.

shape_with : (moment : ℕ) (event : Event) (h : List CellEntry) (shape : CellShape)
    → shape_by (cons_option (cell_at moment event) h) shape ≡ cell_by_event event (shape_by h shape)
shape_with moment (Board b) h shape = refl
shape_with moment (Cell c) h shape = refl
shape_with moment (Box b) h shape = refl

held_with : (event : Event) (h : List BoxEvent) (held : Option Holder) → holder_by (cons_option (box_in event) h) held ≡ box_by_event event (holder_by h held)
held_with (Board b) h held = refl
held_with (Cell c) h held = refl
held_with (Box (Open leg)) h held = refl
held_with (Box (Take half taken)) h held = refl
held_with (Box Close) h held = refl

-- another place's entry leaves the history of this one as it was
elsewhere : (l : List Entry) (e : Entry) (k : ℕ) → (e.place ≡ k → ⊥) → history (l ++ e ∷ []) k (front (l ++ e ∷ []) k) ≡ history l k (front l k)
elsewhere l e k apart = others_front l (e ∷ []) k (λ f i p. other f i p)
  where
    other : (f : Entry) → In f (e ∷ []) → f.place ≡ k → ⊥
    other f (here q) p = apart (sym (ap (λ (x : Entry). x.place) q) ∙ p)
    other f (there i) p = elim i [ ]

module _ {I O : Type 0} (config : Config) (parts : List (Part I O)) where
  shape_one_case : (l : List Entry) (e : Entry) (k : ℕ) → IsAbove l e.place e.number → (t : Bool) → (e.place == k) ≡ t
      → cell_shape_after config parts (l ++ e ∷ []) k ≡ cond t (cell_by_event e.event (cell_shape_after config parts l k)) (cell_shape_after config parts l k)
  shape_one_case l e k above true t =
      let at : e.place ≡ k = equal_if e.place k t in
      let grown : history (l ++ e ∷ []) k (front (l ++ e ∷ []) k) ≡ e ∷ history l k (front l k)
      = subst (λ (p : ℕ). history (l ++ e ∷ []) p (front (l ++ e ∷ []) p) ≡ e ∷ history l p (front l p)) at (one_front l e above) in
      ap (λ (h : List Entry). shape_by (filter_map cell_entry h) (cell_shape_at config parts k)) grown
      ∙ shape_with e.moment e.event (filter_map cell_entry (history l k (front l k))) (cell_shape_at config parts k)
  shape_one_case l e k above false t =
      ap (λ (h : List Entry). shape_by (filter_map cell_entry h) (cell_shape_at config parts k))
      (elsewhere l e k (λ at. let yes = equal e.place k at in let wrong : true ≡ false = sym yes ∙ t in absurd (let w = wrong in cc)))

  pub shape_one : (l : List Entry) (e : Entry) (k : ℕ) → IsAbove l e.place e.number
      → cell_shape_after config parts (l ++ e ∷ []) k ≡ cells_after_one (owed_by e) (cell_shape_after config parts l) k
  shape_one l e k above = shape_one_case l e k above (e.place == k) refl

  holder_one_case : (l : List Entry) (e : Entry) (pair : ℕ) → IsAbove l e.place e.number → (t : Bool) → (e.place == box_of config pair) ≡ t
      → holder_after config parts (l ++ e ∷ []) pair ≡ cond t (box_by_event e.event (holder_after config parts l pair)) (holder_after config parts l pair)
  holder_one_case l e pair above true t =
      let k = box_of config pair in
      let at : e.place ≡ k = equal_if e.place k t in
      let grown : history (l ++ e ∷ []) k (front (l ++ e ∷ []) k) ≡ e ∷ history l k (front l k)
      = subst (λ (p : ℕ). history (l ++ e ∷ []) p (front (l ++ e ∷ []) p) ≡ e ∷ history l p (front l p)) at (one_front l e above) in
      ap (λ (h : List Entry). holder_by (filter_map box_event h) (box_holder_at config parts pair)) grown
      ∙ held_with e.event (filter_map box_event (history l k (front l k))) (box_holder_at config parts pair)
  holder_one_case l e pair above false t =
      ap (λ (h : List Entry). holder_by (filter_map box_event h) (box_holder_at config parts pair))
      (elsewhere l e (box_of config pair)
      (λ at. let yes = equal e.place (box_of config pair) at in let wrong : true ≡ false = sym yes ∙ t in absurd (let w = wrong in cc)))

  pub holder_one : (l : List Entry) (e : Entry) (pair : ℕ) → IsAbove l e.place e.number
      → holder_after config parts (l ++ e ∷ []) pair ≡ holders_after_one config (owed_by e) (holder_after config parts l) pair
  holder_one l e pair above = holder_one_case l e pair above (e.place == box_of config pair) refl

  -- Several, each above all that its place had.

  pub gained_cells : (l ns : List Entry) (k : ℕ) → Rising l ns
      → cell_shape_after config parts (l ++ ns) k ≡ cells_after (map owed_by ns) (cell_shape_after config parts l) k
  gained_cells l [] k rising = ap (λ (xs : List Entry). cell_shape_after config parts xs k) (nothing_more l)
  gained_cells l (e ∷ ns) k rising =
      ap (λ (xs : List Entry). cell_shape_after config parts xs k) (sym (append_assoc l (e ∷ []) ns))
      ∙ gained_cells (l ++ e ∷ []) ns k rising.1
      ∙ cells_same (map owed_by ns) (cell_shape_after config parts (l ++ e ∷ [])) (cells_after_one (owed_by e) (cell_shape_after config parts l)) k
      (λ place. shape_one l e place rising.0)

  pub gained_holders : (l ns : List Entry) (pair : ℕ) → Rising l ns
      → holder_after config parts (l ++ ns) pair ≡ holders_after config (map owed_by ns) (holder_after config parts l) pair
  gained_holders l [] pair rising = ap (λ (xs : List Entry). holder_after config parts xs pair) (nothing_more l)
  gained_holders l (e ∷ ns) pair rising =
      ap (λ (xs : List Entry). holder_after config parts xs pair) (sym (append_assoc l (e ∷ []) ns))
      ∙ gained_holders (l ++ e ∷ []) ns pair rising.1
      ∙ holders_same config (map owed_by ns) (holder_after config parts (l ++ e ∷ [])) (holders_after_one config (owed_by e) (holder_after config parts l)) pair
      (λ p. holder_one l e p rising.0)

  -- Entries at other places.

  pub others_cell : (l ns : List Entry) (k : ℕ) → ((e : Entry) → In e ns → e.place ≡ k → ⊥)
      → cell_shape_after config parts (l ++ ns) k ≡ cell_shape_after config parts l k
  others_cell l ns k apart =
      ap (λ (h : List Entry). shape_by (filter_map cell_entry h) (cell_shape_at config parts k)) (others_front l ns k apart)

  pub others_holder : (l ns : List Entry) (pair : ℕ) → ((e : Entry) → In e ns → e.place ≡ box_of config pair → ⊥)
      → holder_after config parts (l ++ ns) pair ≡ holder_after config parts l pair
  others_holder l ns pair apart =
      ap (λ (h : List Entry). holder_by (filter_map box_event h) (box_holder_at config parts pair)) (others_front l ns (box_of config pair) apart)

  -- Takes and relays, at any places and numbers.

  pub lanes_cell : (l ns : List Entry) (k : ℕ) → ((e : Entry) → In e ns → IsOfLane e.event)
      → cell_shape_after config parts (l ++ ns) k ≡ cell_shape_after config parts l k
  lanes_cell l ns k lanes = lanes_shape l ns lanes k (cell_shape_at config parts k)

  pub lanes_box : (l ns : List Entry) (pair : ℕ) → ((e : Entry) → In e ns → IsOfLane e.event)
      → holder_after config parts (l ++ ns) pair ≡ holder_after config parts l pair
  lanes_box l ns pair lanes = lanes_holder l ns lanes (box_of config pair) (box_holder_at config parts pair)

-- Of rows.

module _ {I O T : Type 0} (config : Config) (parts : List (Part I O)) (rows more : List (table.Entry Made T)) where
  both : list_of (rows ++ more) ≡ list_of rows ++ list_of more
  both = map-append entry_of rows more

  pub lanes_keep_cells : ((row : table.Entry Made T) → table_lists.IsMemberOf row more → IsOfLane row.event.event) → (k : ℕ)
      → cell_shape_after config parts (list_of (rows ++ more)) k ≡ cell_shape_after config parts (list_of rows) k
  lanes_keep_cells lanes k =
      ap (λ (l : List Entry). cell_shape_after config parts l k) both
      ∙ lanes_cell config parts (list_of rows) (list_of more) k (lane_entries more lanes)

  pub lanes_keep_holders : ((row : table.Entry Made T) → table_lists.IsMemberOf row more → IsOfLane row.event.event) → (pair : ℕ)
      → holder_after config parts (list_of (rows ++ more)) pair ≡ holder_after config parts (list_of rows) pair
  lanes_keep_holders lanes pair =
      ap (λ (l : List Entry). holder_after config parts l pair) both
      ∙ lanes_box config parts (list_of rows) (list_of more) pair (lane_entries more lanes)

-- a row at the board's place leaves the cells and the boxes as they were
module _ {I O T : Type 0} (config : Config) (parts : List (Part I O)) (rows : List (table.Entry Made T)) (row : table.Entry Made T) (at : row.place ≡ 0) where
  not_there : (k : ℕ) → 1 ≤ k → (e : Entry) → In e (list_of (row ∷ [])) → e.place ≡ k → ⊥
  not_there k low e (here q) p = let zero : e.place ≡ 0 = ap (λ (x : Entry). x.place) q ∙ at in omega (arith, zero, p, low)
  not_there k low e (there i) p = elim i [ ]

  pub board_keeps_cells : (k : ℕ) → 1 ≤ k → cell_shape_after config parts (list_of (rows ++ row ∷ [])) k ≡ cell_shape_after config parts (list_of rows) k
  board_keeps_cells k low =
      ap (λ (l : List Entry). cell_shape_after config parts l k) (map-append entry_of rows (row ∷ []))
      ∙ others_cell config parts (list_of rows) (list_of (row ∷ [])) k (not_there k low)

  pub board_keeps_holders : (pair : ℕ) → holder_after config parts (list_of (rows ++ row ∷ [])) pair ≡ holder_after config parts (list_of rows) pair
  board_keeps_holders pair =
      ap (λ (l : List Entry). holder_after config parts l pair) (map-append entry_of rows (row ∷ []))
      ∙ others_holder config parts (list_of rows) (list_of (row ∷ [])) pair (not_there (box_of config pair) (omega arith))

-- so does an event of the board above all that its place had, whatever a cell at the board's place would keep
module _ {I O T : Type 0} (config : Config) (parts : List (Part I O)) (rows : List (table.Entry Made T)) (row : table.Entry Made T) where
  boards_keep_shape : (event : Event) (shape : CellShape) (t : Bool) → is_boards event ≡ true → cond t (cell_by_event event shape) shape ≡ shape
  boards_keep_shape (Board b) shape true q = refl
  boards_keep_shape (Board b) shape false q = refl
  boards_keep_shape (Cell c) shape t q = absurd (let wrong : false ≡ true = q in cc)
  boards_keep_shape (Box b) shape t q = absurd (let wrong : false ≡ true = q in cc)

  pub board_event_keeps_cells : is_boards row.event.event ≡ true → IsAbove (list_of rows) row.place row.number → (k : ℕ)
      → cell_shape_after config parts (list_of (rows ++ row ∷ [])) k ≡ cell_shape_after config parts (list_of rows) k
  board_event_keeps_cells boards above k =
      ap (λ (l : List Entry). cell_shape_after config parts l k) (map-append entry_of rows (row ∷ []))
      ∙ shape_one config parts (list_of rows) (entry_of row) k above
      ∙ boards_keep_shape row.event.event (cell_shape_after config parts (list_of rows) k) (row.place == k) boards

-- Of hands.

module _ {M I O T : Type 0} {g : _} (config : Config) (number moment : ℕ) (events : List Owed) (old new : Hand M (Part I O) Made T g) where
  made_more : (gains : GainsNested number moment events old new) → made_by new ≡ made_by old ++ list_of gains.rows
  made_more gains = ap (λ (rows : List (table.Entry Made T)). list_of rows) gains.list_is ∙ map-append entry_of (entries old) gains.rows

  pub hand_cells : starts new ≡ starts old → GainsNested number moment events old new → (k : ℕ)
      → cell_shape_after config (starts new) (made_by new) k ≡ cells_after events (cell_shape_after config (starts old) (made_by old)) k
  hand_cells same gains k =
      ap (λ (parts : List (Part I O)). cell_shape_after config parts (made_by new) k) same
      ∙ ap (λ (l : List Entry). cell_shape_after config (starts old) l k) (made_more gains)
      ∙ gained_cells config (starts old) (made_by old) (list_of gains.rows) k gains.gained.rising
      ∙ ap (λ (ws : List Owed). cells_after ws (cell_shape_after config (starts old) (made_by old)) k) gains.gained.owes

  pub hand_holders : starts new ≡ starts old → GainsNested number moment events old new → (pair : ℕ)
      → holder_after config (starts new) (made_by new) pair ≡ holders_after config events (holder_after config (starts old) (made_by old)) pair
  hand_holders same gains pair =
      ap (λ (parts : List (Part I O)). holder_after config parts (made_by new) pair) same
      ∙ ap (λ (l : List Entry). holder_after config (starts old) l pair) (made_more gains)
      ∙ gained_holders config (starts old) (made_by old) (list_of gains.rows) pair gains.gained.rising
      ∙ ap (λ (ws : List Owed). holders_after config ws (holder_after config (starts old) (made_by old)) pair) gains.gained.owes
