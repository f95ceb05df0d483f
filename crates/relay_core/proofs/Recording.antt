-- The pairs that each step of the board records are those of the boxes that are shut in its turn, also while the list gets longer: so they
-- are those of the legs that it closes.
use Rattle.std.proofs.Common.{◌≡◌, ◌∙◌, sym, ap, subst, refl, ℕ, ◌<◌, ◌≤◌, ◌⊎◌, inl, inr, Bool, true, false, List, [], ◌∷◌, ◌++◌, Some, None, map, filter, append-nil, arith}
use Rattle.std.specs.Prelude.{◌&&◌, ◌==◌}
use Rattle.std.specs.List.{filter_map}
use Rattle.std.proofs.lemmas.List.{map-append}
use Rattle.relay_outside.specs.declared.settings.Config.{Config}
use Rattle.turn_table.specs.declared.machine.Entry as table
use Rattle.turn_table.specs.Histories as table_lists
use Rattle.histories.specs.Words.{In, here}
use Rattle.histories.proofs.Lists.{in_left, in_right}
use Rattle.port_pool.specs.Boxes.{Open, Take, Close}
use Rattle.call_board.specs.Acts.{BoardEntry}
use Rattle.call_board.specs.Futures.{closed_pairs}
use Rattle.relay_core.specs.FirstPlaces.{pair_at}
use Rattle.relay_core.specs.Entries.{Event, Board, Cell, Box, Entry, is_nested, history, board_at, board_entry, board_history}
use Rattle.relay_core.specs.Legal.{Orderly}
use Rattle.relay_core.specs.Records.{Made, entry_of, list_of}
use Rattle.relay_core.specs.ReturnedPairs.{is_boards, shuts_in, pairs_shut, AreReturned}
use Rattle.relay_core.specs.Steps.{board_made}
use Rattle.relay_core.specs.EndLogs.{is_closing}
use Rattle.relay_core.specs.Turns.{IsTurn, IsOfLane, with_turn}
use Rattle.relay_core.proofs.Own.{IsRow, rows_in, in_rows}
use Rattle.relay_core.proofs.Returning.{shut_closed}
use Rattle.relay_core.proofs.Stays.{GivesBack}
use Rattle.relay_core.proofs.Turns.{filter_append, filter_none, same_board, turn_elsewhere, turn_history, turn_keeps}

no_entry : (moment : ℕ) (v : Event) → is_boards v ≡ false → board_at moment v ≡ None
no_entry moment (Board b) h = absurd (let k : true ≡ false = h in cc)
no_entry moment (Cell c) h = refl
no_entry moment (Box b) h = refl

pub lane_no_boards : (v : Event) → IsOfLane v → is_boards v ≡ false
lane_no_boards (Board b) h = absurd h
lane_no_boards (Cell c) h = refl
lane_no_boards (Box b) h = refl

lane_no_closing : (v : Event) → IsOfLane v → is_closing v ≡ false
lane_no_closing (Board b) h = refl
lane_no_closing (Cell c) h = refl
lane_no_closing (Box (Open leg)) h = refl
lane_no_closing (Box (Take half taken)) h = refl
lane_no_closing (Box Close) h = absurd h

pub nested_no_boards : (v : Event) → is_nested v ≡ true → is_boards v ≡ false
nested_no_boards (Board b) h = absurd (let k : false ≡ true = h in cc)
nested_no_boards (Cell c) h = refl
nested_no_boards (Box b) h = refl

-- what an entry of the board closes after its history is what is shut in its turn, also with a later turn in the list
turn_shut : (config : Config) (l ns : List Entry) (b : Entry) → Orderly config l → IsTurn config l ns b → (f : Entry) (x : BoardEntry)
    → In f (with_turn l ns b) → board_entry f ≡ Some x → f.number ≤ b.number
    → closed_pairs (board_history l f.number) x ≡ pairs_shut config (with_turn l ns b) f.number
turn_shut config l ns b o t f x i q low =
    ap (λ (h : List BoardEntry). closed_pairs h x) (sym (turn_history config l ns b o t f.number low))
    ∙ sym (shut_closed config (with_turn l ns b) (turn_keeps config l ns b o t) f x i q)

row_part : {A : Type 0} {x : A} (xs ys : List A) → table_lists.IsMemberOf x (xs ++ ys) → table_lists.IsMemberOf x xs ⊎ table_lists.IsMemberOf x ys
row_part [] ys i = inr i
row_part (z ∷ xs) ys (table_lists.here q) = inl (table_lists.here q)
row_part (z ∷ xs) ys (table_lists.there i) =
    elim (row_part xs ys i) [ inl j ↦ inl (table_lists.there j) | inr j ↦ inr j ]

module _ {T : Type 0} where
  -- the board's history doesn't see rows that are none of the board's
  pub unseen_rows : (rows ns : List (table.Entry Made T)) → ((row : table.Entry Made T) → table_lists.IsMemberOf row ns → is_boards row.event.event ≡ false) → (n : ℕ)
      → board_history (list_of (rows ++ ns)) n ≡ board_history (list_of rows) n
  unseen_rows rows ns none n =
      ap (λ (l : List Entry). board_history l n) (map-append entry_of rows ns)
      ∙ same_board (list_of rows) (list_of ns) n
      (λ e i p m. let r = in_rows ns i in subst (λ (x : Entry). board_entry x ≡ None) r.is (no_entry r.row.event.moment r.row.event.event (none r.row r.is_in)))

  -- What the rows record, by the board's history.

  -- an event of the board in an orderly list is an entry that stands at the board's place
  pub gives_back : (config : Config) (rows : List (table.Entry Made T)) → Orderly config (list_of rows) → AreReturned config rows
      → (row : table.Entry Made T) → table_lists.IsMemberOf row rows
      → GivesBack row.event row.event.event (filter_map board_entry (history (list_of rows) row.place row.number))
  gives_back config rows o returned row i = by_event row.event.event refl
    where
      by_event : (v : Event) → row.event.event ≡ v → GivesBack row.event v (filter_map board_entry (history (list_of rows) row.place row.number))
      by_event (Board b) q =
          let e = board_made row.event b in
          let is : board_entry (entry_of row) ≡ Some e = ap (board_at row.event.moment) q in
          let at : row.place ≡ 0 = (o.board_fits (entry_of row) e (rows_in rows i) is).0 in
          ap (λ (place : ℕ). closed_pairs (filter_map board_entry (history (list_of rows) place row.number)) e) at
          ∙ sym (shut_closed config (list_of rows) o (entry_of row) e (rows_in rows i) is)
          ∙ sym (returned row i (ap is_boards q))
      by_event (Cell c) q = tt
      by_event (Box b) q = tt

  -- Lanes' rows shut no box.

  lanes_shut : (config : Config) (rows ns : List (table.Entry Made T)) → ((row : table.Entry Made T) → table_lists.IsMemberOf row ns → IsOfLane row.event.event) → (n : ℕ)
      → pairs_shut config (list_of (rows ++ ns)) n ≡ pairs_shut config (list_of rows) n
  lanes_shut config rows ns lanes n =
      ap (λ (l : List Entry). map (λ (e : Entry). pair_at config e.place) l)
      (ap (λ (l : List Entry). filter (shuts_in n) l) (map-append entry_of rows ns)
      ∙ filter_append (shuts_in n) (list_of rows) (list_of ns)
      ∙ ap (λ (l : List Entry). filter (shuts_in n) (list_of rows) ++ l) (filter_none (shuts_in n) (list_of ns) (λ e i. none e (in_rows ns i)))
      ∙ append-nil (filter (shuts_in n) (list_of rows)))
    where
      none : (e : Entry) → IsRow e ns → shuts_in n e ≡ false
      none e r =
          subst (λ (x : Entry). shuts_in n x ≡ false) r.is
          (ap (λ (t : Bool). t && (r.row.event.board == n)) (lane_no_closing r.row.event.event (lanes r.row r.is_in)))

  -- so they change nothing
  pub returned_behind : (config : Config) (rows ns : List (table.Entry Made T)) → ((row : table.Entry Made T) → table_lists.IsMemberOf row ns → IsOfLane row.event.event)
      → AreReturned config rows → AreReturned config (rows ++ ns)
  returned_behind config rows ns lanes returned row i t = by_part (row_part rows ns i)
    where
      by_part : table_lists.IsMemberOf row rows ⊎ table_lists.IsMemberOf row ns → row.event.returned ≡ pairs_shut config (list_of (rows ++ ns)) row.number
      by_part (inl j) = returned row j t ∙ sym (lanes_shut config rows ns lanes row.number)
      by_part (inr j) = absurd (let k : false ≡ true = sym (lane_no_boards row.event.event (lanes row j)) ∙ t in cc)

  -- A turn of the board.

  pub turn_list : (rows ns : List (table.Entry Made T)) (b : table.Entry Made T)
      → list_of ((rows ++ ns) ++ b ∷ []) ≡ with_turn (list_of rows) (list_of ns) (entry_of b)
  turn_list rows ns b =
      map-append entry_of (rows ++ ns) (b ∷ []) ∙ ap (λ (l : List Entry). l ++ entry_of b ∷ []) (map-append entry_of rows ns)

  -- the nested rows of a turn, and then the board's own, which records the pairs of the legs that its entry closes
  pub returned_turn : (config : Config) (rows ns : List (table.Entry Made T)) (b : table.Entry Made T) → Orderly config (list_of rows)
      → IsTurn config (list_of rows) (list_of ns) (entry_of b) → (e : BoardEntry) → board_entry (entry_of b) ≡ Some e
      → closed_pairs (board_history (list_of rows) b.number) e ≡ b.event.returned → AreReturned config rows → AreReturned config ((rows ++ ns) ++ b ∷ [])
  returned_turn config rows ns b o t e is gives returned row i boards =
      subst (λ (l : List Entry). row.event.returned ≡ pairs_shut config l row.number) (sym (turn_list rows ns b)) (by_part (row_part (rows ++ ns) (b ∷ []) i))
    where
      shut : (f : Entry) (x : BoardEntry) → In f (with_turn (list_of rows) (list_of ns) (entry_of b)) → board_entry f ≡ Some x → f.number ≤ b.number
          → closed_pairs (board_history (list_of rows) f.number) x ≡ pairs_shut config (with_turn (list_of rows) (list_of ns) (entry_of b)) f.number
      shut f x j q low = turn_shut config (list_of rows) (list_of ns) (entry_of b) o t f x j q low

      by_event : (v : Event) → row.event.event ≡ v → table_lists.IsMemberOf row rows
          → row.event.returned ≡ pairs_shut config (with_turn (list_of rows) (list_of ns) (entry_of b)) row.number
      by_event (Board x) q j =
          let f = board_made row.event x in
          let its : board_entry (entry_of row) ≡ Some f = ap (board_at row.event.moment) q in
          let at = (o.board_fits (entry_of row) f (rows_in rows j) its).0 in
          let low : row.number < b.number = t.at_front (entry_of row) (rows_in rows j) at in
          returned row j boards
          ∙ shut_closed config (list_of rows) o (entry_of row) f (rows_in rows j) its
          ∙ shut (entry_of row) f (in_left (list_of rows ++ list_of ns) (entry_of b ∷ []) (in_left (list_of rows) (list_of ns) (rows_in rows j))) its (omega (arith, low))
      by_event (Cell c) q j = absurd (let z : false ≡ true = sym (ap is_boards q) ∙ boards in cc)
      by_event (Box x) q j = absurd (let z : false ≡ true = sym (ap is_boards q) ∙ boards in cc)

      inner : table_lists.IsMemberOf row rows ⊎ table_lists.IsMemberOf row ns → row.event.returned ≡ pairs_shut config (with_turn (list_of rows) (list_of ns) (entry_of b)) row.number
      inner (inl j) = by_event row.event.event refl j
      inner (inr j) =
          let nested = (turn_elsewhere config (list_of rows) (list_of ns) (entry_of b) o t (entry_of row) (rows_in ns j)).0 in
          absurd (let z : false ≡ true = sym (nested_no_boards row.event.event nested) ∙ boards in cc)

      by_part : table_lists.IsMemberOf row (rows ++ ns) ⊎ table_lists.IsMemberOf row (b ∷ [])
          → row.event.returned ≡ pairs_shut config (with_turn (list_of rows) (list_of ns) (entry_of b)) row.number
      by_part (inl j) = inner (row_part rows ns j)
      by_part (inr (table_lists.here q)) =
          subst (λ (x : table.Entry Made T). x.event.returned ≡ pairs_shut config (with_turn (list_of rows) (list_of ns) (entry_of b)) x.number) (sym q)
          (sym gives ∙ shut (entry_of b) e (in_right (list_of rows ++ list_of ns) (entry_of b ∷ []) (here refl)) is (omega arith))
      by_part (inr (table_lists.there j)) = elim j [ ]
