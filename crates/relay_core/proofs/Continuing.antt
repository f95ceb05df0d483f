-- What the close of the table tells of the rows of a hand whose places began with what an earlier list had left.
use Rattle.std.proofs.Common.{◌≡◌, ◌∙◌, sym, ap, subst, refl, ℕ, suc, ◌+◌, ◌-◌, ◌<◌, ◌≤◌, ◌⊎◌, inl, inr, List, [], ◌∷◌, ◌++◌, true, Option, Some, None, map, length, filter, ◌==◌, arith, slice_get, take}
use Rattle.std.specs.List.{filter_map}
use Rattle.std.specs.Option.{option_map}
use Rattle.std.proofs.lemmas.List.{map-append, take-map}
use Rattle.std.proofs.lemmas.Option.{slice_get_within, slice_get-map}
use Rattle.relay_outside.specs.declared.ports.InCall.{InCall}
use Rattle.relay_outside.specs.declared.ports.OutCall.{OutCall}
use Rattle.relay_outside.specs.declared.settings.Config.{Config}
use Rattle.relay_outside.specs.DeviceLogs.{EndLog}
use Rattle.turn_table.specs.declared.machine.Entry as table
use Rattle.turn_table.specs.Histories.{Leaves}
use Rattle.turn_table.specs.Histories as table_lists
use Rattle.histories.specs.Words.{In}
use Rattle.histories.proofs.Lists.{in_append, in_left, in_right, mapped, maps, filtered, equal_if}
use Rattle.port_pool.specs.declared.boxes.PairBox.{PairBox}
use Rattle.port_pool.specs.Boxes.{BoxEvent, holder}
use Rattle.port_pool.specs.PairBoxes.{BoxFor}
use Rattle.call_cell.specs.declared.cell.Cell as cell
use Rattle.call_cell.specs.declared.outcome.Outcome.{Outcome}
use Rattle.call_cell.specs.Cells.{CellEvent, CellEntry, Prepare, Commit, Relay, Expire, Read, End, Relayed}
use Rattle.call_cell.specs.Deeds as deeds
use Rattle.call_cell.specs.CellHistories.{CellFor}
use Rattle.call_board.specs.declared.board.Board as board
use Rattle.call_board.specs.Acts.{BoardEntry}
use Rattle.call_board.specs.Boards.{BoardFor}
use Rattle.relay_core.specs.declared.part.Part.{Part}
use Rattle.relay_core.specs.declared.part.Part.TheVariants as part
use Rattle.relay_core.specs.Entries.{Event, Board, Cell, Box, Entry, history, board_entry, cell_entry, box_event, cell_history, box_history, front}
use Rattle.relay_core.specs.Legal.{is_handed_boards, Orderly, Legal}
use Rattle.relay_core.specs.Records.{Made, entry_of, list_of, as_logged, logged_event, logged_relay}
use Rattle.relay_core.specs.ReturnedPairs.{AreReturned}
use Rattle.relay_core.specs.EndLogs.{is_closing}
use Rattle.relay_core.specs.Steps.{CellSteps, BoardSteps, BoxSteps}
use Rattle.relay_core.specs.PlaceHistories.{BringsNewKeys, Stands, IsBoardPart, IsCellPart, IsBoxPart}
use Rattle.relay_core.specs.NestedMoments.{IsHanded}
use Rattle.relay_core.specs.Turns.{IsAbove, IsReceiving}
use Rattle.relay_core.specs.Joins.{IsAtPlace, TakesOwnPairs}
use Rattle.relay_core.specs.Continued.{later_event, later, continued, IsLeftAt, AreLeftBy, IsSoundAfter}
use Rattle.relay_core.proofs.Histories.{in_history}
use Rattle.relay_core.proofs.Boxes.{below_front}
use Rattle.relay_core.proofs.Generations.{holder_leased}
use Rattle.relay_core.proofs.KeysOnce.{keys_once}
use Rattle.relay_core.proofs.Counts as counts
use Rattle.relay_core.proofs.Own.{IsRow, in_rows}
use Rattle.relay_core.proofs.Stays.{Steps, onto, GivesBack, GiveBackOnto, give_back_from, give_back_taken, stands_onto, board_stays, cell_stays, box_stays}
use Rattle.relay_core.proofs.Refilling.{orderly_mapped, history_mapped, picked_mapped, same_map}
use Rattle.relay_core.proofs.Filling.{fill_history, fill_event, filled, filled_in, filled_keeps, filled_history, cell_fills}
use Rattle.relay_core.proofs.Filled as right
use Rattle.relay_core.proofs.Filled.{mapped_twice, legal_filled}
use Rattle.relay_core.proofs.Numbers.{greatest_below}
use Rattle.relay_core.proofs.Placing.{step_at, kind_stays, IsPlaced, ArePlaced, IsRight, step_placed, step_right}
use Rattle.relay_core.proofs.Closed.{IsWhole, AreWhole, InRange, AreClosed, whole_of, place_of, closed_numbered, own_past, own_whole, next_own, row_counted, in_range, taken_fits}
use Rattle.relay_core.proofs.Logged.{logged_by, logged_keeps}
use Rattle.relay_core.proofs.Later.{later_by, later_stands, joined, base, low_number, history_late, stands_early, stands_late, receiving_both}
use Rattle.relay_core.proofs.LaterReturns.{closing_low, gives_later}
use Rattle.relay_core.proofs.LaterSteps.{later_made, later_row, step_later, leaves_later, onto_later}
use Rattle.relay_core.proofs.Earlier.{left_stands, early_placed, early_filled, early_made}

-- What is recorded of a step is all that the table has of it.

cell_told : {O : Type 0} (ot : O → EndLog OutCall) (oc : O → ℕ) (old new : cell.Cell O) (made : Made) (v : Event) → CellSteps ot oc old made v new → logged_event v ≡ v
cell_told ot oc old new made (Cell (Prepare call legs keys dropped)) step = refl
cell_told ot oc old new made (Cell (Commit signal)) step = refl
cell_told ot oc old new made (Cell (Relay x)) step = ap (λ (r : Relayed). Cell (Relay r)) (sym step.is_told)
cell_told ot oc old new made (Cell (Expire due)) step = refl
cell_told ot oc old new made (Cell (Read reports)) step = refl
cell_told ot oc old new made (Cell End) step = refl
cell_told ot oc old new made (Board b) step = absurd step
cell_told ot oc old new made (Box b) step = absurd step

board_told : (old new : board.Board) (made : Made) (v : Event) → BoardSteps old made v new → logged_event v ≡ v
board_told old new made (Board b) step = refl
board_told old new made (Cell c) step = absurd step
board_told old new made (Box b) step = absurd step

box_told : {I : Type 0} (it : I → EndLog InCall) (ic : I → ℕ) (old new : PairBox I) (made : Made) (v : Event)
    → BoxSteps it ic old made v new → logged_event v ≡ v
box_told it ic old new made (Box b) step = refl
box_told it ic old new made (Board b) step = absurd step
box_told it ic old new made (Cell c) step = absurd step

step_told : {T I O : Type 0} (it : I → EndLog InCall) (ic : I → ℕ) (ot : O → EndLog OutCall) (oc : O → ℕ) (old new : Part I O) (made : Made) (o : T)
    → Steps it ic ot oc old made o new → logged_event made.event ≡ made.event
step_told it ic ot oc (part.Board old) (part.Board new) made o step = board_told old new made made.event step
step_told it ic ot oc (part.Cell old) (part.Cell new) made o step = cell_told ot oc old new made made.event step
step_told it ic ot oc (part.Pair old) (part.Pair new) made o step = box_told it ic old new made made.event step
step_told it ic ot oc _ _ made o step = absurd step

-- it is counted on as it is recorded
later_told : (config : Config) (before : List Entry) (v : Event) → logged_event v ≡ v → logged_event (later_event config before v) ≡ later_event config before v
later_told config before v told = both v ∙ ap (later_event config before) told
  where
    both : (v : Event) → logged_event (later_event config before v) ≡ later_event config before (logged_event v)
    both (Board b) = refl
    both (Cell (Prepare call legs keys dropped)) = refl
    both (Cell (Commit signal)) = refl
    both (Cell (Relay x)) = refl
    both (Cell (Expire due)) = refl
    both (Cell (Read reports)) = refl
    both (Cell End) = refl
    both (Box b) = refl

-- What a relay did, filled in, is the same whichever number its take has.
fill_later : (config : Config) (before : List Entry) (h : List CellEntry) (v : Event)
    → fill_event config h (later_event config before v) ≡ later_event config before (fill_event config h v)
unfolding deeds.deed
fill_later config before h (Board b) = refl
fill_later config before h (Cell (Prepare call legs keys dropped)) = refl
fill_later config before h (Cell (Commit signal)) = refl
fill_later config before h (Cell (Relay x)) = refl
fill_later config before h (Cell (Expire due)) = refl
fill_later config before h (Cell (Read reports)) = refl
fill_later config before h (Cell End) = refl
fill_later config before h (Box b) = refl

abbrev outcome_in : CellEvent → Outcome → Outcome
outcome_in (Relay x) other = x.deed.outcome
outcome_in _ other = other

filled_told : (config : Config) (before : List Entry) (past : List Entry) (moment : ℕ) (v : Event) → logged_event v ≡ v
    → right.FitsTold config past moment (later_event config before v)
    → logged_event (fill_event config (fill_history config (filter_map cell_entry past)) v) ≡ v
unfolding deeds.deed
filled_told config before past moment (Board b) told fits = refl
filled_told config before past moment (Cell (Prepare call legs keys dropped)) told fits = refl
filled_told config before past moment (Cell (Commit signal)) told fits = refl
filled_told config before past moment (Cell (Relay x)) told fits =
    ap (λ (o : Outcome). Cell (Relay (logged_relay x.packet o))) (ap (λ (c : CellEvent). outcome_in c x.deed.outcome) fits.1) ∙ told
filled_told config before past moment (Cell (Expire due)) told fits = refl
filled_told config before past moment (Cell (Read reports)) told fits = refl
filled_told config before past moment (Cell End) told fits = refl
filled_told config before past moment (Box b) told fits = refl

high_or_low : (a b : ℕ) → (a ≤ b) ⊎ (b < a)
high_or_low a b = grind arith

module _ {T I O : Type 0} (it : I → EndLog InCall) (ic : I → ℕ) (ot : O → EndLog OutCall) (oc : O → ℕ)
    (starts : List (Part I O)) (rows : List (table.Entry Made T)) (range : InRange starts rows) (whole : AreWhole it ic ot oc starts rows)
    (config : Config) (before : List Entry) (left : AreLeftBy config before starts) (orderly : Orderly config (continued config before (list_of rows)))
    (returned : AreReturned config rows) where
  -- the recorded lists, one behind the other
  abbrev list : List Entry
  list = joined config before (list_of rows)

  start_of : (k : ℕ) (a : Part I O) → slice_get starts k ≡ Some a → IsAtPlace config k a × Stands config a (base before k)
  start_of k a q =
      let s = left.are_left k a q in
      (s.0, left_stands config before left.legal k a s.0 s.1)

  row_told : (row : table.Entry Made T) → table_lists.IsMemberOf row rows → logged_event row.event.event ≡ row.event.event
  row_told row i =
      let p = place_of it ic ot oc starts rows range whole row i in
      let s = step_at (Steps it ic ot oc) p.start p.history_of.last p.history_of.past p.history_of.leaves row.number row p.at in
      step_told it ic ot oc s.old s.new row.event row.outcome s.step

  entry_told : (e : Entry) → In e (list_of rows) → logged_event e.event ≡ e.event
  entry_told e i = let r = in_rows rows i in subst (λ (x : Entry). logged_event x.event ≡ x.event) r.is (row_told r.row r.is_in)

  list_is : map as_logged (continued config before (list_of rows)) ≡ list
  list_is =
      map-append as_logged before (map (later config before) (list_of rows))
      ∙ ap (λ (xs : List Entry). map as_logged before ++ xs)
      (mapped_twice as_logged (later config before) (list_of rows)
      ∙ same_map (λ (e : Entry). as_logged (later config before e)) (later config before) (list_of rows) (λ e i.
      ap (λ (v : Event). record { place = e.place; number = e.number + front before e.place; moment = e.moment; board = e.board + front before 0; event = v })
      (later_told config before e.event (entry_told e i))))

  orderly_list : Orderly config list
  orderly_list = subst (Orderly config) list_is (orderly_mapped as_logged logged_keeps config (continued config before (list_of rows)) orderly)

  -- The history of a place, up to a number, is what the earlier list left there and the rows of the place.
  past_at : (k : ℕ) (a : Part I O) → (w : IsWhole it ic ot oc rows k a) → (i n : ℕ) → i ≤ length w.past → n ≡ i + front before k
      → onto (map (later_row it ic ot oc config before) (take i w.past)) (base before k) ≡ history list k n
  past_at k a w i n within q =
      onto_later it ic ot oc config before (take i w.past) [] (base before k)
      ∙ ap (λ (h : List Entry). map (later config before) h ++ base before k) (own_past it ic ot oc starts rows range whole k a w i within)
      ∙ sym (history_late config before (list_of rows) k n i q)

  -- What each step of the board gives back.

  closing_below : (e : Entry) → In e (map as_logged before) → is_closing e.event ≡ true → e.board < front before 0
  closing_below e i t =
      let m = mapped as_logged before i in
      let closes : is_closing m.from.event ≡ true
      = sym (logged_by is_closing (λ x y. refl) m.from.event) ∙ ap (λ (x : Entry). is_closing x.event) m.makes ∙ t in
      subst (λ (x : Entry). x.board < front before 0) m.makes (closing_low config before left.legal m.from m.is_in closes)

  gives : (row : table.Entry Made T) → table_lists.IsMemberOf row rows
      → GivesBack (later_made config before row.event) (later_event config before row.event.event)
      (filter_map board_entry (history list row.place (row.number + front before row.place)))
  gives row i = gives_later config before (map as_logged before) rows closing_below orderly_list returned row i

  give_back : (k : ℕ) (a : Part I O) → (w : IsWhole it ic ot oc rows k a) → GiveBackOnto (map (later_row it ic ot oc config before) w.past) (base before k)
  give_back k a w =
      give_back_from (map (later_row it ic ot oc config before) w.past) (base before k) (λ i row at.
      by_row i row (slice_get w.past i) refl (sym (slice_get-map (later_row it ic ot oc config before) w.past i) ∙ at))
    where
      by_row : (i : ℕ) (row : table.Entry Made T) (found : Option (table.Entry Made T)) → slice_get w.past i ≡ found
          → option_map (later_row it ic ot oc config before) found ≡ Some row
          → GivesBack row.event row.event.event (filter_map board_entry (onto (take i (map (later_row it ic ot oc config before) w.past)) (base before k)))
      by_row i row None q is = absurd (let c = is in cc)
      by_row i row (Some r) q is =
          let made : Some (later_row it ic ot oc config before r) ≡ Some row = is in
          let same : later_row it ic ot oc config before r ≡ row = cc in
          let low = slice_get_within w.past i r q in
          let named = w.is.named i r q in
          let there : onto (take i (map (later_row it ic ot oc config before) w.past)) (base before k) ≡ history list r.place (r.number + front before r.place)
          = ap (λ (xs : List (table.Entry Made T)). onto xs (base before k)) (take-map (later_row it ic ot oc config before) i w.past)
          ∙ past_at k a w i (i + front before k) (omega (arith, low)) refl
          ∙ ap (λ (m : ℕ). history list k (m + front before k)) (sym named.1)
          ∙ ap (λ (p : ℕ). history list p (r.number + front before p)) (sym named.0) in
          subst (λ (x : table.Entry Made T). GivesBack x.event x.event.event (filter_map board_entry (onto (take i (map (later_row it ic ot oc config before) w.past)) (base before k)))) same
          (subst (λ (h : List Entry). GivesBack (later_made config before r.event) (later_event config before r.event.event) (filter_map board_entry h)) (sym there)
          (gives r (w.is.all i r q)))

  give_back_upto : (k : ℕ) (a : Part I O) → (w : IsWhole it ic ot oc rows k a) → (n : ℕ)
      → GiveBackOnto (map (later_row it ic ot oc config before) (take n w.past)) (base before k)
  give_back_upto k a w n =
      subst (λ (xs : List (table.Entry Made T)). GiveBackOnto xs (base before k)) (take-map (later_row it ic ot oc config before) n w.past)
      (give_back_taken n (map (later_row it ic ot oc config before) w.past) (base before k) (give_back k a w))

  -- What a place holds after some of its rows.
  stands_at : (k : ℕ) (a b : Part I O) → slice_get starts k ≡ Some a → (w : IsWhole it ic ot oc rows k a) → (i n : ℕ) → i ≤ length w.past → n ≡ i + front before k
      → Leaves (Steps it ic ot oc) a (take i w.past) b → Stands config b (history list k n)
  stands_at k a b q w i n within m leaves =
      subst (λ (h : List Entry). Stands config b h) (past_at k a w i n within m)
      (stands_onto it ic ot oc config a b (map (later_row it ic ot oc config before) (take i w.past)) (base before k)
      (leaves_later it ic ot oc config before a b (take i w.past) leaves)
      (λ is. subst (λ (h : List Entry). BringsNewKeys (filter_map cell_entry h)) (sym (past_at k a w i n within m)) (keys_once config list orderly_list k n))
      (λ is. give_back_upto k a w i)
      (start_of k a q).1)

  row_placed : (row : table.Entry Made T) → table_lists.IsMemberOf row rows → IsPlaced config row.place row.event.moment row.event.event
  row_placed row i =
      let p = place_of it ic ot oc starts rows range whole row i in
      let w = p.history_of in
      let s = step_at (Steps it ic ot oc) p.start w.last w.past w.leaves row.number row p.at in
      step_placed it ic ot oc config row.place s.old s.new row.event row.outcome s.step
      (kind_stays it ic ot oc config row.place p.start s.old (take row.number w.past) s.before (start_of row.place p.start p.starts_so).0)

  past_placed : (k n : ℕ) → ArePlaced config k (history list k n)
  past_placed k n e j =
      let h = in_history list k n j in
      subst (λ (place : ℕ). IsPlaced config place e.moment e.event) h.at (by_part e (in_append (map as_logged before) (map (later config before) (list_of rows)) h.is_in))
    where
      by_part : (e : Entry) → In e (map as_logged before) ⊎ In e (map (later config before) (list_of rows)) → IsPlaced config e.place e.moment e.event
      by_part e (inl i) =
          let m = mapped as_logged before i in
          subst (λ (x : Entry). IsPlaced config x.place x.moment x.event) m.makes (early_placed config before left.legal m.from m.is_in)
      by_part e (inr i) =
          let m = mapped (later config before) (list_of rows) i in
          let r = in_rows rows m.is_in in
          let placed = row_placed r.row r.is_in in
          subst (λ (x : Entry). IsPlaced config x.place x.moment x.event) (ap (later config before) r.is ∙ m.makes)
          (later_stands config before r.row.place r.row.event.event placed.0, placed.1)

  -- each row is what its place's history demands, at the moment that it was handed
  row_right : (row : table.Entry Made T) → table_lists.IsMemberOf row rows
      → IsRight config (history list row.place (row.number + front before row.place)) (later_made config before row.event) (later_event config before row.event.event)
  row_right row i =
      let p = place_of it ic ot oc starts rows range whole row i in
      let w = p.history_of in
      let within = p.within in
      let k = row.place in
      let n = row.number + front before k in
      let s = step_at (Steps it ic ot oc) p.start w.last w.past w.leaves row.number row p.at in
      let old = stands_at k p.start s.old p.starts_so w row.number n (omega (arith, within)) refl s.before in
      let next : history list k (suc n) ≡ later config before (entry_of row) ∷ history list k n
      = sym (past_at k p.start w (suc row.number) (suc n) (omega (arith, within)) (omega arith))
      ∙ onto_later it ic ot oc config before (take (suc row.number) w.past) [] (base before k)
      ∙ ap (λ (h : List Entry). map (later config before) h ++ base before k) (next_own it ic ot oc starts rows range whole row p)
      ∙ ap (λ (h : List Entry). later config before (entry_of row) ∷ h) (sym (history_late config before (list_of rows) k n row.number refl)) in
      let new = subst (λ (h : List Entry). Stands config s.new h) next (stands_at k p.start s.new p.starts_so w (suc row.number) (suc n) (omega (arith, within)) (omega arith) s.after) in
      let keys : BringsNewKeys (filter_map cell_entry (later config before (entry_of row) ∷ history list k n))
      = subst (λ (h : List Entry). BringsNewKeys (filter_map cell_entry h)) next (keys_once config list orderly_list k (suc n)) in
      step_right it ic ot oc config k s.old s.new (later_row it ic ot oc config before row) (history list k n) (λ is. keys)
      (gives row i) (step_later it ic ot oc config before s.old s.new row.event row.outcome s.step) old new (past_placed k n)
      (kind_stays it ic ot oc config k p.start s.old (take row.number w.past) s.before (start_of k p.start p.starts_so).0)

  late_counted : (row : table.Entry Made T) → table_lists.IsMemberOf row rows → (i : ℕ) → i < row.number + front before row.place → counts.Stands list row.place i
  late_counted row r i low = by_part (high_or_low (front before row.place) i)
    where
      by_part : (front before row.place ≤ i) ⊎ (i < front before row.place) → counts.Stands list row.place i
      by_part (inr early) = stands_early config before (list_of rows) left.legal row.place i early
      by_part (inl late) =
          let back : i - front before row.place + front before row.place ≡ i = omega (arith, late) in
          subst (λ (m : ℕ). counts.Stands list row.place m) back
          (stands_late config before (list_of rows) row.place (i - front before row.place)
          (row_counted it ic ot oc starts rows range whole row r (i - front before row.place) (omega (arith, late, low))))

  late_made : IsHanded rows → (row : table.Entry Made T) → table_lists.IsMemberOf row rows → right.Made config list (later config before (entry_of row))
  late_made handed row i =
      let r = row_right row i in
      record {
        handed = row.event.handed;
        right = record {
          placed = later_stands config before row.place row.event.event (row_placed row i).0;
          counted = late_counted row i;
          fits = r.0;
          timed = r.1;
          of_board = λ t b j p q. by_part t b p q (in_append (map as_logged before) (map (later config before) (list_of rows)) j);
        };
      }
    where
      by_part : is_handed_boards (later_event config before row.event.event) ≡ true → (b : Entry) → b.place ≡ 0 → b.number ≡ row.event.board + front before 0
          → In b (map as_logged before) ⊎ In b (map (later config before) (list_of rows)) → row.event.handed ≡ b.moment
      by_part t b p q (inl j) =
          let low = low_number config before (list_of rows) b j in
          let place = ap (λ (k : ℕ). front before k) p in
          absurd (omega (arith, low, place, q))
      by_part t b p q (inr j) =
          let m = mapped (later config before) (list_of rows) j in
          let x = in_rows rows m.is_in in
          let place : m.from.place ≡ 0 = ap (λ (y : Entry). y.place) m.makes ∙ p in
          let fronts = ap (λ (k : ℕ). front before k) place in
          let number = ap (λ (y : Entry). y.number) m.makes in
          let same : m.from.number ≡ row.event.board = omega (arith, fronts, number, q) in
          handed row i (sym (later_by is_handed_boards (λ x y. refl) config before row.event.event) ∙ t) x.row x.is_in
          (ap (λ (y : Entry). y.place) x.is ∙ place) (ap (λ (y : Entry). y.number) x.is ∙ same)
          ∙ ap (λ (y : Entry). y.moment) x.is ∙ ap (λ (y : Entry). y.moment) m.makes

  made : IsHanded rows → (e : Entry) → In e list → right.Made config list e
  made handed e i = by_part (in_append (map as_logged before) (map (later config before) (list_of rows)) i)
    where
      by_part : In e (map as_logged before) ⊎ In e (map (later config before) (list_of rows)) → right.Made config list e
      by_part (inl j) =
          let m = mapped as_logged before j in
          subst (λ (x : Entry). right.Made config list x) m.makes (early_made config before (list_of rows) left.legal m.from m.is_in)
      by_part (inr j) =
          let m = mapped (later config before) (list_of rows) j in
          let r = in_rows rows m.is_in in
          subst (λ (x : Entry). right.Made config list x) (ap (later config before) r.is ∙ m.makes) (late_made handed r.row r.is_in)

  -- each take is of the box's own pair
  late_takes : TakesOwnPairs config (list_of rows)
  late_takes e half leg source bytes i q =
      let r = in_rows rows i in
      let k = r.row.place in
      let n = r.row.number + front before k in
      let held : holder (box_history list k n) ≡ Some leg
      = taken_fits config (history list k n) r.row.event.moment (later_event config before r.row.event.event) half leg source bytes
      (ap (λ (x : Entry). later_event config before x.event) r.is ∙ ap (later_event config before) q) (row_right r.row r.is_in).0 in
      sym (ap (λ (x : Entry). x.place) r.is) ∙ (holder_leased config list orderly_list k n leg held).1

  -- an entry of the list, with what it did if it is a relay
  abbrev refilled : Entry → Entry
  refilled e = record {
    place = e.place;
    number = e.number;
    moment = e.moment;
    board = e.board;
    event = fill_event config (fill_history config (cell_history list e.place (e.number + front before e.place))) e.event;
  }

  abbrev pub continuation : List Entry
  continuation = map refilled (list_of rows)

  refilled_list : filled_in config list ≡ continued config before continuation
  refilled_list =
      map-append (filled config list) (map as_logged before) (map (later config before) (list_of rows))
      ∙ ap (λ (xs : List Entry). xs ++ map (filled config list) (map (later config before) (list_of rows)))
      (mapped_twice (filled config list) as_logged before
      ∙ same_map (λ (e : Entry). filled config list (as_logged e)) (λ (e : Entry). e) before (λ e i. early_filled config before (list_of rows) left.legal e i)
      ∙ as_it_is before)
      ∙ ap (λ (xs : List Entry). before ++ xs)
      (mapped_twice (filled config list) (later config before) (list_of rows)
      ∙ same_map (λ (e : Entry). filled config list (later config before e)) (λ (e : Entry). later config before (refilled e)) (list_of rows) (λ e i.
      ap (λ (v : Event). record { place = e.place; number = e.number + front before e.place; moment = e.moment; board = e.board + front before 0; event = v })
      (fill_later config before (fill_history config (cell_history list e.place (e.number + front before e.place))) e.event))
      ∙ sym (mapped_twice (later config before) refilled (list_of rows)))
    where
      as_it_is : (xs : List Entry) → map (λ (e : Entry). e) xs ≡ xs
      as_it_is [] = refl
      as_it_is (x ∷ xs) = ap (λ (ys : List Entry). x ∷ ys) (as_it_is xs)

  recorded_is : map as_logged continuation ≡ list_of rows
  recorded_is =
      mapped_twice as_logged refilled (list_of rows)
      ∙ same_map (λ (e : Entry). as_logged (refilled e)) (λ (e : Entry). e) (list_of rows) (λ e i. by_row e i (in_rows rows i))
      ∙ as_it_is (list_of rows)
    where
      as_it_is : (xs : List Entry) → map (λ (e : Entry). e) xs ≡ xs
      as_it_is [] = refl
      as_it_is (x ∷ xs) = ap (λ (ys : List Entry). x ∷ ys) (as_it_is xs)

      by_row : (e : Entry) → In e (list_of rows) → IsRow e rows → as_logged (refilled e) ≡ e
      by_row e i r =
          subst (λ (x : Entry). as_logged (refilled x) ≡ x) r.is
          (ap (λ (v : Event). record { place = r.row.place; number = r.row.number; moment = r.row.event.moment; board = r.row.event.board; event = v })
          (filled_told config before (history list r.row.place (r.row.number + front before r.row.place)) r.row.event.moment r.row.event.event
          (row_told r.row r.is_in) (row_right r.row r.is_in).0))

  -- What the places hold in the end.

  high_above : (k n : ℕ) → IsAbove list k n → front before k ≤ n
  high_above k n above =
      greatest_below n (map (λ (e : Entry). e.number + 1) (filter (λ (e : Entry). e.place == k) before)) (λ m i.
      let t = mapped (λ (e : Entry). e.number + 1) (filter (λ (e : Entry). e.place == k) before) i in
      let f = filtered (λ (e : Entry). e.place == k) before t.is_in in
      let low = above (as_logged t.from) (in_left (map as_logged before) (map (later config before) (list_of rows)) (maps as_logged before f.0))
      (equal_if t.from.place k f.1) in
      let makes = t.makes in
      omega (arith, low, makes))

  last_stands : (k : ℕ) (a : Part I O) → slice_get starts k ≡ Some a → (w : IsWhole it ic ot oc rows k a) → (n : ℕ) → IsAbove list k n
      → Stands config w.last (history list k n)
  last_stands k a q w n above =
      let high = high_above k n above in
      let i = n - front before k in
      let back : n ≡ i + front before k = omega (arith, high) in
      let low : IsAbove (list_of rows) k i
      = λ e j p.
      (let m = above (later config before e) (in_right (map as_logged before) (map (later config before) (list_of rows)) (maps (later config before) (list_of rows) j)) p in
      let fronts = ap (λ (place : ℕ). front before place) p in
      omega (arith, m, fronts, back)) in
      let past : onto (map (later_row it ic ot oc config before) w.past) (base before k) ≡ history list k n
      = onto_later it ic ot oc config before w.past [] (base before k)
      ∙ ap (λ (h : List Entry). map (later config before) h ++ base before k) (own_whole it ic ot oc starts rows range whole k a w i low)
      ∙ sym (history_late config before (list_of rows) k n i back) in
      subst (λ (h : List Entry). Stands config w.last h) past
      (stands_onto it ic ot oc config a w.last (map (later_row it ic ot oc config before) w.past) (base before k)
      (leaves_later it ic ot oc config before a w.last w.past w.leaves)
      (λ is. subst (λ (h : List Entry). BringsNewKeys (filter_map cell_entry h)) (sym past) (keys_once config list orderly_list k n))
      (λ is. give_back k a w)
      (start_of k a q).1)

  -- each place holds what it held at first: the board, a cell, or a box of this configuration
  data IsOfKind (x : Part I O) : Type 0 where
    of_board : IsBoardPart x → IsOfKind x
    of_cell : IsCellPart x → IsOfKind x
    of_box : IsBoxPart config.max_sessions x → IsOfKind x

  kind_of : (x : Part I O) (h : List Entry) → IsLeftAt config x h → IsOfKind x
  kind_of (part.Board b) h left = of_board tt
  kind_of (part.Cell c) h left = of_cell tt
  kind_of (part.Pair b) h left = of_box left.1

  last_kind : (a b : Part I O) (past : List (table.Entry Made T)) → Leaves (Steps it ic ot oc) a past b → IsOfKind a → IsOfKind b
  last_kind a b past leaves (of_board is) = of_board (board_stays it ic ot oc a b past leaves is)
  last_kind a b past leaves (of_cell is) = of_cell (cell_stays it ic ot oc a b past leaves is)
  last_kind a b past leaves (of_box is) = of_box (box_stays it ic ot oc config.max_sessions a b past leaves is)

  filled_left : (k n : ℕ) (x : Part I O) → Stands config x (history list k n) → IsOfKind x → IsLeftAt config x (history (filled_in config list) k n)
  filled_left k n (part.Board b) stands kind =
      subst (λ (h : List BoardEntry). BoardFor config b h)
      (sym (ap (λ (h : List Entry). filter_map board_entry h) (history_mapped (filled config list) (filled_keeps config list) list k n)
      ∙ picked_mapped (filled config list) board_entry board_entry (history list k n) (filled_keeps config list).same_board))
      stands.1
  filled_left k n (part.Cell c) stands kind =
      subst (λ (h : List CellEntry). CellFor config c h) (sym (filled_history config list orderly_list.numbered k n))
      (cell_fills config c (cell_history list k n) stands).stands
  filled_left k n (part.Pair b) stands (of_box kind) = (
    subst (λ (h : List BoxEvent). BoxFor b h)
        (sym (ap (λ (h : List Entry). filter_map box_event h) (history_mapped (filled config list) (filled_keeps config list) list k n)
        ∙ picked_mapped (filled config list) box_event box_event (history list k n) (filled_keeps config list).same_box))
        stands.1,
    kind,
  )
  filled_left k n (part.Pair b) stands (of_board is) = absurd is
  filled_left k n (part.Pair b) stands (of_cell is) = absurd is

  above_list : (k : ℕ) → IsAbove list k (front (filled_in config list) k)
  above_list k e i p = below_front (filled_in config list) (filled config list e) k (maps (filled config list) list i) p

  last_left : (k : ℕ) (a : Part I O) → slice_get starts k ≡ Some a → (w : IsWhole it ic ot oc rows k a)
      → IsAtPlace config k w.last × IsLeftAt config w.last (history (continued config before continuation) k (front (continued config before continuation) k))
  last_left k a q w =
      let s = left.are_left k a q in
      let n = front (filled_in config list) k in (
        kind_stays it ic ot oc config k a w.last w.past w.leaves s.0,
        subst (λ (l : List Entry). IsLeftAt config w.last (history l k (front l k))) refilled_list
            (filled_left k n w.last (last_stands k a q w n (above_list k)) (last_kind a w.last w.past w.leaves (kind_of a (history before k (front before k)) s.1))),
      )

  -- The list, with what each relay did, goes on from the earlier one as a legal list, which leaves what the places hold in the end.
  legal_list : IsHanded rows → IsReceiving config (list_of rows) → Legal config (continued config before continuation)
  legal_list handed receiving =
      subst (Legal config) refilled_list
      (legal_filled config list orderly_list (receiving_both config before (list_of rows) left.legal orderly_list.numbered receiving) (made handed))

  pub goes_on : (states : List (Part I O)) → length states ≡ length starts → IsHanded rows → (TakesOwnPairs config (list_of rows) → IsReceiving config (list_of rows))
      → ((k : ℕ) (a : Part I O) → slice_get starts k ≡ Some a → (w : IsWhole it ic ot oc rows k a) × (slice_get states k ≡ Some w.last))
      → (map as_logged continuation ≡ list_of rows) × AreLeftBy config (continued config before continuation) states
  goes_on states long handed receiving ends = (
    recorded_is,
    record {
      legal = legal_list handed (receiving late_takes);
      families = left.families;
      count_is = long ∙ left.count_is;
      are_left = λ k x q.
          let low = slice_get_within states k x q in
          let a = in_range starts k (omega (arith, low, long)) in
          let w = ends k a.0 a.1 in
          let found : Some w.0.last ≡ Some x = sym w.1 ∙ q in
          let is : w.0.last ≡ x = cc in
          subst (λ (y : Part I O). IsAtPlace config k y × IsLeftAt config y (history (continued config before continuation) k (front (continued config before continuation) k))) is
          (last_left k a.0 a.1 w.0);
    },
  )

-- So what is known of the main hand's rows, with those of lanes, makes them the list of a node that went on from another.
module _ {T I O : Type 0} (it : I → EndLog InCall) (ic : I → ℕ) (ot : O → EndLog OutCall) (oc : O → ℕ) where
  pub sound_goes_on : (config : Config) (before : List Entry) (starts : List (Part I O)) (rows : List (table.Entry Made T)) (states : List (Part I O))
      → AreLeftBy config before starts → InRange starts rows → AreClosed it ic ot oc starts rows states → length states ≡ length starts → IsSoundAfter config before rows
      → (l : List Entry) × (map as_logged l ≡ list_of rows) × AreLeftBy config (continued config before l) states
  sound_goes_on config before starts rows states left range closed long sound =
      let whole = whole_of it ic ot oc starts rows states closed in
      let numbered = closed_numbered it ic ot oc starts rows range whole in
      let orderly = sound.orderly numbered in
      let returned = sound.returned numbered in
      let g = goes_on it ic ot oc starts rows range whole config before left orderly returned states long (sound.handed numbered) (sound.receiving numbered)
      (λ k a q. let c = closed k a q in (record { past = c.0; last = c.1; leaves = c.3; is = c.4 }, c.2)) in
      (continuation it ic ot oc starts rows range whole config before left orderly returned, g.0, g.1)
