-- What is known of the state that a turn gives where the table's places began with what an earlier list had left: it stands for what is
-- recorded there of the earlier list, and then of the hand's own, counted on.
use Rattle.std.proofs.Common.{◌≡◌, ◌∙◌, sym, ap, subst, refl, ℕ, ◌+◌, ◌<◌, ◌≤◌, true, List, [], ◌++◌, Option, Some, None, map, filter, length, length-append, arith, slice_get, take}
use Rattle.std.specs.List.{filter_map}
use Rattle.std.specs.Option.{option_map}
use Rattle.std.proofs.lemmas.List.{length-map, take-map}
use Rattle.std.proofs.lemmas.List.Elements.{filter_map-append}
use Rattle.std.proofs.lemmas.Option.{slice_get_within, slice_get-map}
use Rattle.relay_outside.specs.declared.ports.InCall.{InCall}
use Rattle.relay_outside.specs.declared.ports.OutCall.{OutCall}
use Rattle.relay_outside.specs.declared.settings.Config.{Config}
use Rattle.relay_outside.specs.DeviceLogs.{EndLog}
use Rattle.turn_table.specs.declared.machine.Entry as table
use Rattle.turn_table.specs.declared.view.View.{View}
use Rattle.port_pool.specs.Boxes.{BoxEvent, holder}
use Rattle.call_board.specs.Acts.{BoardEntry}
use Rattle.relay_core.specs.declared.part.Part.{Part}
use Rattle.relay_core.specs.declared.part.Part.TheVariants as part
use Rattle.relay_core.specs.Entries.{Entry, history, board_entry, cell_entry, box_event, board_history, cell_history, box_history, front, box_of}
use Rattle.relay_core.specs.Legal.{Orderly}
use Rattle.relay_core.specs.Records.{Made, list_of, as_logged}
use Rattle.relay_core.specs.ReturnedPairs.{is_boards, AreReturned}
use Rattle.relay_core.specs.Steps.{is_reserved}
use Rattle.relay_core.specs.PlaceHistories.{BringsNewKeys, Stands, IsBoardPart, IsCellPart, IsBoxPart, BoxHome, CellHome, nested_of, BoardIs, BoxIs, CellIs}
use Rattle.relay_core.specs.Turns.{Numbered}
use Rattle.relay_core.specs.Joins.{IsAtPlace}
use Rattle.relay_core.specs.Continued.{later_event, later, continued, IsLeftAt, AreLeftBy}
use Rattle.relay_core.proofs.Refilling.{filter_mapped}
use Rattle.relay_core.proofs.Turns.{filter_append}
use Rattle.relay_core.proofs.Stays.{onto, GivesBack, GiveBackOnto, give_back_from, stands_onto, board_stays, cell_stays, box_stays, home_stays}
use Rattle.relay_core.proofs.Given.{Gives, IsShort, keeps_event, board_kept, box_kept, cell_kept, brings_nested, brings_whole, board_is, box_is, cell_is, short_is, not_cell, box_not_cell, box_not_board, onto_long, reserved_boards, where_boards, whole_history, kept_history, board_before}
use Rattle.relay_core.proofs.Logged.{logged_keeps}
use Rattle.relay_core.proofs.Later.{joined, base, later_by, history_late}
use Rattle.relay_core.proofs.LaterSteps.{later_made, later_row, leaves_later, onto_later}
use Rattle.relay_core.proofs.LaterReturns.{closing_low, gives_later}
use Rattle.relay_core.proofs.LaterHistories.{later_boards, recorded_picked, recorded_nested, numbered_back, few}
use Rattle.relay_core.proofs.Earlier.{left_stands}
use Rattle.relay_core.proofs.Homes.{rows_home}
use Rattle.relay_core.proofs.Firsts.{continues_nothing}

-- A part is of the kind of its place.

module _ {I O : Type 0} where
  board_there : (config : Config) (x : Part I O) → IsAtPlace config 0 x → IsBoardPart x
  board_there config (part.Board b) at = tt
  board_there config (part.Cell c) at = absurd (let l = at.0 in omega (arith, l))
  board_there config (part.Pair b) at = absurd (let l = at in omega (arith, l))

  cell_there : (config : Config) (k : ℕ) (x : Part I O) → 1 ≤ k → k ≤ config.max_sessions → IsAtPlace config k x → IsCellPart x
  cell_there config k (part.Board b) low high at = absurd (let l = at in omega (arith, l, low))
  cell_there config k (part.Cell c) low high at = tt
  cell_there config k (part.Pair b) low high at = absurd (let l = at in omega (arith, l, high))

  box_there : (config : Config) (k : ℕ) (x : Part I O) (h : List Entry) → config.max_sessions < k → IsAtPlace config k x → IsLeftAt config x h
      → IsBoxPart config.max_sessions x
  box_there config k (part.Board b) h above at left = absurd (let l = at in omega (arith, l, above))
  box_there config k (part.Cell c) h above at left = absurd (let l = at.1 in omega (arith, l, above))
  box_there config k (part.Pair b) h above at left = left.1

-- what is recorded of the place in the earlier list, and then this, counted on
abbrev behind : Config → List Entry → ℕ → List Entry → List Entry
behind config before k h = map (later config before) h ++ base before k

kept_later : (config : Config) (before h : List Entry) → filter keeps_event (map (later config before) h) ≡ map (later config before) (filter keeps_event h)
kept_later config before h = filter_mapped (later config before) keeps_event keeps_event h (λ e. later_by is_reserved (λ x y. refl) config before e.event)

module _ {T I O : Type 0} (it : I → EndLog InCall) (ic : I → ℕ) (ot : O → EndLog OutCall) (oc : O → ℕ) (config : Config) (before : List Entry) where
  -- the same with these rows
  abbrev past : ℕ → List (table.Entry Made T) → List Entry
  past k rows = behind config before k (onto rows [])

  -- the given state stands for that
  stands_past : (v : View (Part I O) Made T) (k n : ℕ) (x : Part I O) → AreLeftBy config before v.starts → (g : Gives it ic ot oc k v n x)
      → (IsCellPart g.start → BringsNewKeys (filter_map cell_entry (past k g.history)))
      → (IsBoardPart g.start → GiveBackOnto (map (later_row it ic ot oc config before) g.history) (base before k))
      → Stands config x (past k g.history)
  stands_past v k n x left g keys gives =
      let s = left.are_left k g.start g.starts in
      let is : onto (map (later_row it ic ot oc config before) g.history) (base before k) ≡ past k g.history
      = onto_later it ic ot oc config before g.history [] (base before k) in
      subst (λ (h : List Entry). Stands config x h) is
      (stands_onto it ic ot oc config g.start x (map (later_row it ic ot oc config before) g.history) (base before k)
      (leaves_later it ic ot oc config before g.start x g.history g.leaves)
      (λ cell. subst (λ (h : List Entry). BringsNewKeys (filter_map cell_entry h)) (sym is) (keys cell))
      gives
      (left_stands config before left.legal k g.start s.0 s.1))

  -- but for takes and relays it is what the hand's own list has there
  kept_past : (v : View (Part I O) Made T) (k n : ℕ) (x : Part I O) → (g : Gives it ic ot oc k v n x) → v.main ≡ true → Numbered (list_of v.entries)
      → filter keeps_event (past k g.history) ≡ filter keeps_event (behind config before k (history (list_of v.entries) k n))
  kept_past v k n x g main numbered =
      filter_append keeps_event (map (later config before) (onto g.history [])) (base before k)
      ∙ ap (λ (xs : List Entry). xs ++ filter keeps_event (base before k))
      (kept_later config before (onto g.history [])
      ∙ ap (λ (xs : List Entry). map (later config before) xs) (kept_history it ic ot oc k v n x g main numbered)
      ∙ sym (kept_later config before (history (list_of v.entries) k n)))
      ∙ sym (filter_append keeps_event (map (later config before) (history (list_of v.entries) k n)) (base before k))

  -- The board.

  -- of each number before the front the whole list has the board's entries
  boards_before : (v : View (Part I O) Made T) (n : ℕ) (x : Part I O) → (g : Gives it ic ot oc 0 v n x) → v.main ≡ true → Numbered (list_of v.entries)
      → (i : ℕ) → i ≤ length g.history
      → filter_map board_entry (past 0 (take i g.history)) ≡ board_history (continued config before (list_of v.entries)) (i + front before 0)
  boards_before v n x g main numbered i within =
      filter_map-append board_entry (map (later config before) (onto (take i g.history) [])) (base before 0)
      ∙ ap (λ (xs : List BoardEntry). xs ++ filter_map board_entry (base before 0))
      (later_boards config before (onto (take i g.history) [])
      ∙ board_before it ic ot oc v n x g main numbered i within
      ∙ sym (later_boards config before (history (list_of v.entries) 0 i)))
      ∙ sym (filter_map-append board_entry (map (later config before) (history (list_of v.entries) 0 i)) (base before 0))
      ∙ recorded_picked config before (list_of v.entries) board_entry logged_keeps.same_board 0 i

  -- so each of the board's steps that lead to the front records the pairs of the legs that it closes
  give_back_later : (v : View (Part I O) Made T) (n : ℕ) (x : Part I O) → AreLeftBy config before v.starts → (g : Gives it ic ot oc 0 v n x) → v.main ≡ true
      → Orderly config (continued config before (list_of v.entries)) → Numbered (list_of v.entries) → AreReturned config v.entries
      → GiveBackOnto (map (later_row it ic ot oc config before) g.history) (base before 0)
  give_back_later v n x left g main orderly numbered returned =
      give_back_from (map (later_row it ic ot oc config before) g.history) (base before 0) (λ i row at.
      by_row i row (slice_get g.history i) refl (sym (slice_get-map (later_row it ic ot oc config before) g.history i) ∙ at))
    where
      by_row : (i : ℕ) (row : table.Entry Made T) (found : Option (table.Entry Made T)) → slice_get g.history i ≡ found
          → option_map (later_row it ic ot oc config before) found ≡ Some row
          → GivesBack row.event row.event.event (filter_map board_entry (onto (take i (map (later_row it ic ot oc config before) g.history)) (base before 0)))
      by_row i row None q is = absurd (let c = is in cc)
      by_row i row (Some r) q is =
          let made : Some (later_row it ic ot oc config before r) ≡ Some row = is in
          let same : later_row it ic ot oc config before r ≡ row = cc in
          let low = slice_get_within g.history i r q in
          let named = g.named i r q in
          let there : filter_map board_entry (onto (take i (map (later_row it ic ot oc config before) g.history)) (base before 0))
          ≡ filter_map board_entry (history (continued config before (list_of v.entries)) r.place (r.number + front before r.place))
          = ap (λ (xs : List (table.Entry Made T)). filter_map board_entry (onto xs (base before 0))) (take-map (later_row it ic ot oc config before) i g.history)
          ∙ ap (λ (h : List Entry). filter_map board_entry h) (onto_later it ic ot oc config before (take i g.history) [] (base before 0))
          ∙ boards_before v n x g main numbered i (omega (arith, low))
          ∙ ap (λ (m : ℕ). filter_map board_entry (history (continued config before (list_of v.entries)) 0 (m + front before 0))) (sym named.1)
          ∙ ap (λ (p : ℕ). filter_map board_entry (history (continued config before (list_of v.entries)) p (r.number + front before p))) (sym named.0) in
          subst (λ (y : table.Entry Made T). GivesBack y.event y.event.event (filter_map board_entry (onto (take i (map (later_row it ic ot oc config before) g.history)) (base before 0)))) same
          (where_boards (later_made config before r.event) (later_event config before r.event.event)
          (filter_map board_entry (onto (take i (map (later_row it ic ot oc config before) g.history)) (base before 0))) (λ boards.
          let own = g.main main i r q (reserved_boards r.event.event (sym (later_by is_boards (λ x y. refl) config before r.event.event) ∙ boards)) in
          subst (λ (h : List BoardEntry). GivesBack (later_made config before r.event) (later_event config before r.event.event) h) (sym there)
          (gives_later config before before v.entries (closing_low config before left.legal) orderly returned r own)))

  -- the board's turn gives the board of the whole list's history, where each of its steps records the pairs of the legs that it closes
  pub given_board_later : (v : View (Part I O) Made T) (n : ℕ) (x : Part I O) → AreLeftBy config before v.starts → Gives it ic ot oc 0 v n x → v.main ≡ true
      → Orderly config (continued config before (list_of v.entries)) → AreReturned config v.entries
      → BoardIs config x (board_history (continued config before (list_of v.entries)) (n + front before 0))
  given_board_later v n x left g main orderly returned =
      let numbered = numbered_back config before (list_of v.entries) orderly.numbered in
      let is = board_there config g.start (left.are_left 0 g.start g.starts).0 in
      board_is config x (past 0 g.history) (board_history (continued config before (list_of v.entries)) (n + front before 0))
      (board_stays it ic ot oc g.start x g.history g.leaves is)
      (stands_past v 0 n x left g (λ cell. absurd (not_cell g.start is cell)) (λ board. give_back_later v n x left g main orderly numbered returned))
      (board_kept (past 0 g.history)
      ∙ ap (λ (xs : List Entry). filter_map board_entry xs) (kept_past v 0 n x g main numbered)
      ∙ sym (board_kept (behind config before 0 (history (list_of v.entries) 0 n)))
      ∙ recorded_picked config before (list_of v.entries) board_entry logged_keeps.same_board 0 n)

  -- Boxes.

  -- a box's turn, taken by the main hand, gives a box with the holder of the whole list's history
  pub given_box_later : (v : View (Part I O) Made T) (k n : ℕ) (x : Part I O) → AreLeftBy config before v.starts → config.max_sessions < k
      → Gives it ic ot oc k v n x → v.main ≡ true → Numbered (list_of v.entries)
      → BoxIs config.max_sessions x (holder (box_history (continued config before (list_of v.entries)) k (n + front before k)))
  given_box_later v k n x left above g main numbered =
      let s = left.are_left k g.start g.starts in
      let is = box_there config k g.start (history before k (front before k)) above s.0 s.1 in
      box_is config x (past k g.history) (holder (box_history (continued config before (list_of v.entries)) k (n + front before k)))
      (box_stays it ic ot oc config.max_sessions g.start x g.history g.leaves is)
      (stands_past v k n x left g (λ cell. absurd (box_not_cell config.max_sessions g.start is cell))
      (λ board. absurd (box_not_board config.max_sessions g.start is board)))
      (box_kept (past k g.history)
      ∙ ap (λ (xs : List Entry). holder (filter_map box_event xs)) (kept_past v k n x g main numbered)
      ∙ sym (box_kept (behind config before k (history (list_of v.entries) k n)))
      ∙ ap (λ (xs : List BoxEvent). holder xs) (recorded_picked config before (list_of v.entries) box_event logged_keeps.same_box k n))

  -- by any hand it gives a box
  pub gives_box_later : (v : View (Part I O) Made T) (k n : ℕ) (x : Part I O) → AreLeftBy config before v.starts → config.max_sessions < k
      → Gives it ic ot oc k v n x → IsBoxPart config.max_sessions x
  gives_box_later v k n x left above g =
      let s = left.are_left k g.start g.starts in
      box_stays it ic ot oc config.max_sessions g.start x g.history g.leaves (box_there config k g.start (history before k (front before k)) above s.0 s.1)

  -- Cells.

  -- the nested entries of all that led to the state are the whole list's
  pub same_nested_later : (v : View (Part I O) Made T) (k n : ℕ) (x : Part I O) → (g : Gives it ic ot oc k v n x) → v.main ≡ true → Numbered (list_of v.entries)
      → nested_of (filter_map cell_entry (past k g.history)) ≡ nested_of (cell_history (continued config before (list_of v.entries)) k (n + front before k))
  same_nested_later v k n x g main numbered =
      cell_kept (past k g.history)
      ∙ ap (λ (xs : List Entry). filter_map cell_entry xs) (kept_past v k n x g main numbered)
      ∙ sym (cell_kept (behind config before k (history (list_of v.entries) k n)))
      ∙ recorded_nested config before (list_of v.entries) k n

  -- so each key that was brought was new where it was by the whole list
  pub given_brings_later : (v : View (Part I O) Made T) (k n : ℕ) (x : Part I O) → (g : Gives it ic ot oc k v n x) → v.main ≡ true → Numbered (list_of v.entries)
      → BringsNewKeys (cell_history (continued config before (list_of v.entries)) k (n + front before k)) → BringsNewKeys (filter_map cell_entry (past k g.history))
  given_brings_later v k n x g main numbered brings =
      brings_whole (filter_map cell_entry (past k g.history))
      (subst BringsNewKeys (sym (same_nested_later v k n x g main numbered))
      (brings_nested (cell_history (continued config before (list_of v.entries)) k (n + front before k)) brings))

  -- and a cell's turn, taken by the main hand, gives a cell that stands for all that led to it
  cell_given_later : (v : View (Part I O) Made T) (k n : ℕ) (x : Part I O) → AreLeftBy config before v.starts → 1 ≤ k → k ≤ config.max_sessions
      → (g : Gives it ic ot oc k v n x) → v.main ≡ true → Numbered (list_of v.entries)
      → BringsNewKeys (cell_history (continued config before (list_of v.entries)) k (n + front before k)) → IsCellPart x × Stands config x (past k g.history)
  cell_given_later v k n x left low high g main numbered brings =
      let is = cell_there config k g.start low high (left.are_left k g.start g.starts).0 in
      let new = given_brings_later v k n x g main numbered brings in (
        cell_stays it ic ot oc g.start x g.history g.leaves is,
        stands_past v k n x left g (λ cell. new) (λ board. absurd (not_cell g.start board is)),
      )

  -- whose history is the whole list's but for relays
  pub given_cell_later : (v : View (Part I O) Made T) (k n : ℕ) (x : Part I O) → AreLeftBy config before v.starts → 1 ≤ k → k ≤ config.max_sessions
      → Gives it ic ot oc k v n x → v.main ≡ true → Numbered (list_of v.entries)
      → BringsNewKeys (cell_history (continued config before (list_of v.entries)) k (n + front before k))
      → CellIs config x (nested_of (cell_history (continued config before (list_of v.entries)) k (n + front before k)))
  given_cell_later v k n x left low high g main numbered brings =
      let c = cell_given_later v k n x left low high g main numbered brings in
      cell_is config x (past k g.history) (nested_of (cell_history (continued config before (list_of v.entries)) k (n + front before k))) c.0 c.1
      (same_nested_later v k n x g main numbered)

  -- of at most as many entries as the turn's number and what the earlier list has there
  pub given_short_later : (v : View (Part I O) Made T) (k n : ℕ) (x : Part I O) → AreLeftBy config before v.starts → 1 ≤ k → k ≤ config.max_sessions
      → Gives it ic ot oc k v n x → v.main ≡ true → Numbered (list_of v.entries)
      → BringsNewKeys (cell_history (continued config before (list_of v.entries)) k (n + front before k)) → IsShort config x (n + front before k)
  given_short_later v k n x left low high g main numbered brings =
      let c = cell_given_later v k n x left low high g main numbered brings in
      at_most x (length (past k g.history)) (n + front before k)
      (let both = length-append (map (later config before) (onto g.history [])) (base before k) in
      let own = length-map (onto g.history []) (later config before) in
      let rows = onto_long g.history in
      let long = g.long in
      let recorded = length-map (history before k (front before k)) as_logged in
      let fit = few before left.legal.numbered k (front before k) in
      omega (arith, both, own, rows, long, recorded, fit))
      (short_is config x (past k g.history) c.0 c.1)
    where
      at_most : (y : Part I O) (m o : ℕ) → m ≤ o → IsShort config y m → IsShort config y o
      at_most (part.Cell c) m o few_enough short = (short.0, (let l = short.1 in omega (arith, l, few_enough)), short.2)
      at_most (part.Board b) m o few_enough short = absurd short
      at_most (part.Pair b) m o few_enough short = absurd short

  -- a cell's turn, taken by a hand with all parts, gives a cell that stands for what is recorded of the earlier list, and then of its own
  pub given_whole_cell_later : (v : View (Part I O) Made T) (k n : ℕ) (x : Part I O) → AreLeftBy config before v.starts → 1 ≤ k → k ≤ config.max_sessions
      → Gives it ic ot oc k v n x → v.parts ≡ 1024 → Numbered (list_of v.entries)
      → BringsNewKeys (cell_history (continued config before (list_of v.entries)) k (n + front before k))
      → Stands config x (history (joined config before (list_of v.entries)) k (n + front before k))
  given_whole_cell_later v k n x left low high g all numbered brings =
      let is = cell_there config k g.start low high (left.are_left k g.start g.starts).0 in
      let own : past k g.history ≡ behind config before k (history (list_of v.entries) k n) = ap (λ (h : List Entry). behind config before k h) (whole_history it ic ot oc k v n x g all numbered) in
      let new : BringsNewKeys (filter_map cell_entry (past k g.history))
      = brings_whole (filter_map cell_entry (past k g.history))
      (subst BringsNewKeys
      (sym (ap (λ (h : List Entry). nested_of (filter_map cell_entry h)) own ∙ recorded_nested config before (list_of v.entries) k n))
      (brings_nested (cell_history (continued config before (list_of v.entries)) k (n + front before k)) brings)) in
      subst (λ (h : List Entry). Stands config x h) (own ∙ sym (history_late config before (list_of v.entries) k (n + front before k) n refl))
      (stands_past v k n x left g (λ cell. new) (λ board. absurd (not_cell g.start board is)))

  -- by any hand it gives a cell
  pub gives_cell_later : (v : View (Part I O) Made T) (k n : ℕ) (x : Part I O) → AreLeftBy config before v.starts → 1 ≤ k → k ≤ config.max_sessions
      → Gives it ic ot oc k v n x → IsCellPart x
  gives_cell_later v k n x left low high g =
      cell_stays it ic ot oc g.start x g.history g.leaves (cell_there config k g.start low high (left.are_left k g.start g.starts).0)

  -- The ends, where those of the starts are those of their pairs' ports, which the earlier list doesn't tell.

  -- of a box, by any hand
  pub given_box_home_later : (v : View (Part I O) Made T) (pair n : ℕ) (x : Part I O)
      → ((a : Part I O) → slice_get v.starts (box_of config pair) ≡ Some a → BoxHome it config pair a) → Gives it ic ot oc (box_of config pair) v n x
      → BoxHome it config pair x
  given_box_home_later v pair n x homes g = home_stays it ic ot oc config pair g.start x g.history g.leaves (homes g.start g.starts)

  -- of a cell, by the main hand, where each key that an offer brought was new
  pub given_cell_home_later : (v : View (Part I O) Made T) (k n : ℕ) (x : Part I O) → AreLeftBy config before v.starts → 1 ≤ k → k ≤ config.max_sessions
      → ((a : Part I O) → slice_get v.starts k ≡ Some a → CellHome ot config a) → Gives it ic ot oc k v n x → v.main ≡ true → Numbered (list_of v.entries)
      → BringsNewKeys (cell_history (continued config before (list_of v.entries)) k (n + front before k)) → CellHome ot config x
  given_cell_home_later v k n x left low high homes g main numbered brings =
      let s = left.are_left k g.start g.starts in
      let whole : onto (map (later_row it ic ot oc config before) g.history) (base before k) ≡ past k g.history
      = onto_later it ic ot oc config before g.history [] (base before k) in
      rows_home it ic ot oc config g.start x (map (later_row it ic ot oc config before) g.history) (base before k)
      (cell_there config k g.start low high s.0)
      (leaves_later it ic ot oc config before g.start x g.history g.leaves)
      (subst (λ (h : List Entry). BringsNewKeys (filter_map cell_entry h)) (sym whole) (given_brings_later v k n x g main numbered brings))
      (left_stands config before left.legal k g.start s.0 s.1)
      (homes g.start g.starts)

-- Fresh starts are those that go on from the empty list, so what is said of all lists that go on is said of a list that doesn't.

module _ {I O : Type 0} (config : Config) (starts : List (Part I O)) where
  pub at_fresh : (P : List Entry → Type 0) (l : List Entry) → ((before : List Entry) → AreLeftBy config before starts → P (continued config before l))
      → AreLeftBy config [] starts → P l
  at_fresh P l each left = subst P (continues_nothing config l) (each [] left)

  -- of a number of a place too
  pub at_fresh_number : (P : List Entry → ℕ → Type 0) (l : List Entry) (k n : ℕ)
      → ((before : List Entry) → AreLeftBy config before starts → P (continued config before l) (n + front before k)) → AreLeftBy config [] starts → P l n
  at_fresh_number P l k n each left =
      let none : n + 0 ≡ n = omega arith in
      subst (λ (m : List Entry). P m n) (continues_nothing config l) (subst (λ (m : ℕ). P (continued config [] l) m) none (each [] left))
