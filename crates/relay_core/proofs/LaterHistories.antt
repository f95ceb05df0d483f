-- The history of each place in a list that goes on from an earlier one: what that one left there, and then the list's own, counted on.
use Rattle.std.proofs.Common.{◌≡◌, ◌∙◌, sym, ap, subst, refl, ℕ, zero, suc, ◌+◌, ◌-◌, ◌<◌, ◌≤◌, ◌⊎◌, inl, inr, List, [], ◌∷◌, ◌++◌, true, Option, map, length, filter, arith}
use Rattle.std.specs.List.{filter_map, cons_option}
use Rattle.std.proofs.lemmas.List.{map-append, length-map}
use Rattle.std.proofs.lemmas.List.Elements.{filter_map-append}
use mathlib.Core.List.{append_assoc}
use Rattle.relay_outside.specs.declared.settings.Config.{Config}
use Rattle.turn_table.specs.declared.machine.Entry as table
use Rattle.turn_table.specs.declared.hands.Hand.{Hand}
use Rattle.turn_table.specs.Hands.{entries}
use Rattle.histories.specs.Words.{In}
use Rattle.histories.proofs.Lists.{in_append, in_left, in_right, mapped, maps}
use Rattle.port_pool.specs.Boxes.{BoxEvent, holder}
use Rattle.call_cell.specs.Cells.{CellEntry, Prepare, Commit, Relay, Expire, Read, End}
use Rattle.call_board.specs.Acts.{BoardEntry}
use Rattle.relay_core.specs.Entries.{Event, Board, Cell, Box, Entry, is_nested, is_nested_cell, is_at, history, cell_at, board_entry, cell_entry, box_event, board_history, cell_history, box_history, front}
use Rattle.relay_core.specs.Scripts.{Owed, owed_by}
use Rattle.relay_core.specs.Records.{Made, list_of, entry_of, as_logged}
use Rattle.relay_core.specs.PlaceHistories.{nested_of}
use Rattle.relay_core.specs.Turns.{Numbered, IsAbove, Rising, GainedOwed, made_by}
use Rattle.relay_core.specs.Continued.{later_event, later, continued}
use Rattle.relay_core.proofs.Histories.{Step, nothing, single, step}
use Rattle.relay_core.proofs.Boxes.{below_front}
use Rattle.relay_core.proofs.Refilling.{picked_mapped, same_map}
use Rattle.relay_core.proofs.Filled.{mapped_twice}
use Rattle.relay_core.proofs.Turns.{filter_append}
use Rattle.relay_core.proofs.KeptHistories.{front_least}
use Rattle.relay_core.proofs.Given.{told_nested}
use Rattle.relay_core.proofs.Earlier.{logged_cells}
use Rattle.relay_core.proofs.Later.{later_board, later_box, base, at_behind, history_behind}

-- What of entries doesn't see that they are counted on.

module _ (config : Config) (before : List Entry) where
  pub later_boards : (h : List Entry) → filter_map board_entry (map (later config before) h) ≡ filter_map board_entry h
  later_boards h = picked_mapped (later config before) board_entry board_entry h (λ e. later_board config before e.moment e.event)

  pub later_boxes : (h : List Entry) → filter_map box_event (map (later config before) h) ≡ filter_map box_event h
  later_boxes h = picked_mapped (later config before) box_event box_event h (λ e. later_box config before e.event)

  nested_more : (moment : ℕ) (v : Event) (xs ys : List CellEntry) → nested_of xs ≡ nested_of ys
      → nested_of (cons_option (cell_at moment (later_event config before v)) xs) ≡ nested_of (cons_option (cell_at moment v) ys)
  nested_more moment (Board b) xs ys rest = rest
  nested_more moment (Cell (Prepare call legs keys dropped)) xs ys rest =
      ap (λ (zs : List CellEntry). (record { moment = moment; event = Prepare call legs keys dropped }) ∷ zs) rest
  nested_more moment (Cell (Commit signal)) xs ys rest = ap (λ (zs : List CellEntry). (record { moment = moment; event = Commit signal }) ∷ zs) rest
  nested_more moment (Cell (Relay x)) xs ys rest = rest
  nested_more moment (Cell (Expire due)) xs ys rest = ap (λ (zs : List CellEntry). (record { moment = moment; event = Expire due }) ∷ zs) rest
  nested_more moment (Cell (Read reports)) xs ys rest = ap (λ (zs : List CellEntry). (record { moment = moment; event = Read reports }) ∷ zs) rest
  nested_more moment (Cell End) xs ys rest = ap (λ (zs : List CellEntry). (record { moment = moment; event = End }) ∷ zs) rest
  nested_more moment (Box b) xs ys rest = rest

  pub later_nested : (h : List Entry) → nested_of (filter_map cell_entry (map (later config before) h)) ≡ nested_of (filter_map cell_entry h)
  later_nested [] = refl
  later_nested (e ∷ h) =
      nested_more e.moment e.event (filter_map cell_entry (map (later config before) h)) (filter_map cell_entry h) (later_nested h)

  same_event : (v : Event) → is_nested v ≡ true → later_event config before v ≡ v
  same_event (Board b) nested = refl
  same_event (Cell (Prepare call legs keys dropped)) nested = refl
  same_event (Cell (Commit signal)) nested = refl
  same_event (Cell (Relay x)) nested = absurd (let k = nested in cc)
  same_event (Cell (Expire due)) nested = refl
  same_event (Cell (Read reports)) nested = refl
  same_event (Cell End) nested = refl
  same_event (Box b) nested = refl

  -- a nested entry owes what it owed
  pub later_owed : (e : Entry) → is_nested e.event ≡ true → owed_by (later config before e) ≡ owed_by e
  later_owed e nested = ap (λ (v : Event). record { place = e.place; event = v }) (same_event e.event nested)

-- the nested entries of a cell's history, with another behind it
pub nested_both : (xs ys : List Entry) → nested_of (filter_map cell_entry (xs ++ ys)) ≡ nested_of (filter_map cell_entry xs) ++ nested_of (filter_map cell_entry ys)
nested_both xs ys =
    ap (λ (es : List CellEntry). nested_of es) (filter_map-append cell_entry xs ys)
    ∙ filter_append (λ (e : CellEntry). is_nested_cell e.event) (filter_map cell_entry xs) (filter_map cell_entry ys)

-- a history has at most as many entries as there are numbers below
more_by : (l : List Entry) (place n : ℕ) → Step l place n → length (history l place (suc n)) ≤ length (history l place n) + 1
more_by l place n (nothing none) = let same = ap (λ (xs : List Entry). length (xs ++ history l place n)) none in omega (arith, same)
more_by l place n (single e i p m one) = let same = ap (λ (xs : List Entry). length (xs ++ history l place n)) one in omega (arith, same)

pub few : (l : List Entry) → Numbered l → (place n : ℕ) → length (history l place n) ≤ n
few l numbered place zero = omega arith
few l numbered place (suc n) =
    let rest = few l numbered place n in
    let more = more_by l place n (step l numbered place n) in
    omega (arith, rest, more)

module _ (config : Config) (before l : List Entry) where
  early_low : (e : Entry) → In e before → e.number < front before e.place
  early_low e i = below_front before e e.place i refl

  -- The histories.

  pub history_continued : (k i : ℕ)
      → history (continued config before l) k (i + front before k) ≡ map (later config before) (history l k i) ++ history before k (front before k)
  history_continued k i = history_behind config before before l early_low k (i + front before k) i refl

  pub board_continued : (i : ℕ) → board_history (continued config before l) (i + front before 0) ≡ board_history l i ++ board_history before (front before 0)
  board_continued i =
      ap (λ (h : List Entry). filter_map board_entry h) (history_continued 0 i)
      ∙ filter_map-append board_entry (map (later config before) (history l 0 i)) (history before 0 (front before 0))
      ∙ ap (λ (xs : List BoardEntry). xs ++ board_history before (front before 0)) (later_boards config before (history l 0 i))

  pub nested_continued : (k i : ℕ)
      → nested_of (cell_history (continued config before l) k (i + front before k)) ≡ nested_of (cell_history l k i) ++ nested_of (cell_history before k (front before k))
  nested_continued k i =
      ap (λ (h : List Entry). nested_of (filter_map cell_entry h)) (history_continued k i)
      ∙ nested_both (map (later config before) (history l k i)) (history before k (front before k))
      ∙ ap (λ (xs : List CellEntry). xs ++ nested_of (cell_history before k (front before k))) (later_nested config before (history l k i))

  pub box_continued : (k i : ℕ)
      → box_history (continued config before l) k (i + front before k) ≡ box_history l k i ++ box_history before k (front before k)
  box_continued k i =
      ap (λ (h : List Entry). filter_map box_event h) (history_continued k i)
      ∙ filter_map-append box_event (map (later config before) (history l k i)) (history before k (front before k))
      ∙ ap (λ (xs : List BoxEvent). xs ++ box_history before k (front before k)) (later_boxes config before (history l k i))

  pub holder_continued : (k i : ℕ)
      → holder (box_history (continued config before l) k (i + front before k)) ≡ holder (box_history l k i ++ box_history before k (front before k))
  holder_continued k i = ap (λ (h : List BoxEvent). holder h) (box_continued k i)

  -- what is recorded of the earlier list, and then the list's own, tells as much of the board and of boxes
  pub recorded_picked : {C : Type 0} (p : Entry → Option C) → ((e : Entry) → p (as_logged e) ≡ p e) → (k i : ℕ)
      → filter_map p (map (later config before) (history l k i) ++ base before k) ≡ filter_map p (history (continued config before l) k (i + front before k))
  recorded_picked {C} p same k i =
      filter_map-append p (map (later config before) (history l k i)) (base before k)
      ∙ ap (λ (xs : List C). filter_map p (map (later config before) (history l k i)) ++ xs) (picked_mapped as_logged p p (history before k (front before k)) same)
      ∙ sym (filter_map-append p (map (later config before) (history l k i)) (history before k (front before k)))
      ∙ ap (λ (h : List Entry). filter_map p h) (sym (history_continued k i))

  -- and of cells but for relays
  pub recorded_nested : (k i : ℕ)
      → nested_of (filter_map cell_entry (map (later config before) (history l k i) ++ base before k))
      ≡ nested_of (cell_history (continued config before l) k (i + front before k))
  recorded_nested k i =
      nested_both (map (later config before) (history l k i)) (base before k)
      ∙ ap (λ (xs : List CellEntry). nested_of (filter_map cell_entry (map (later config before) (history l k i))) ++ xs)
      (ap (λ (xs : List CellEntry). nested_of xs) (logged_cells (history before k (front before k))) ∙ told_nested (cell_history before k (front before k)))
      ∙ sym (nested_both (map (later config before) (history l k i)) (history before k (front before k)))
      ∙ ap (λ (h : List Entry). nested_of (filter_map cell_entry h)) (sym (history_continued k i))

  -- Numbers.

  -- each number of the list stands as often
  pub numbered_back : Numbered (continued config before l) → Numbered l
  numbered_back numbered e i =
      sym (length-map (filter (is_at e.place e.number) l) (later config before))
      ∙ ap length (sym (at_behind config before before l early_low e.place e.number))
      ∙ numbered (later config before e) (in_right before (map (later config before) l) (maps (later config before) l i))

  pub above_continued : (k n : ℕ) → IsAbove l k n → IsAbove (continued config before l) k (n + front before k)
  above_continued k n above e i p = by_part (in_append before (map (later config before) l) i)
    where
      by_part : In e before ⊎ In e (map (later config before) l) → e.number < n + front before k
      by_part (inl j) = let low = below_front before e k j p in omega (arith, low)
      by_part (inr j) =
          let m = mapped (later config before) l j in
          let place : m.from.place ≡ k = ap (λ (x : Entry). x.place) m.makes ∙ p in
          let low = above m.from m.is_in place in
          let number = ap (λ (x : Entry). x.number) m.makes in
          let fronts = ap (λ (q : ℕ). front before q) place in
          omega (arith, low, number, fronts)

  -- a number above all that the whole list has of a place is one above all that the list has of it, counted on
  pub above_back : (k m : ℕ) → IsAbove (continued config before l) k m → (i : ℕ) × (m ≡ i + front before k) × IsAbove l k i
  above_back k m above =
      let high : front before k ≤ m = front_least before k m (λ e i p. above e (in_left before (map (later config before) l) i) p) in
      let back : m ≡ (m - front before k) + front before k = omega (arith, high) in (
        m - front before k,
        back,
        λ e i p.
            (let low = above (later config before e) (in_right before (map (later config before) l) (maps (later config before) l i)) p in
            let fronts = ap (λ (q : ℕ). front before q) p in
            omega (arith, low, fronts, back)),
      )

  -- so its front is the list's own, counted on
  pub front_continued : (k : ℕ) → front (continued config before l) k ≡ front l k + front before k
  front_continued k =
      let high = front_least (continued config before l) k (front l k + front before k) (above_continued k (front l k) (λ e i p. below_front l e k i p)) in
      let own = above_back k (front (continued config before l) k) (λ e i p. below_front (continued config before l) e k i p) in
      let least = front_least l k own.0 own.2 in
      let is = own.1 in
      omega (arith, high, least, is)

-- Lists that get longer.

pub longer_continued : (config : Config) (before l ls : List Entry)
    → continued config before (l ++ ls) ≡ continued config before l ++ map (later config before) ls
longer_continued config before l ls =
    ap (λ (xs : List Entry). before ++ xs) (map-append (later config before) l ls)
    ∙ sym (append_assoc before (map (later config before) l) (map (later config before) ls))

pub gained_continued : (config : Config) (before old new rows : List Entry) → new ≡ old ++ rows
    → continued config before new ≡ continued config before old ++ map (later config before) rows
gained_continued config before old new rows is = ap (λ (l : List Entry). continued config before l) is ∙ longer_continued config before old rows

-- of hands
pub made_continued : {M S T : Type 0} {g : _} (config : Config) (before : List Entry) (old new : Hand M S Made T g) (rows : List (table.Entry Made T))
    → entries new ≡ entries old ++ rows
    → continued config before (made_by new) ≡ continued config before (made_by old) ++ map (later config before) (list_of rows)
made_continued {T = T} config before old new rows is =
    gained_continued config before (made_by old) (made_by new) (list_of rows)
    (ap (λ (es : List (table.Entry Made T)). list_of es) is ∙ map-append entry_of (entries old) rows)

rising_later : (config : Config) (before l ns : List Entry) → Rising l ns → Rising (continued config before l) (map (later config before) ns)
rising_later config before l [] rising = tt
rising_later config before l (e ∷ es) rising = (
  above_continued config before l e.place e.number rising.0,
  subst (λ (k : List Entry). Rising k (map (later config before) es)) (longer_continued config before l (e ∷ [])) (rising_later config before (l ++ e ∷ []) es rising.1),
)

-- nested entries that a list gained are gained by the whole list, counted on
pub owed_continued : (config : Config) (before l : List Entry) (number : ℕ) (events : List Owed) (rows : List Entry)
    → ((e : Entry) → In e rows → is_nested e.event ≡ true) → GainedOwed l number events rows
    → GainedOwed (continued config before l) (number + front before 0) events (map (later config before) rows)
owed_continued config before l number events rows nested gained = record {
  owes =
      mapped_twice owed_by (later config before) rows
      ∙ same_map (λ (e : Entry). owed_by (later config before e)) owed_by rows (λ e i. later_owed config before e (nested e i))
      ∙ gained.owes;
  of_board = λ e i.
      let m = mapped (later config before) rows i in
      let number_is = gained.of_board m.from m.is_in in
      let board = ap (λ (x : Entry). x.board) m.makes in
      omega (arith, number_is, board);
  rising = rising_later config before l rows gained.rising;
}

-- they are nested where all that they owe is
pub nested_if_owed : (l : List Entry) (number : ℕ) (events : List Owed) (rows : List Entry) → GainedOwed l number events rows
    → ((w : Owed) → In w events → is_nested w.event ≡ true) → (e : Entry) → In e rows → is_nested e.event ≡ true
nested_if_owed l number events rows gained nested e i = nested (owed_by e) (subst (λ (ws : List Owed). In (owed_by e) ws) gained.owes (maps owed_by rows i))
