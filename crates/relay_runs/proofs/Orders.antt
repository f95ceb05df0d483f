-- The nested entries of a run stand at each place in the order of their numbers.
use Rattle.std.proofs.Common.{◌≡◌, ◌∙◌, refl, sym, ap, subst, ℕ, zero, suc, ◌<◌, ◌⊎◌, inl, inr, true, false, List, [], ◌∷◌, ◌++◌, Option, None, Some, length, arith}
use Rattle.std.specs.Prelude.{slice_index_or}
use Rattle.std.proofs.lemmas.List.{map-append}
use Rattle.relay_outside.specs.declared.settings.Config.{Config}
use Rattle.turn_table.specs.Histories as table_lists
use Rattle.histories.specs.Words.{In, here, there, Before, begins, goes_on}
use Rattle.histories.proofs.Lists.{in_append, in_right}
use Rattle.port_pool.specs.Boxes.{Open, Take, Close}
use Rattle.call_cell.specs.Cells.{Prepare, Commit, Relay, Expire, Read, End}
use Rattle.call_board.specs.Acts.{BoardEntry}
use Rattle.relay_core.specs.Entries.{Event, Board, Cell, Box, Entry, is_nested, board_at}
use Rattle.relay_core.specs.Records.{entry_of, list_of}
use Rattle.relay_core.specs.EndLogs.{InOrder}
use Rattle.relay_core.specs.Turns.{IsAbove, IsOfLane}
use Rattle.relay_core.proofs.Joins.{row_append}
use Rattle.relay_core.proofs.Own.{in_rows}
use Rattle.relay_core.proofs.Turns.{before_left, before_right}
use Rattle.media_lane.specs.declared.answers.Totals.{Totals}
use Rattle.media_lane.specs.SweepLoops.{visits_of}
use Rattle.media_lane.specs.Visits.{Row}
use Rattle.media_lane.proofs.Sweeps.{rows_in}
use Rattle.relay_runs.specs.Loads.{IsLoadWhole}
use Rattle.relay_runs.specs.Rounds.{ControlRound, with_request, tick_of, history_after, entry_due, IsBoardTurn, MakesEntry, HasSwept, SweepsAlone, AreControlRounds, lane_count, IsLane, AreLanes, all_of, IsWhole}

before_across : {A : Type 0} {x y : A} (xs ys : List A) → In x xs → In y ys → Before x y (xs ++ ys)
before_across [] ys i j = elim i [ ]
before_across (z ∷ xs) ys (here q) j = begins q (in_right xs ys j)
before_across (z ∷ xs) ys (there i) j = goes_on (before_across xs ys i j)

-- Two lists, of which each nested entry of the second is above all that its place has in the first.

abbrev ComesAbove : List Entry → List Entry → Type 0
ComesAbove l ns = (e : Entry) → In e ns → is_nested e.event ≡ true → IsAbove l e.place e.number

order_case : (l ns : List Entry) → InOrder l → InOrder ns → ComesAbove l ns → (e f : Entry) → In e l ⊎ In e ns → In f l ⊎ In f ns
    → is_nested e.event ≡ true → is_nested f.event ≡ true → e.place ≡ f.place → e.number < f.number → Before e f (l ++ ns)
order_case l ns first second above e f (inl i) (inl j) x y p k = before_left l ns (first e f i j x y p k)
order_case l ns first second above e f (inl i) (inr j) x y p k = before_across l ns i j
order_case l ns first second above e f (inr i) (inl j) x y p k = absurd (let later = above e i x f j (sym p) in omega (arith, later, k))
order_case l ns first second above e f (inr i) (inr j) x y p k = before_right l ns (second e f i j x y p k)

both_in_order : (l ns : List Entry) → InOrder l → InOrder ns → ComesAbove l ns → InOrder (l ++ ns)
both_in_order l ns first second above e f i j x y p k = order_case l ns first second above e f (in_append l ns i) (in_append l ns j) x y p k

abbrev pub HasNoNested : List Entry → Type 0
HasNoNested l = (e : Entry) → In e l → is_nested e.event ≡ false

no_nested_in_order : (l : List Entry) → HasNoNested l → InOrder l
no_nested_in_order l none e f i j x y p k = absurd (let never = none e i in cc)

nothing_in_order : InOrder []
nothing_in_order = no_nested_in_order [] (λ e i. elim i [ ])

-- entries after the list of which none is nested
behind_in_order : (l ls : List Entry) → HasNoNested ls → InOrder l → InOrder (l ++ ls)
behind_in_order l ls none first =
    both_in_order l ls first (no_nested_in_order ls none) (λ e i x. absurd (let never = none e i in cc))

-- Rows of lanes.

pub lane_not_nested : (v : Event) → IsOfLane v → is_nested v ≡ false
lane_not_nested (Board b) h = absurd h
lane_not_nested (Cell (Prepare call legs keys dropped)) h = absurd h
lane_not_nested (Cell (Commit signal)) h = absurd h
lane_not_nested (Cell (Relay r)) h = refl
lane_not_nested (Cell (Expire due)) h = absurd h
lane_not_nested (Cell (Read reports)) h = absurd h
lane_not_nested (Cell End) h = absurd h
lane_not_nested (Box (Open leg)) h = absurd h
lane_not_nested (Box (Take half taken)) h = refl
lane_not_nested (Box Close) h = absurd h

-- all are takes and relays
abbrev pub AreOfLane : List Row → Type 0
AreOfLane rows = (row : Row) → table_lists.IsMemberOf row rows → IsOfLane row.event.event

pub lanes_no_nested : (rows : List Row) → AreOfLane rows → HasNoNested (list_of rows)
lanes_no_nested rows lanes e i =
    let found = in_rows rows i in
    subst (λ (x : Entry). is_nested x.event ≡ false) found.is (lane_not_nested found.row.event.event (lanes found.row found.is_in))

lanes_in_order : (rows more : List Row) → AreOfLane more → InOrder (list_of rows) → InOrder (list_of (rows ++ more))
lanes_in_order rows more lanes first =
    subst InOrder (sym (map-append entry_of rows more)) (behind_in_order (list_of rows) (list_of more) (lanes_no_nested more lanes) first)

-- those of sweeps are
pub sweep_of_lane : (config : Config) (threads : ℕ) (range : Option (ℕ × ℕ)) (rows : List Row) → SweepsAlone config threads range rows → AreOfLane rows
sweep_of_lane config zero range rows swept row i =
    rows_in config swept.visits row (subst (λ (xs : List Row). table_lists.IsMemberOf row xs) swept.rows_are i)
sweep_of_lane config (suc more) range rows none row i = elim (subst (λ (xs : List Row). table_lists.IsMemberOf row xs) none i) [ ]

pub swept_of_lane : (config : Config) (index lanes : ℕ) (range : Option (ℕ × ℕ)) (rows : List Row) → HasSwept config index lanes range rows → AreOfLane rows
swept_of_lane config index lanes range rows swept row i =
    rows_in config swept.visits row (subst (λ (xs : List Row). table_lists.IsMemberOf row xs) swept.rows_are i)

-- both are
pub both_of_lane : (xs ys : List Row) → AreOfLane xs → AreOfLane ys → AreOfLane (xs ++ ys)
both_of_lane xs ys first second row i = elim (row_append xs ys i) [ inl j ↦ first row j | inr j ↦ second row j ]

-- and those of all lanes
each_of_lane : (config : Config) (lanes : ℕ) (range : Option (ℕ × ℕ)) (beside : List (List Row))
    → ((i : ℕ) (d : List Row) → i < length beside → (index : ℕ) × IsLane config lanes range index (slice_index_or beside i d)) → AreOfLane (all_of beside)
each_of_lane config lanes range [] are row i = elim i [ ]
each_of_lane config lanes range (rows ∷ more) are row i =
    let first = are 0 rows (omega arith) in
    elim (row_append rows (all_of more) i) [
      | inl j ↦ rows_in config (visits_of first.1.sweeps) row (subst (λ (xs : List Row). table_lists.IsMemberOf row xs) first.1.rows_are j)
      | inr j ↦ each_of_lane config lanes range more (λ k d lt. are (suc k) d (omega (arith, lt))) row j
    ]

pub lanes_of_lane : (config : Config) (lanes : ℕ) (range : Option (ℕ × ℕ)) (beside : List (List Row)) → AreLanes config lanes range beside → AreOfLane (all_of beside)
lanes_of_lane config lanes range beside are = each_of_lane config lanes range beside (λ i d lt. (i, are.are_lanes i d (let many = are.as_many in omega (arith, lt, many))))

-- A turn of the board.

pub board_not_nested : (moment : ℕ) (v : Event) (x : BoardEntry) → board_at moment v ≡ Some x → is_nested v ≡ false
board_not_nested moment (Board b) x is = refl
board_not_nested moment (Cell c) x is = absurd (let k = is in cc)
board_not_nested moment (Box b) x is = absurd (let k = is in cc)

module _ (config : Config) where
  turn_in_order : (before : List Row) (e : BoardEntry) (rows : List Row) → IsBoardTurn config before e rows → InOrder (list_of before) → InOrder (list_of (before ++ rows))
  turn_in_order before e rows t first =
      let ns = list_of t.nested in
      let b = entry_of t.last in
      let last : HasNoNested (b ∷ []) = λ x i. only_last x i in
      subst InOrder (sym list_is)
      (both_in_order (list_of before) (ns ++ b ∷ []) first (behind_in_order ns (b ∷ []) last (λ x y i j n m p k. t.turn.in_order x y i j p k))
      (λ x i n. above x n (in_append ns (b ∷ []) i)))
    where
      only_last : (x : Entry) → In x (entry_of t.last ∷ []) → is_nested x.event ≡ false
      only_last x (here q) =
          ap (λ (y : Entry). is_nested y.event) q ∙ board_not_nested t.last.event.moment t.last.event.event t.turn.entry t.turn.is
      only_last x (there i) = elim i [ ]

      above : (x : Entry) → is_nested x.event ≡ true → In x (list_of t.nested) ⊎ In x (entry_of t.last ∷ []) → IsAbove (list_of before) x.place x.number
      above x n (inl i) = t.turn.above x i
      above x n (inr i) = absurd (let never = only_last x i in cc)

      list_is : list_of (before ++ rows) ≡ list_of before ++ (list_of t.nested ++ entry_of t.last ∷ [])
      list_is =
          ap (λ (xs : List Row). list_of (before ++ xs)) t.rows_are
          ∙ map-append entry_of before (t.nested ++ t.last ∷ [])
          ∙ ap (λ (xs : List Entry). list_of before ++ xs) (map-append entry_of t.nested (t.last ∷ []))

  entry_in_order : (before : List Row) (entry : Option BoardEntry) (rows : List Row) → MakesEntry config before entry rows → InOrder (list_of before)
      → InOrder (list_of (before ++ rows))
  entry_in_order before None rows none first = lanes_in_order before rows (λ row i. elim (subst (λ (xs : List Row). table_lists.IsMemberOf row xs) none i) [ ]) first
  entry_in_order before (Some e) rows turn first = turn_in_order before e rows turn first

  -- All rounds, and the whole run.

  module _ (threads : ℕ) (range : Option (ℕ × ℕ)) where
    rounds_in_order : (rounds : List ControlRound) (rows : List Row) → AreControlRounds config threads range rounds rows → InOrder (list_of rows)
    rounds_in_order [] rows none = subst (λ (xs : List Row). InOrder (list_of xs)) (sym none) nothing_in_order
    rounds_in_order (r ∷ rounds) rows are =
        let before = are.0 in
        let turn = are.1 in
        let sweep = are.2 in
        let tick = are.3 in
        subst (λ (xs : List Row). InOrder (list_of xs)) (sym are.4)
        (entry_in_order ((before ++ turn) ++ sweep) (tick_of (with_request config (history_after config rounds) r) r) tick are.11
        (lanes_in_order (before ++ turn) sweep (sweep_of_lane config threads range sweep are.10)
        (entry_in_order before (entry_due config (history_after config rounds) r.handed r.heard) turn are.9 (rounds_in_order rounds before are.8))))

    pub whole_in_order : (rounds : List ControlRound) (totals : Totals) → (whole : IsWhole config threads range rounds totals) → InOrder (list_of whole.rows)
    whole_in_order rounds totals whole =
        subst (λ (xs : List Row). InOrder (list_of xs)) (sym whole.rows_are)
        (turn_in_order ((whole.in_rounds ++ all_of whole.beside) ++ whole.last_sweep) _ whole.stop whole.is_stop
        (lanes_in_order (whole.in_rounds ++ all_of whole.beside) whole.last_sweep (swept_of_lane config 0 1 range whole.last_sweep whole.is_sweep)
        (lanes_in_order whole.in_rounds (all_of whole.beside) (lanes_of_lane config (lane_count config threads) range whole.beside whole.are_lanes)
        (rounds_in_order rounds whole.in_rounds whole.are_rounds))))

    -- and a whole load
    pub load_in_order : (rounds : List ControlRound) (totals : Totals) → (whole : IsLoadWhole config threads range rounds totals) → InOrder (list_of whole.rows)
    load_in_order rounds totals whole =
        subst (λ (xs : List Row). InOrder (list_of xs)) (sym whole.rows_are)
        (turn_in_order (whole.in_rounds ++ all_of whole.beside) _ whole.stop whole.is_stop
        (lanes_in_order whole.in_rounds (all_of whole.beside) (lanes_of_lane config threads range whole.beside whole.are_lanes)
        (rounds_in_order rounds whole.in_rounds whole.are_rounds)))
