-- Where the relays of a load stand: each after all that the control turns made at its cell, and before all that the stop makes there.
use Rattle.std.proofs.Common.{◌≡◌, ◌∙◌, refl, sym, ap, subst, ℕ, zero, suc, ◌+◌, ◌<◌, ◌≤◌, ◌⊎◌, inl, inr, true, false, cond, Bool, List, [], ◌∷◌, ◌++◌, Option, None, Some, map, length, filter, arith}
use Rattle.std.proofs.lemmas.List.{map-append}
use Rattle.std.proofs.lemmas.Option.{slice_get_within}
use Rattle.std.specs.Prelude.{◌&&◌, ◌==◌, Result, Ok, Err}
use Rattle.relay_outside.specs.declared.settings.Config.{Config}
use Rattle.ng_command.specs.Meanings.{Said, Ping, Offer, Answer, Delete, Query, Listing}
use Rattle.ng_reply.specs.declared.code.ErrorCode.{ErrorCode}
use Rattle.turn_table.specs.declared.view.View.{View}
use Rattle.turn_table.specs.Histories.{times, one_if}
use Rattle.turn_table.specs.Steps.{AreKnown}
use Rattle.turn_table.proofs.Lists.{below_in}
use Rattle.histories.specs.Words.{In, here, there, has}
use Rattle.histories.proofs.Lists.{in_left, in_right, in_append, mapped, maps, spread}
use Rattle.port_pool.specs.declared.reports.LegReport.{LegReport}
use Rattle.port_pool.specs.declared.signal.SectionSignal.{SectionSignal}
use Rattle.port_pool.specs.Boxes.{Close}
use Rattle.call_cell.specs.Cells.{Prepare, Commit, Relay, Relayed, Expire, Read, End}
use Rattle.call_board.specs.Acts as act
use Rattle.call_board.specs.Acts.{Call, Act, Control, BoardEvent, Turn, Tick, Stop, BoardEntry}
use Rattle.call_board.specs.Calls.{live, find_call, is_due_at}
use Rattle.call_board.specs.Pairs.{closed_of}
use Rattle.call_board.specs.Requests.{asked}
use Rattle.relay_core.specs.Entries.{Event, Board, Cell, Box, Entry, is_nested, is_at, board_history}
use Rattle.relay_core.specs.Legal.{Orderly}
use Rattle.relay_core.specs.Records.{Made, entry_of, list_of, as_logged, logged_event, logged_relay}
use Rattle.relay_core.specs.Scripts.{Owed, owed_by, open_owed, closing, in_cell, closings, ending, asking, expiring, reading, reading_out_of_memory, script_of_act, script_of, script}
use Rattle.relay_core.specs.Turns.{Numbered}
use Rattle.relay_core.proofs.Closed.{in_range}
use Rattle.relay_core.proofs.Joins.{not_in_both}
use Rattle.relay_core.proofs.Own.{in_rows, rows_in}
use Rattle.media_lane.specs.Visits.{Row}
use Rattle.board_turns.specs.Stops.{stop_entry}
use Rattle.relay_runs.specs.Loads.{AreBetween}
use Rattle.relay_runs.specs.Rounds.{ControlRound, with_request, tick_of, history_after, entry_due, IsBoardTurn, MakesEntry, AreControlRounds}
use Rattle.relay_runs.specs.Threads.{CountsUp}
use Rattle.relay_runs.proofs.Gates.{nested_no_relay, board_no_relay}
use Rattle.relay_runs.proofs.Orders.{AreOfLane, lanes_no_nested, board_not_nested}

-- What the script of an entry holds.

in_closings : (config : Config) (h : List BoardEntry) (e : BoardEntry) (c : Call) (w : Owed) → In w (closings config h e c) → is_nested w.event ≡ true
in_closings config h e c w i =
    let m = mapped (closing config) (closed_of h e c) i in subst (λ (v : Owed). is_nested v.event ≡ true) m.makes refl

in_ending : (config : Config) (h : List BoardEntry) (e : BoardEntry) (c : Call) (w : Owed) → In w (ending config h e c) → is_nested w.event ≡ true
in_ending config h e c w (here p) = ap (λ (v : Owed). is_nested v.event) p
in_ending config h e c w (there j) = in_closings config h e c w j

in_reading : (o : Option Call) (report : Option (List LegReport)) (w : Owed) → In w (reading o report) → is_nested w.event ≡ true
in_reading None report w i = elim i [ ]
in_reading (Some c) None w i = elim i [ ]
in_reading (Some c) (Some report) w (here p) = ap (λ (v : Owed). is_nested v.event) p
in_reading (Some c) (Some report) w (there j) = elim j [ ]

in_spent : (h : List BoardEntry) (c : Control) (r : Result Said ErrorCode) (w : Owed) → In w (reading_out_of_memory h c r) → is_nested w.event ≡ true
in_spent h c (Ok (Query id)) w i = in_reading (find_call h id) c.given.report w i
in_spent h c (Ok Ping) w i = elim i [ ]
in_spent h c (Ok (Offer id from sdp options)) w i = elim i [ ]
in_spent h c (Ok (Answer id from to sdp options)) w i = elim i [ ]
in_spent h c (Ok (Delete id from fatal seconds)) w i = elim i [ ]
in_spent h c (Ok (Listing limit)) w i = elim i [ ]
in_spent h c (Err code) w i = elim i [ ]

module _ (config : Config) (h : List BoardEntry) (e : BoardEntry) where
  in_offer : (o : act.Offer) (w : Owed) → In w (map (open_owed config) o.legs) ⊎ In w (in_cell o.of (Prepare o.of.number o.legs o.keys o.dropped) ∷ closings config h e o.of)
      → is_nested w.event ≡ true
  in_offer o w (inl i) = (let m = mapped (open_owed config) o.legs i in subst (λ (v : Owed). is_nested v.event ≡ true) m.makes refl)
  in_offer o w (inr (here p)) = ap (λ (v : Owed). is_nested v.event) p
  in_offer o w (inr (there j)) = in_closings config h e o.of w j

  in_act : (c : Control) (a : Act) (w : Owed) → In w (script_of_act config h e c a) → is_nested w.event ≡ true
  in_act c act.Repeated w i = elim i [ ]
  in_act c act.OutOfMemory w i = in_spent h c (asked config c.too_long c.pairs) w i
  in_act c (act.Failed code) w i = elim i [ ]
  in_act c (act.Undone code leases draws) w i = elim i [ ]
  in_act c (act.Offered o) w i =
      in_offer o w (in_append (map (open_owed config) o.legs) (in_cell o.of (Prepare o.of.number o.legs o.keys o.dropped) ∷ closings config h e o.of) i)
  in_act c (act.Answered a) w (here p) = ap (λ (v : Owed). is_nested v.event) p
  in_act c (act.Answered a) w (there j) = in_closings config h e a.of w j
  in_act c (act.Deleted of) w i = in_ending config h e of w i
  in_act c (act.Queried of) w i = in_reading (Some of) c.given.report w i
  in_act c act.Told w i = elim i [ ]
  in_act c (act.Delayed of s) w i = elim i [ ]

  in_timed_out : (c : Call) (timed_out : Bool) (w : Owed) → In w (cond timed_out (ending config h e c) []) → is_nested w.event ≡ true
  in_timed_out c true w i = in_ending config h e c w i
  in_timed_out c false w i = elim i [ ]

  in_asking : (c : Call) (timed_out : Bool) (w : Owed) → In w (asking config h e c timed_out) → is_nested w.event ≡ true
  in_asking c timed_out w (here p) = ap (λ (v : Owed). is_nested v.event) p
  in_asking c timed_out w (there j) = in_timed_out c timed_out w j

  in_due : (c : Call) (due timed_out : Bool) (w : Owed) → In w (cond due (ending config h e c) (asking config h e c timed_out)) → is_nested w.event ≡ true
  in_due c true timed_out w i = in_ending config h e c w i
  in_due c false timed_out w i = in_asking c timed_out w i

  in_expiring : (calls : List Call) (c : Call) (w : Owed) → In w (expiring config h e calls c) → is_nested w.event ≡ true
  in_expiring calls c w i = in_due c (is_due_at h c.number e.moment) (has (map (λ (d : Call). d.number) calls) c.number) w i

  in_script : (v : BoardEvent) (w : Owed) → In w (script_of config h e v) → is_nested w.event ≡ true
  in_script (Turn c) w i = in_act c c.act w i
  in_script (Tick calls) w i = (let s = spread (expiring config h e calls) (live h) i in in_expiring calls s.from w s.has_it)
  in_script (Stop calls) w i = (let s = spread (ending config h e) calls i in in_ending config h e s.from w s.has_it)

-- no Commit is owed by a stop
module _ (config : Config) (h : List BoardEntry) (e : BoardEntry) where
  not_ending : (c : Call) (w : Owed) (signal : List SectionSignal) → In w (ending config h e c) → w.event ≡ Cell (Commit signal) → ⊥
  not_ending c w signal (here p) q = absurd (let k : Cell End ≡ Cell (Commit signal) = sym (ap (λ (v : Owed). v.event) p) ∙ q in cc)
  not_ending c w signal (there j) q =
      let m = mapped (closing config) (closed_of h e c) j in
      absurd (let k : Box Close ≡ Cell (Commit signal) = ap (λ (v : Owed). v.event) m.makes ∙ q in cc)

  not_stopping : (calls : List Call) (w : Owed) (signal : List SectionSignal) → In w (script_of config h e (Stop calls)) → w.event ≡ Cell (Commit signal) → ⊥
  not_stopping calls w signal i q = (let s = spread (ending config h e) calls i in not_ending s.from w signal s.has_it q)

-- A turn of the board relays nothing.

module _ (config : Config) where
  turn_nested : (before : List Row) (e : BoardEntry) (rows : List Row) → (t : IsBoardTurn config before e rows) → (f : Entry) → In f (list_of t.nested) → is_nested f.event ≡ true
  turn_nested before e rows t f i =
      in_script config (board_history (list_of before) (entry_of t.last).number) t.turn.entry t.turn.entry.event (owed_by f)
      (subst (λ (ws : List Owed). In (owed_by f) ws) t.turn.owes (maps owed_by (list_of t.nested) i))

  -- the entries of a turn: the nested ones, and the board's own
  pub turn_parts : (before : List Row) (e : BoardEntry) (rows : List Row) → (t : IsBoardTurn config before e rows) → (f : Entry) → In f (list_of rows)
      → In f (list_of t.nested) ⊎ (f ≡ entry_of t.last)
  turn_parts before e rows t f i =
      by_part (in_append (list_of t.nested) (entry_of t.last ∷ [])
      (subst (λ (l : List Entry). In f l) (ap (λ (xs : List Row). list_of xs) t.rows_are ∙ map-append entry_of t.nested (t.last ∷ [])) i))
    where
      by_part : In f (list_of t.nested) ⊎ In f (entry_of t.last ∷ []) → In f (list_of t.nested) ⊎ (f ≡ entry_of t.last)
      by_part (inl j) = inl j
      by_part (inr (here q)) = inr q
      by_part (inr (there j)) = elim j [ ]

  last_not_nested : (before : List Row) (e : BoardEntry) (rows : List Row) → (t : IsBoardTurn config before e rows) → is_nested (entry_of t.last).event ≡ false
  last_not_nested before e rows t = board_not_nested (entry_of t.last).moment (entry_of t.last).event t.turn.entry t.turn.is

  abbrev RelaysNone : List Row → Type 0
  RelaysNone rows = (f : Entry) (x : Relayed) → In f (list_of rows) → f.event ≡ Cell (Relay x) → ⊥

  none_both : (xs ys : List Row) → RelaysNone xs → RelaysNone ys → RelaysNone (xs ++ ys)
  none_both xs ys first second f x i q =
      by_part (in_append (list_of xs) (list_of ys) (subst (λ (l : List Entry). In f l) (map-append entry_of xs ys) i))
    where
      by_part : In f (list_of xs) ⊎ In f (list_of ys) → ⊥
      by_part (inl j) = first f x j q
      by_part (inr j) = second f x j q

  turn_none : (before : List Row) (e : BoardEntry) (rows : List Row) → IsBoardTurn config before e rows → RelaysNone rows
  turn_none before e rows t f x i q = by_part (turn_parts before e rows t f i)
    where
      by_part : In f (list_of t.nested) ⊎ (f ≡ entry_of t.last) → ⊥
      by_part (inl j) = nested_no_relay f.event x (turn_nested before e rows t f j) q
      by_part (inr is) = board_no_relay (entry_of t.last).moment (entry_of t.last).event t.turn.entry x t.turn.is (sym (ap (λ (y : Entry). y.event) is) ∙ q)

  nothing_none : (rows : List Row) → rows ≡ [] → RelaysNone rows
  nothing_none rows none f x i q = elim (subst (λ (xs : List Row). In f (list_of xs)) none i) [ ]

  entry_none : (before : List Row) (entry : Option BoardEntry) (rows : List Row) → MakesEntry config before entry rows → RelaysNone rows
  entry_none before None rows none = nothing_none rows none
  entry_none before (Some e) rows turn = turn_none before e rows turn

  -- where threads relay media, the main hand relays nothing
  rounds_none : (more : ℕ) (range : Option (ℕ × ℕ)) (rounds : List ControlRound) (rows : List Row) → AreControlRounds config (suc more) range rounds rows → RelaysNone rows
  rounds_none more range [] rows none = nothing_none rows none
  rounds_none more range (r ∷ rounds) rows are =
      let before = are.0 in
      let turn = are.1 in
      let sweep = are.2 in
      let tick = are.3 in
      let h = history_after config rounds in
      subst (λ (xs : List Row). RelaysNone xs) (sym are.4)
      (none_both ((before ++ turn) ++ sweep) tick
      (none_both (before ++ turn) sweep
      (none_both before turn (rounds_none more range rounds before are.8) (entry_none before (entry_due config h r.handed r.heard) turn are.9))
      (nothing_none sweep are.10))
      (entry_none ((before ++ turn) ++ sweep) (tick_of (with_request config h r) r) tick are.11))

  main_none : (threads : ℕ) (range : Option (ℕ × ℕ)) (rounds : List ControlRound) (rows : List Row) → 0 < threads → AreControlRounds config threads range rounds rows → RelaysNone rows
  main_none zero range rounds rows some are = absurd (omega (arith, some))
  main_none (suc more) range rounds rows some are = rounds_none more range rounds rows are

-- What a hand with all parts knows of its list.

count_case : (k i : ℕ) (row : Row) (rows : List Row) (n : ℕ) → length (filter (is_at k i) (list_of rows)) ≡ n
    → (t : Bool) → length (cond t (entry_of row ∷ filter (is_at k i) (list_of rows)) (filter (is_at k i) (list_of rows))) ≡ one_if t + n
count_case k i row rows n rest true = omega (arith, rest)
count_case k i row rows n rest false = omega (arith, rest)

count_is : (k i : ℕ) (rows : List Row) → length (filter (is_at k i) (list_of rows)) ≡ times k i rows
count_is k i [] = refl
count_is k i (row ∷ rows) = count_case k i row rows (times k i rows) (count_is k i rows) ((row.place == k) && (row.number == i))

module _ {S : Type 0} (v : View S Made (Unit {0})) (known : AreKnown v) where
  pub known_numbered : Numbered (list_of v.entries)
  known_numbered e i =
      let r = in_rows v.entries i in
      let a = in_range v.starts r.row.place (known.range r.row r.is_in) in
      let h = known.histories r.row.place a.0 a.1 in
      let at = h.1.own r.row r.is_in refl in
      subst (λ (x : Entry). length (filter (is_at x.place x.number) (list_of v.entries)) ≡ 1) r.is
      (count_is r.row.place r.row.number v.entries ∙ h.1.once r.row.number ∙ below_in r.row.number (length h.0) (slice_get_within h.0 r.row.number r.row at))

  pub known_counted : CountsUp (list_of v.entries)
  known_counted e n i low =
      let r = in_rows v.entries i in
      let place : r.row.place ≡ e.place = ap (λ (x : Entry). x.place) r.is in
      let number : r.row.number ≡ e.number = ap (λ (x : Entry). x.number) r.is in
      let a = in_range v.starts r.row.place (known.range r.row r.is_in) in
      let h = known.histories r.row.place a.0 a.1 in
      let within = slice_get_within h.0 r.row.number r.row (h.1.own r.row r.is_in refl) in
      let f = in_range h.0 n (omega (arith, low, number, within)) in
      let named = h.1.named n f.0 f.1 in
      (entry_of f.0, rows_in v.entries (h.1.all n f.0 f.1), named.0 ∙ place, named.1)

-- Relays between turns of the board.

told_nested : (v : Event) → is_nested (logged_event v) ≡ is_nested v
told_nested (Board b) = refl
told_nested (Cell (Prepare call legs keys dropped)) = refl
told_nested (Cell (Commit signal)) = refl
told_nested (Cell (Relay x)) = refl
told_nested (Cell (Expire due)) = refl
told_nested (Cell (Read reports)) = refl
told_nested (Cell End) = refl
told_nested (Box b) = refl

-- where an entry of the list stands: of the control turns, of the threads, among those that the stop owes, or the stop's own
data Stands (main beside nested : List Entry) (b e : Entry) : Type 0 where
  of_main : In e main → Stands main beside nested b e
  of_thread : In e beside → Stands main beside nested b e
  of_stop : In e nested → Stands main beside nested b e
  is_stop : e ≡ b → Stands main beside nested b e

pub low_or : (a b : ℕ) → (a < b) ⊎ (b ≤ a)
low_or a b = grind arith

module _ (config : Config) (threads : ℕ) (range : Option (ℕ × ℕ)) (some : 0 < threads) (rounds : List ControlRound) (h : List BoardEntry) (main beside stop : List Row)
    (are : AreControlRounds config threads range rounds main) (orderly : Orderly config (list_of main)) (counted : CountsUp (list_of main)) (lanes : AreOfLane beside)
    (numbered : Numbered (list_of (main ++ beside))) (t : IsBoardTurn config (main ++ beside) (stop_entry h) stop) where
  abbrev number : ℕ
  number = t.last.number

  abbrev Part : Entry → Type 0
  Part e = Stands (list_of main) (list_of beside) (list_of t.nested) (entry_of t.last) e

  both : list_of (main ++ beside) ≡ list_of main ++ list_of beside
  both = map-append entry_of main beside

  part_of : (e : Entry) → In e (list_of ((main ++ beside) ++ stop)) → Part e
  part_of e i = outer (in_append (list_of (main ++ beside)) (list_of stop) (subst (λ (l : List Entry). In e l) (map-append entry_of (main ++ beside) stop) i))
    where
      inner : In e (list_of main) ⊎ In e (list_of beside) → Part e
      inner (inl j) = of_main j
      inner (inr j) = of_thread j

      last : In e (list_of t.nested) ⊎ (e ≡ entry_of t.last) → Part e
      last (inl j) = of_stop j
      last (inr q) = is_stop q

      outer : In e (list_of (main ++ beside)) ⊎ In e (list_of stop) → Part e
      outer (inl j) = inner (in_append (list_of main) (list_of beside) (subst (λ (l : List Entry). In e l) both j))
      outer (inr j) = last (turn_parts config (main ++ beside) (stop_entry h) stop t e j)

  thread_not_nested : (e : Entry) → In e (list_of beside) → is_nested e.event ≡ false
  thread_not_nested e i = lanes_no_nested beside lanes e i

  -- each relay is a thread's
  relay_of : (e : Entry) (x : Relayed) → e.event ≡ Cell (Relay x) → Part e → In e (list_of beside)
  relay_of e x q (of_main i) = absurd (main_none config threads range rounds main some are e x i q)
  relay_of e x q (of_thread i) = i
  relay_of e x q (of_stop i) = absurd (nested_no_relay e.event x (turn_nested config (main ++ beside) (stop_entry h) stop t e i) q)
  relay_of e x q (is_stop is) =
      absurd (board_no_relay (entry_of t.last).moment (entry_of t.last).event t.turn.entry x t.turn.is (sym (ap (λ (y : Entry). y.event) is) ∙ q))

  -- a nested entry of the control turns belongs to an earlier entry of the board than the stop
  main_below : (f : Entry) → In f (list_of main) → is_nested f.event ≡ true → f.board < number
  main_below f i nested =
      let b = orderly.nested f i nested in
      let there_too : In b.0 (list_of (main ++ beside)) = subst (λ (l : List Entry). In b.0 l) (sym both) (in_left (list_of main) (list_of beside) b.1) in
      let low = t.turn.at_front b.0 there_too b.2 in
      let is = b.3 in
      omega (arith, low, is)

  -- of the control turns and the threads: the numbers of the control turns at a place run from 0, and no entry of a thread has one of them
  thread_after : (e f : Entry) → In e (list_of beside) → In f (list_of main) → f.place ≡ e.place → f.number < e.number
  thread_after e f i j p = by_case (low_or f.number e.number)
    where
      by_case : (f.number < e.number) ⊎ (e.number ≤ f.number) → f.number < e.number
      by_case (inl low) = low
      by_case (inr high) =
          let g = counted f e.number j high in
          absurd (not_in_both (list_of main) (list_of beside) (subst Numbered both numbered) g.0 e g.1 i (g.2 ∙ p) g.3)

  thread_before : (e f : Entry) → In e (list_of beside) → In f (list_of t.nested) → f.place ≡ e.place → e.number < f.number
  thread_before e f i j p =
      t.turn.above f j e (subst (λ (l : List Entry). In e l) (sym both) (in_right (list_of main) (list_of beside) i)) (sym p)

  after_case : (e f : Entry) → In e (list_of beside) → is_nested f.event ≡ true → f.place ≡ e.place → f.board < number → Part f → f.number < e.number
  after_case e f i nested p low (of_main j) = thread_after e f i j p
  after_case e f i nested p low (of_thread j) = absurd (let k : false ≡ true = sym (thread_not_nested f j) ∙ nested in cc)
  after_case e f i nested p low (of_stop j) = absurd (let k = t.turn.of_board f j in omega (arith, k, low))
  after_case e f i nested p low (is_stop is) =
      absurd (let k : false ≡ true = sym (last_not_nested config (main ++ beside) (stop_entry h) stop t) ∙ sym (ap (λ (y : Entry). is_nested y.event) is) ∙ nested in cc)

  before_case : (e f : Entry) → In e (list_of beside) → is_nested f.event ≡ true → f.place ≡ e.place → f.board ≡ number → Part f → e.number < f.number
  before_case e f i nested p is_last (of_main j) = absurd (let k = main_below f j nested in omega (arith, k, is_last))
  before_case e f i nested p is_last (of_thread j) = absurd (let k : false ≡ true = sym (thread_not_nested f j) ∙ nested in cc)
  before_case e f i nested p is_last (of_stop j) = thread_before e f i j p
  before_case e f i nested p is_last (is_stop is) =
      absurd (let k : false ≡ true = sym (last_not_nested config (main ++ beside) (stop_entry h) stop t) ∙ sym (ap (λ (y : Entry). is_nested y.event) is) ∙ nested in cc)

  -- a commit is made by a control turn
  commit_case : (f : Entry) (signal : List SectionSignal) → f.event ≡ Cell (Commit signal) → Part f → f.board < number
  commit_case f signal q (of_main j) = main_below f j (ap (λ (v : Event). is_nested v) q)
  commit_case f signal q (of_thread j) = absurd (let k : false ≡ true = sym (thread_not_nested f j) ∙ ap (λ (v : Event). is_nested v) q in cc)
  commit_case f signal q (of_stop j) = absurd (let owed = subst (λ (ws : List Owed). In (owed_by f) ws) t.turn.owes (maps owed_by (list_of t.nested) j) in stop_case t.turn.entry refl owed)
    where
      past : List BoardEntry
      past = board_history (list_of (main ++ beside)) (entry_of t.last).number

      is_the_stop : t.turn.entry ≡ stop_entry h
      is_the_stop = let k : Some t.turn.entry ≡ Some (stop_entry h) = sym t.turn.is ∙ t.is in cc

      stop_case : (x : BoardEntry) → x ≡ t.turn.entry → In (owed_by f) (script config past x) → ⊥
      stop_case x is owed =
          not_stopping config past (stop_entry h) (live h) (owed_by f) signal
          (subst (λ (y : BoardEntry). In (owed_by f) (script config past y)) (is ∙ is_the_stop) owed) q
  commit_case f signal q (is_stop is) =
      absurd (let k : false ≡ true = sym (last_not_nested config (main ++ beside) (stop_entry h) stop t) ∙ sym (ap (λ (y : Entry). is_nested y.event) is) ∙ ap (λ (v : Event). is_nested v) q in cc)

  -- what is recorded of the whole list is these rows
  module _ (l : List Entry) (told_is : map as_logged l ≡ list_of ((main ++ beside) ++ stop)) where
    part_in : (e : Entry) → In e l → Part (as_logged e)
    part_in e i = part_of (as_logged e) (subst (λ (xs : List Entry). In (as_logged e) xs) told_is (maps as_logged l i))

    relay_in : (e : Entry) (x : Relayed) → In e l → e.event ≡ Cell (Relay x) → In (as_logged e) (list_of beside)
    relay_in e x i q = relay_of (as_logged e) (logged_relay x.packet x.deed.outcome) (ap (λ (v : Event). logged_event v) q) (part_in e i)

    pub relays_between : AreBetween l number
    relays_between = record {
      after_commits = λ e f x signal i j q r p.
          after_case (as_logged e) (as_logged f) (relay_in e x i q) (told_nested f.event ∙ ap (λ (v : Event). is_nested v) r) p
          (commit_case (as_logged f) signal (ap (λ (v : Event). logged_event v) r) (part_in f j)) (part_in f j);
      after_turns = λ e f x i j q nested p low. after_case (as_logged e) (as_logged f) (relay_in e x i q) (told_nested f.event ∙ nested) p low (part_in f j);
      before_stop = λ e f x i j q nested p is. before_case (as_logged e) (as_logged f) (relay_in e x i q) (told_nested f.event ∙ nested) p is (part_in f j);
    }
