-- The Ends of a load are those of its stop: no entry of its control turns ends a call.
use Rattle.std.proofs.Common.{◌≡◌, ◌∙◌, refl, sym, ap, subst, ℕ, ◌+◌, ◌*◌, ◌<◌, ◌≤◌, ◌^◌, ◌==◌, ◌⊎◌, inl, inr, zero, suc, true, false, Bool, List, [], ◌∷◌, ◌++◌, length, map, Option, None, Some, Result, Ok, Err, nat_lt, arith}
use Rattle.std.specs.Prelude.{◌&&◌, nat_le, is_some, slice_index_or}
use Rattle.std.specs.List.{list_all}
use Rattle.std.specs.Option.{option_map}
use Rattle.std.proofs.lemmas.Bool.Decides.{nat_tests}
use Rattle.std.proofs.lemmas.List.{length-append, map-append}
use Rattle.std.proofs.lemmas.List.Folds.{list_all-append}
use Rattle.relay_outside.specs.declared.address.Addr.{Addr}
use Rattle.relay_outside.specs.declared.link.LinkCall.{LinkCall}
use Rattle.relay_outside.specs.declared.link.LinkCall.TheVariants as call
use Rattle.relay_outside.specs.declared.link.LinkGiven.{LinkGiven}
use Rattle.relay_outside.specs.declared.link.LinkGiven.TheVariants as given
use Rattle.relay_outside.specs.declared.settings.Config.{Config}
use Rattle.relay_outside.specs.Link.{datagram_of}
use Rattle.turn_table.specs.Histories as table_lists
use Rattle.histories.specs.Words.{In, here, there}
use Rattle.histories.proofs.Lists.{in_left, in_right, in_append, mapped, maps, picks}
use Rattle.ng_bencode.specs.Spells.{spelling}
use Rattle.ng_command.specs.Meanings.{Said, Ping, Offer, Answer, Delete, Query, Listing}
use Rattle.ng_frame.specs.Frame.{frame}
use Rattle.ng_frame.proofs.Framed.{frame_real}
use Rattle.ng_reply.specs.declared.code.ErrorCode.{ErrorCode}
use Rattle.port_pool.specs.declared.reports.LegReport.{LegReport}
use Rattle.port_pool.specs.Boxes.{Close}
use Rattle.call_cell.specs.Cells.{Prepare, Commit, Read, End}
use Rattle.call_board.specs.Acts as act
use Rattle.call_board.specs.Acts.{Call, Act, Control, Turn, BoardEntry}
use Rattle.call_board.specs.Answers.{answering_unless}
use Rattle.call_board.specs.Requests.{asked}
use Rattle.call_board.specs.Calls.{find_call}
use Rattle.call_board.specs.Fits.{FitsBoard}
use Rattle.call_board.specs.KeptReplies.{kept_reply}
use Rattle.call_board.specs.Pairs.{closed_of}
use Rattle.relay_core.specs.Entries.{Event, Cell, Box, Entry, is_nested, board_at, board_history}
use Rattle.relay_core.specs.Records.{entry_of, list_of, as_logged, logged_event}
use Rattle.relay_core.specs.Scripts.{Owed, owed_by, open_owed, closing, in_cell, closings, reading, reading_out_of_memory, script_of_act, script}
use Rattle.relay_core.specs.Turns.{IsOfLane}
use Rattle.relay_core.proofs.Own.{in_rows}
use Rattle.load_maker.specs.Datagrams.{body_of, controller, datagram_with, first_datagrams}
use Rattle.load_maker.specs.Links.{LogsLoad}
use Rattle.media_lane.specs.declared.answers.Totals.{Totals}
use Rattle.media_lane.specs.SweepLoops.{visits_of}
use Rattle.media_lane.specs.Visits.{Row, Visit, all_rows}
use Rattle.media_lane.proofs.Sweeps.{rows_in}
use Rattle.board_turns.specs.Controls.{RequestRecord, unanswered, control_of, moment_at, entry_at}
use Rattle.board_turns.specs.Ticks.{tick_entry}
use Rattle.ng_server.specs.ControlTurns.{is_too_long, DidReply, DidFollow, DidTurn}
use Rattle.ng_server.specs.declared.control_turn.ControlTurn.{ControlTurn}
use Rattle.command_line.specs.declared.settings.LoadSettings.{LoadSettings}
use Rattle.relay_runs.specs.declared.status.Status.TheVariants as status
use Rattle.relay_runs.specs.Loads.{RunsLoad}
use Rattle.relay_runs.specs.Rounds.{ControlRound, with_request, tick_of, history_after, entry_due, moments, counted_from, is_second_later, is_tick_due, IsBoardTurn, MakesEntry, SweepsAlone, AreControlRounds, IsLane, all_of}
use Rattle.relay_runs.specs.ServeRuns.{AreExchanges, AreCalls, last_take}
use Rattle.run_laws.specs.LoadEnds.{HasEndsBy, AreBeforeEnds}
use Rattle.run_laws.proofs.Bodies.{framed_body}
use Rattle.run_laws.proofs.Causes.{gained}
use Rattle.run_laws.proofs.Deletes.{EndsNone, acts_none}

-- What a datagram owes that ends no call: no End.

module _ (config : Config) (h : List BoardEntry) (e : BoardEntry) where
  in_closings : (c : Call) (w : Owed) → In w (closings config h e c) → w.event ≡ Cell End → ⊥
  in_closings c w i q =
      let m = mapped (closing config) (closed_of h e c) i in
      let k : Box Close ≡ Cell End = ap (λ (v : Owed). v.event) m.makes ∙ q in
      cc

  in_reading : (o : Option Call) (report : Option (List LegReport)) (w : Owed) → In w (reading o report) → w.event ≡ Cell End → ⊥
  in_reading None report w i q = elim i [ ]
  in_reading (Some c) None w i q = elim i [ ]
  in_reading (Some c) (Some report) w (here p) q = (let k : Cell (Read report) ≡ Cell End = sym (ap (λ (v : Owed). v.event) p) ∙ q in cc)
  in_reading (Some c) (Some report) w (there j) q = elim j [ ]

  in_spent : (c : Control) (says : Result Said ErrorCode) (w : Owed) → In w (reading_out_of_memory h c says) → w.event ≡ Cell End → ⊥
  in_spent c (Ok (Query id)) w i q = in_reading (find_call h id) c.given.report w i q
  in_spent c (Ok Ping) w i q = elim i [ ]
  in_spent c (Ok (Offer id from sdp options)) w i q = elim i [ ]
  in_spent c (Ok (Answer id from to sdp options)) w i q = elim i [ ]
  in_spent c (Ok (Delete id from fatal seconds)) w i q = elim i [ ]
  in_spent c (Ok (Listing limit)) w i q = elim i [ ]
  in_spent c (Err code) w i q = elim i [ ]

  in_offer : (o : act.Offer) (w : Owed) → In w (map (open_owed config) o.legs) ⊎ In w (in_cell o.of (Prepare o.of.number o.legs o.keys o.dropped) ∷ closings config h e o.of)
      → w.event ≡ Cell End → ⊥
  in_offer o w (inl i) q =
      let m = mapped (open_owed config) o.legs i in
      let k = ap (λ (v : Owed). v.event) m.makes ∙ q in
      cc
  in_offer o w (inr (here p)) q =
      let k : Cell (Prepare o.of.number o.legs o.keys o.dropped) ≡ Cell End = sym (ap (λ (v : Owed). v.event) p) ∙ q in
      cc
  in_offer o w (inr (there j)) q = in_closings o.of w j q

  in_act : (c : Control) (a : Act) (w : Owed) → EndsNone a → In w (script_of_act config h e c a) → w.event ≡ Cell End → ⊥
  in_act c act.Repeated w none i q = elim i [ ]
  in_act c act.OutOfMemory w none i q = in_spent c (asked config c.too_long c.pairs) w i q
  in_act c (act.Failed code) w none i q = elim i [ ]
  in_act c (act.Undone code leases draws) w none i q = elim i [ ]
  in_act c (act.Offered o) w none i q =
      in_offer o w (in_append (map (open_owed config) o.legs) (in_cell o.of (Prepare o.of.number o.legs o.keys o.dropped) ∷ closings config h e o.of) i) q
  in_act c (act.Answered a) w none (here p) q = (let k : Cell (Commit a.signal) ≡ Cell End = sym (ap (λ (v : Owed). v.event) p) ∙ q in cc)
  in_act c (act.Answered a) w none (there j) q = in_closings a.of w j q
  in_act c (act.Deleted of) w none i q = none
  in_act c (act.Queried of) w none i q = in_reading (Some of) c.given.report w i q
  in_act c act.Told w none i q = elim i [ ]
  in_act c (act.Delayed of s) w none i q = elim i [ ]

-- What the link of a load gave.

-- what is recorded is a datagram of a load
record IsOfLoad (x : RequestRecord) : Type 0 where
  number : ℕ
  body_is : x.body ≡ spelling (body_of number)
  short : x.too_long ≡ false → length x.body < 2 ^ 64

abbrev IsGenerated : List ℕ → Type 0
IsGenerated bytes = (number : ℕ) × (bytes ≡ datagram_with number)

-- each datagram that these calls took is one of a load
abbrev TakesGenerated : List LinkCall → Type 0
TakesGenerated calls = (room : ℕ) (from : Addr) (bytes : List ℕ) → In (call.Take room (given.Datagram from bytes)) calls → IsGenerated bytes

first_case : (count : ℕ) (from : Addr) (bytes : List ℕ) (before : List (Addr × List ℕ)) → (In {A = Addr × List ℕ} (from, bytes) before → IsGenerated bytes)
    → In {A = Addr × List ℕ} (from, bytes) before ⊎ In {A = Addr × List ℕ} (from, bytes) ((controller, datagram_with count) ∷ []) → IsGenerated bytes
first_case count from bytes before rest (inl i) = rest i
first_case count from bytes before rest (inr (here e)) = (count, ap (λ (pair : Addr × List ℕ). pair.1) e)
first_case count from bytes before rest (inr (there i)) = elim i [ ]

in_first : (count : ℕ) (from : Addr) (bytes : List ℕ) → In {A = Addr × List ℕ} (from, bytes) (first_datagrams count) → IsGenerated bytes
unfolding first_datagrams
in_first zero from bytes i = elim i [ ]
in_first (suc count) from bytes i =
    first_case count from bytes (first_datagrams count) (λ j. in_first count from bytes j) (in_append (first_datagrams count) ((controller, datagram_with count) ∷ []) i)

tells_generated : (count : ℕ) (well : Bool) (calls : List LinkCall) → LogsLoad count well calls → TakesGenerated calls
tells_generated count well calls tells room from bytes i =
    in_first count from bytes
    (subst (λ (l : List (Addr × List ℕ)). In {A = Addr × List ℕ} (from, bytes) l) tells.taken (picks datagram_of calls i refl))

small_body : (cookie body datagram : List ℕ) → datagram ≡ cookie ++ 32 ∷ body → is_too_long datagram ≡ false → length body < 2 ^ 64
small_body cookie body datagram is fits =
    let whole : length datagram ≡ length cookie + length (32 ∷ body) = ap length is ∙ length-append cookie (32 ∷ body) in
    let low : length datagram ≤ 16384 = low_of (length datagram) fits in
    omega (arith, whole, low)
  where
    low_of : (n : ℕ) → nat_lt 16384 n ≡ false → n ≤ 16384
    low_of n e = grind (arith, nat_tests)

module _ (config : Config) (h : List BoardEntry) (now : ℕ) (answer : ControlTurn) (x : RequestRecord) (sends : List LinkCall) where
  in_reply : (from : Addr) (datagram : List ℕ) → IsGenerated datagram → (parts : Option (List ℕ × List ℕ)) → frame datagram ≡ parts
      → DidReply config h now from parts (is_too_long datagram) answer (Some x) sends → IsOfLoad x
  in_reply from datagram is None framed did = absurd (let k : Some x ≡ None = did.1 in cc)
  in_reply from datagram is (Some parts) framed did = record {
    number = is.0;
    body_is = did.body_is ∙ framed_body is.0 parts (ap frame (sym is.1) ∙ framed);
    short = λ fits.
        subst (λ (body : List ℕ). length body < 2 ^ 64) (sym did.body_is)
        (small_body parts.0 parts.1 datagram (frame_real datagram parts.0 parts.1 framed).bytes (sym did.length_is ∙ fits));
  }

  in_take : (gave : LinkGiven) → ((from : Addr) (bytes : List ℕ) → gave ≡ given.Datagram from bytes → IsGenerated bytes)
      → DidFollow config h now gave answer (Some x) sends → IsOfLoad x
  in_take (given.Datagram from datagram) is did = in_reply from datagram (is from datagram refl) (frame datagram) refl did
  in_take given.Nothing is did = absurd (let k : Some x ≡ None = did.1 in cc)
  in_take given.End is did = absurd (let k : Some x ≡ None = did.1 in cc)
  in_take given.Failed is did = absurd (let k : Some x ≡ None = did.1 in cc)

heard_of_load : (config : Config) (h : List BoardEntry) (now : ℕ) (answer : ControlTurn) (x : RequestRecord) (calls : List LinkCall) → DidTurn config h now answer (Some x) calls
    → TakesGenerated calls → IsOfLoad x
heard_of_load config h now answer x calls did takes = in_take config h now answer x did.sends did.gave is_generated did.followed
  where
    is_generated : (from : Addr) (bytes : List ℕ) → did.gave ≡ given.Datagram from bytes → IsGenerated bytes
    is_generated from bytes e =
        takes 16385 from bytes
        (subst (λ (l : List LinkCall). In (call.Take 16385 (given.Datagram from bytes)) l) (sym did.calls_are) (here (ap (λ (g : LinkGiven). call.Take 16385 g) (sym e))))

-- The rows of the rounds.

-- none of the rows is an End
abbrev HasNoEnd : List Row → Type 0
HasNoEnd rows = (f : Entry) → In f (list_of rows) → f.event ≡ Cell End → ⊥

board_no_end : (moment : ℕ) (v : Event) (x : BoardEntry) → board_at moment v ≡ Some x → v ≡ Cell End → ⊥
board_no_end moment v x at is = (let k : None ≡ Some x = ap (λ (w : Event). board_at moment w) (sym is) ∙ at in cc)

none_both : (xs ys : List Row) → HasNoEnd xs → HasNoEnd ys → HasNoEnd (xs ++ ys)
none_both xs ys first second f i q =
    by_part (in_append (list_of xs) (list_of ys) (subst (λ (l : List Entry). In f l) (map-append entry_of xs ys) i))
  where
    by_part : In f (list_of xs) ⊎ In f (list_of ys) → ⊥
    by_part (inl j) = first f j q
    by_part (inr j) = second f j q

nothing_none : (rows : List Row) → rows ≡ [] → HasNoEnd rows
nothing_none rows none f i q = elim (subst (λ (xs : List Row). In f (list_of xs)) none i) [ ]

-- a take or a relay is none
lane_no_end : (v : Event) → IsOfLane v → v ≡ Cell End → ⊥
lane_no_end v lane is = subst (λ (w : Event). IsOfLane w) is lane

visits_none : (config : Config) (visits : List Visit) (rows : List Row) → rows ≡ all_rows config visits → HasNoEnd rows
visits_none config visits rows are f i q =
    let found = in_rows rows i in
    lane_no_end found.row.event.event
    (rows_in config visits found.row (subst (λ (xs : List Row). table_lists.IsMemberOf found.row xs) are found.is_in))
    (ap (λ (y : Entry). y.event) found.is ∙ q)

sweep_none : (config : Config) (threads : ℕ) (range : Option (ℕ × ℕ)) (rows : List Row) → SweepsAlone config threads range rows → HasNoEnd rows
sweep_none config zero range rows swept = visits_none config swept.visits rows swept.rows_are
sweep_none config (suc more) range rows none = nothing_none rows none

lanes_none : (config : Config) (lanes : ℕ) (range : Option (ℕ × ℕ)) (beside : List (List Row))
    → ((i : ℕ) (d : List Row) → i < length beside → (index : ℕ) × IsLane config lanes range index (slice_index_or beside i d)) → HasNoEnd (all_of beside)
lanes_none config lanes range [] are = nothing_none [] refl
lanes_none config lanes range (rows ∷ more) are =
    let first = are 0 rows (omega arith) in
    none_both rows (all_of more) (visits_none config (visits_of first.1.sweeps) rows first.1.rows_are)
    (lanes_none config lanes range more (λ i d lt. are (suc i) d (omega (arith, lt))))

-- the entries of a turn: the nested ones, and the board's own
turn_parts : (config : Config) (before : List Row) (e : BoardEntry) (rows : List Row) → (t : IsBoardTurn config before e rows) → (f : Entry) → In f (list_of rows)
    → In f (list_of t.nested) ⊎ (f ≡ entry_of t.last)
turn_parts config before e rows t f i =
    by_part (in_append (list_of t.nested) (entry_of t.last ∷ [])
    (subst (λ (l : List Entry). In f l) (ap (λ (xs : List Row). list_of xs) t.rows_are ∙ map-append entry_of t.nested (t.last ∷ [])) i))
  where
    by_part : In f (list_of t.nested) ⊎ In f (entry_of t.last ∷ []) → In f (list_of t.nested) ⊎ (f ≡ entry_of t.last)
    by_part (inl j) = inl j
    by_part (inr (here q)) = inr q
    by_part (inr (there j)) = elim j [ ]

last_no_end : (config : Config) (before : List Row) (e : BoardEntry) (rows : List Row) → (t : IsBoardTurn config before e rows) → (f : Entry) → f ≡ entry_of t.last
    → f.event ≡ Cell End → ⊥
last_no_end config before e rows t f is q =
    board_no_end (entry_of t.last).moment (entry_of t.last).event t.turn.entry t.turn.is (sym (ap (λ (y : Entry). y.event) is) ∙ q)

same_some : {A : Type 0} (x y : A) → Some x ≡ Some y → x ≡ y
same_some x y e = cc

-- the turn of a datagram of a load
heard_none : (config : Config) (before : List Row) (h : List BoardEntry) (now : ℕ) (x : RequestRecord) (rows : List Row) → IsOfLoad x
    → IsBoardTurn config before (entry_at config h (moment_at h now) x) rows → HasNoEnd rows
heard_none config before h now x rows of_load t f i q = by_part (turn_parts config before (entry_at config h (moment_at h now) x) rows t f i)
  where
    by_part : In f (list_of t.nested) ⊎ (f ≡ entry_of t.last) → ⊥
    by_part (inr is) = last_no_end config before (entry_at config h (moment_at h now) x) rows t f is q
    by_part (inl j) =
        let e : BoardEntry = entry_at config h (moment_at h now) x in
        let earlier : List BoardEntry = board_history (list_of before) (entry_of t.last).number in
        let same : t.turn.entry ≡ e = same_some t.turn.entry e (sym t.turn.is ∙ t.is) in
        let fits : FitsBoard config earlier e = subst (λ (y : BoardEntry). FitsBoard config earlier y) same t.turn.fits in
        let owes : In (owed_by f) (script config earlier e) =
        subst (λ (y : BoardEntry). In (owed_by f) (script config earlier y)) same
        (subst (λ (ws : List Owed). In (owed_by f) ws) t.turn.owes (maps owed_by (list_of t.nested) j)) in
        let reply : Option (List ℕ) = kept_reply h x.source x.cookie (moment_at h now) in
        in_act config earlier e (control_of config h (moment_at h now) x) (answering_unless config h (unanswered x) reply).act (owed_by f)
        (acts_none config h x of_load.number of_load.body_is of_load.short reply fits.reads) owes q

-- No tick is made at moment 0.

never_later : (since : Option ℕ) → is_second_later since 0 ≡ false
never_later None = refl
never_later (Some then) = low then
  where
    low : (n : ℕ) → nat_le (n + 1000) 0 ≡ false
    low n = grind (arith, nat_tests)

unticked : {A : Type 0} (o : Option A) → is_some o ≡ false → o ≡ None
unticked None e = refl
unticked (Some x) e = (let k : true ≡ false = e in cc)

front_of : (a b : Bool) → (a && (b && true)) ≡ true → (a ≡ true) × (b ≡ true)
front_of true true e = (refl, refl)
front_of true false e = (let k : false ≡ true = e in cc)
front_of false b e = (let k : false ≡ true = e in cc)

zero_if : (n : ℕ) → (n == 0) ≡ true → n ≡ 0
zero_if n e = grind (arith, nat_tests)

abbrev AtZero : List ℕ → Type 0
AtZero times = list_all (λ (moment : ℕ). moment == 0) times ≡ true

zero_parts : (rounds : List ControlRound) (r : ControlRound) → AtZero (moments (r ∷ rounds)) → AtZero (moments rounds) × (r.handed ≡ 0)
zero_parts rounds r zeros =
    let both = front_of _ _ (sym (list_all-append (λ (moment : ℕ). moment == 0) (moments rounds) (r.handed ∷ [])) ∙ zeros) in
    (both.0, zero_if r.handed both.1)

module _ (config : Config) (threads : ℕ) (range : Option (ℕ × ℕ)) where
  tick_none : (rounds : List ControlRound) (r : ControlRound) (h : List BoardEntry) (before rows : List Row) → r.handed ≡ 0 → is_some r.ticked ≡ is_tick_due rounds r.handed
      → MakesEntry config before (tick_of h r) rows → HasNoEnd rows
  tick_none rounds r h before rows at due makes =
      let never : r.ticked ≡ None =
      unticked r.ticked (due ∙ ap (λ (now : ℕ). is_second_later (counted_from rounds) now) at ∙ never_later (counted_from rounds)) in
      nothing_none rows (subst (λ (e : Option BoardEntry). MakesEntry config before e rows) (ap (λ (o : Option (List Call)). option_map (tick_entry h r.handed) o) never) makes)

  turn_none : (h : List BoardEntry) (now : ℕ) (answer : ControlTurn) (heard : Option RequestRecord) (calls : List LinkCall) (before rows : List Row)
      → DidTurn config h now answer heard calls → TakesGenerated calls → MakesEntry config before (entry_due config h now heard) rows → HasNoEnd rows
  turn_none h now answer None calls before rows did takes none = nothing_none rows none
  turn_none h now answer (Some x) calls before rows did takes makes =
      heard_none config before h now x rows (heard_of_load config h now answer x calls did takes) makes

  rounds_none : (rounds : List ControlRound) (rows : List Row) (calls : List LinkCall) → AreControlRounds config threads range rounds rows → AreExchanges config rounds calls
      → TakesGenerated calls → AtZero (moments rounds) → HasNoEnd rows
  rounds_none [] rows calls none made takes zeros = nothing_none rows none
  rounds_none (r ∷ rounds) rows calls are made takes zeros =
      let before = are.0 in
      let turn = are.1 in
      let sweep = are.2 in
      let tick = are.3 in
      let h = history_after config rounds in
      let at = zero_parts rounds r zeros in
      let earlier : TakesGenerated made.0 =
      λ room from bytes i. takes room from bytes (subst (λ (l : List LinkCall). In (call.Take room (given.Datagram from bytes)) l) (sym made.2) (in_left made.0 made.1 i)) in
      let now : TakesGenerated made.1 =
      λ room from bytes i. takes room from bytes (subst (λ (l : List LinkCall). In (call.Take room (given.Datagram from bytes)) l) (sym made.2) (in_right made.0 made.1 i)) in
      subst (λ (xs : List Row). HasNoEnd xs) (sym are.4)
      (none_both ((before ++ turn) ++ sweep) tick
      (none_both (before ++ turn) sweep
      (none_both before turn (rounds_none rounds before made.0 are.8 made.3 earlier at.0) (turn_none h r.handed r.answer r.heard made.1 before turn made.4 now are.9))
      (sweep_none config threads range sweep are.10))
      (tick_none rounds r (with_request config h r) ((before ++ turn) ++ sweep) tick at.1 are.7 are.11))

-- The whole load.

takes_front : (calls more ends : List LinkCall) → calls ≡ more ++ ends → TakesGenerated calls → TakesGenerated more
takes_front calls more ends is takes room from bytes i =
    takes room from bytes (subst (λ (l : List LinkCall). In (call.Take room (given.Datagram from bytes)) l) (sym is) (in_left more ends i))

zero_front : (times front back : List ℕ) → times ≡ front ++ back → AtZero times → AtZero front
zero_front times front back is zeros =
    first_of (list_all (λ (moment : ℕ). moment == 0) front) _
    (sym (list_all-append (λ (moment : ℕ). moment == 0) front back) ∙ subst (λ (l : List ℕ). AtZero l) is zeros)
  where
    first_of : (a b : Bool) → (a && b) ≡ true → a ≡ true
    first_of true b e = refl
    first_of false b e = (let k : false ≡ true = e in cc)

module _ (config : Config) (threads : ℕ) (range : Option (ℕ × ℕ)) (rounds : List ControlRound) (main beside stop : List Row) (e : BoardEntry) (calls : List LinkCall)
    (are : AreControlRounds config threads range rounds main) (made : AreExchanges config rounds calls) (takes : TakesGenerated calls) (zeros : AtZero (moments rounds))
    (lanes : HasNoEnd beside) (t : IsBoardTurn config (main ++ beside) e stop) where
  by_turn : (f : Entry) → In f (list_of t.nested) ⊎ (f ≡ entry_of t.last) → f.event ≡ Cell End → f.board ≡ t.last.number
  by_turn f (inl i) q = t.turn.of_board f i
  by_turn f (inr is) q = absurd (last_no_end config (main ++ beside) e stop t f is q)

  by_part : (f : Entry) → In f (list_of (main ++ beside)) ⊎ In f (list_of stop) → f.event ≡ Cell End → f.board ≡ t.last.number
  by_part f (inl i) q = absurd (none_both main beside (rounds_none config threads range rounds main calls are made takes zeros) lanes f i q)
  by_part f (inr i) q = by_turn f (turn_parts config (main ++ beside) e stop t f i) q

  ends_of_stop : (l : List Entry) → map as_logged l ≡ list_of ((main ++ beside) ++ stop) → HasEndsBy l t.last.number
  ends_of_stop l is f i q =
      by_part (as_logged f)
      (in_append (list_of (main ++ beside)) (list_of stop)
      (subst (λ (xs : List Entry). In (as_logged f) xs) (is ∙ map-append entry_of (main ++ beside) stop) (maps as_logged l i)))
      (ap (λ (v : Event). logged_event v) q)

module _ (settings : LoadSettings) (gate : ℕ → Type 0) (totals : Totals) (runs : RunsLoad settings gate totals) where
  pub ends_of_load : HasEndsBy runs.did.whole.list runs.did.whole.is_stop.last.number
  ends_of_load =
      let whole = runs.did.whole in
      let config = settings.config in
      let rounds = runs.did.rounds in
      let link : AreCalls config [] rounds status.Ok runs.calls =
      gained (λ (l : List LinkCall). AreCalls config [] rounds status.Ok l) runs.outside.link runs.outside.link_now [] runs.calls runs.link.0 runs.link.1 runs.did.log.link in
      let timer : runs.moments ≡ moments rounds ++ runs.did.last =
      gained (λ (l : List ℕ). l ≡ moments rounds ++ runs.did.last) runs.outside.timer runs.outside.timer_now [] runs.moments runs.timer.0 runs.timer.1 runs.did.log.timer in
      ends_of_stop config settings.lanes (Some (0, 0)) rounds whole.in_rounds (all_of whole.beside) whole.stop _ link.more whole.are_rounds link.exchanges
      (takes_front runs.calls link.more (last_take status.Ok) link.calls_are (tells_generated (2 * settings.calls) true runs.calls runs.heard))
      (zero_front runs.moments (moments rounds) runs.did.last timer runs.at_zero)
      (lanes_none config settings.lanes (Some (0, 0)) whole.beside
      (λ i d lt. (i, whole.are_lanes.are_lanes i d (let many = whole.are_lanes.as_many in omega (arith, lt, many))))) whole.is_stop whole.list
      (whole.told_is ∙ ap (λ (xs : List Row). list_of xs) whole.rows_are)

  pub relays_before_ends : AreBeforeEnds runs.did.whole.list
  relays_before_ends e f x i j q r p =
      runs.did.whole.ordered.before_stop e f x i j q (ap (λ (v : Event). is_nested v) r) p (ends_of_load f j r)
