-- The live calls in order, of which those up to a number have been asked or found overdue, and those that were due have ended.
use Rattle.std.proofs.Common.{◌≡◌, ◌∙◌, refl, sym, ap, subst, ℕ, zero, suc, ◌+◌, ◌⊎◌, inl, inr, ◌≤◌, Bool, true, false, cond, not, List, [], ◌∷◌, ◌++◌, Option, Some, filter, take, drop, length, length-append, arith}
use Rattle.std.proofs.Math.Seq.{take-length}
use Rattle.std.proofs.lemmas.List.{length-map, map-append, take-map, take-append-drop}
use Rattle.std.specs.Prelude.{slice_get, ◌&&◌, if◌then◌else◌}
use Rattle.std.specs.List.{flat_map}
use Rattle.relay_outside.specs.declared.settings.Config.{Config}
use Rattle.relay_outside.specs.declared.ports.PortCall.{PortCall}
use Rattle.relay_outside.specs.DeviceLogs.{WhereLogged}
use Rattle.turn_table.specs.declared.hands.Turns.{Turns}
use Rattle.turn_table.specs.declared.hands.Hand.{Hand}
use Rattle.turn_table.specs.Hands.{IsSameHand, parts}
use Rattle.histories.specs.Words.{In, here, there, has}
use Rattle.histories.proofs.Lists.{in_append, spread, maps, mapped, spreads, keeps, filtered, it_has, has_it}
use Rattle.port_pool.specs.declared.holder.Holder.{Holder}
use Rattle.call_cell.specs.Cells.{Expire, End}
use Rattle.call_board.specs.Acts.{Call, BoardEntry}
use Rattle.call_board.specs.Calls.{live, is_due_at}
use Rattle.call_board.specs.Pairs.{Once, held, closed_of, closes_leg}
use Rattle.call_board.specs.Fits.{IsFitting, named_live, AreNamedWhenDue}
use Rattle.call_board.specs.declared.board.Board.{Board}
use Rattle.call_board.specs.Views.{View, CallView, call_view, view_of, view_at_moment, board_last_moment}
use Rattle.call_board.specs.Boards.{BoardFor, BoardMatches, CellsApart}
use Rattle.call_board.specs.Shapes.{board_shape}
use Rattle.call_board.specs.Whole.{with_ended}
use Rattle.call_board.proofs.Entries.{ended_more, entry_stands}
use Rattle.call_board.proofs.Found.{ended_calls, cells_while_ending, found_is_live, found_while_ending}
use Rattle.call_board.proofs.Free.{held_once}
use Rattle.call_board.proofs.FreeAfter.{live_once, once_taken}
use Rattle.call_board.proofs.Held.{closed_of_held, closes_held}
use Rattle.call_board.proofs.Outs.{closed_of_ended, ended_alike}
use Rattle.call_board.proofs.Sieves.{is_out}
use Rattle.relay_core.specs.declared.part.Part.{Part}
use Rattle.relay_core.specs.Entries.{Entry, board_history}
use Rattle.relay_core.specs.KeptAfter.{IsWholeWith}
use Rattle.relay_core.specs.Legal.{Orderly}
use Rattle.relay_core.specs.Records.{Made, list_of}
use Rattle.relay_core.specs.Scripts.{Owed, in_cell, ending, asking, expiring, script}
use Rattle.relay_core.specs.Turns.{IsAbove, GainsNested, made_by}
use Rattle.relay_core.proofs.Histories.{good_history}
use Rattle.relay_core.proofs.Turns.{filter_append, nothing_more}
use Rattle.media_ports.specs.OpenPorts.{OpensHeld, LogsHeld}
use Rattle.media_ports.proofs.Leased.{take_next, drop_next}
use Rattle.board_turns.specs.declared.board_turn.BoardEntryId.{BoardEntryId}
use Rattle.board_turns.proofs.Nesting.{gains_more}
use Rattle.board_turns.specs.Acts.{InTurn}
use Rattle.board_turns.specs.Closings.{pairs_left}
use Rattle.board_turns.specs.CallEnds.{IsCallOf, ending_of, leg_pairs}
use Rattle.board_turns.specs.Stops.{stop_entry, still_held}
use Rattle.board_turns.specs.Ticks.{CanExpire, EndsDue, EndsRightly, IsDueBy, asking_of, tick_at, with_asked}
use Rattle.board_turns.proofs.Answered.{asked_of, due_of, numbers_of, asked_more, due_more, is_asked, is_due, named, sieve, left_count, spread_asked}
use Rattle.board_turns.proofs.Closed.{list_gained, placed_by, gains_nothing}
use Rattle.board_turns.proofs.Expiring.{below, due_before}
use Rattle.board_turns.proofs.Lefts.{has_left, left_none, left_twice, told_alike}
use Rattle.board_turns.proofs.Next.{next_among, cell_case}
use Rattle.board_turns.proofs.TakenPairs.{may_end, ended_free}
use Rattle.board_turns.proofs.StayHeld.{stay_left}
use Rattle.board_turns.proofs.Stopped.{get_map, in_at, in_taken, not_yet, spread_more}

-- what is owed for a call at this moment, by whether it ends
abbrev pub owed_for : Config → List BoardEntry → ℕ → Call × Bool → List Owed
owed_for config h moment a = asking_of config a.0 (closed_of h (stop_entry h) a.0) (is_due_at h a.0.number moment) a.1

module _ {M I O T : Type 0} {g : _} where
  pub record Asked (config : Config) (h : List BoardEntry) (number moment : ℕ) (old now : Hand M (Part I O) Made T g) (board : Board) (log : Option (List PortCall)) (asked ended : ℕ) : Type 0 where
    pub answers : List (Call × Bool)
    pub are : asked_of answers ≡ take asked (live h)
    pub count : length (due_of answers) ≡ ended
    pub gained : GainsNested number moment (flat_map (owed_for config h moment) answers) old now
    pub shows : BoardMatches config board (with_ended h (stop_entry h) (due_of answers) (view_at_moment (view_of config h) moment))
    pub opens : WhereLogged log (λ calls. OpensHeld config calls (still_held h (stop_entry h) (due_of answers)))
    pub overdue : (a : Call × Bool) → In a answers → is_due_at h a.0.number moment ≡ true → a.1 ≡ true
    pub timed_out : parts old ≡ 1024 → (a : Call × Bool) → In a answers → is_due_at h a.0.number moment ≡ false → IsDueBy config (made_by old) a.0.cell moment a.1

-- Where the next call stands.

middle : {A : Type 0} (xs ys : List A) (x : A) → slice_get (xs ++ x ∷ ys) (length xs) ≡ Some x
middle [] ys x = refl
middle (y ∷ xs) ys x = middle xs ys x

taken_count : {A : Type 0} (i : ℕ) (xs : List A) → i ≤ length xs → length (take i xs) ≡ i
taken_count zero [] low = refl
taken_count zero (x ∷ xs) low = refl
taken_count (suc i) [] low = absurd (omega (arith, low))
taken_count (suc i) (x ∷ xs) low = ap suc (taken_count i xs (omega (arith, low)))

sieved_at : {A : Type 0} (q : A → Bool) (xs : List A) (i : ℕ) (x : A) → slice_get xs i ≡ Some x → q x ≡ true → slice_get (filter q xs) (length (filter q (take i xs))) ≡ Some x
sieved_at {A} q xs i x at passes =
    let parts : xs ≡ take i xs ++ x ∷ drop (i + 1) xs = sym (take-append-drop i xs) ∙ ap (λ (ys : List A). take i xs ++ ys) (drop_next xs i x at) in
    let sieved : filter q xs ≡ filter q (take i xs) ++ x ∷ filter q (drop (i + 1) xs) =
    ap (filter q) parts ∙ filter_append q (take i xs) (x ∷ drop (i + 1) xs)
    ∙ ap (λ (b : Bool). filter q (take i xs) ++ cond b (x ∷ filter q (drop (i + 1) xs)) (filter q (drop (i + 1) xs))) passes in
    ap (λ (ys : List A). slice_get ys (length (filter q (take i xs)))) sieved ∙ middle (filter q (take i xs)) (filter q (drop (i + 1) xs)) x

-- Which entries stand elsewhere.

in_ending : (config : Config) (h : List BoardEntry) (c : Call) (ends : Bool) (w : Owed)
    → In w (if ends then ending config h (stop_entry h) c else []) → In w (ending config h (stop_entry h) c)
in_ending config h c true w i = i
in_ending config h c false w i = elim i [ ]

-- what is owed for a call is the question, or a part of its end
in_owed : (config : Config) (h : List BoardEntry) (c : Call) (overdue ends : Bool) (w : Owed) → In w (asking_of config c (closed_of h (stop_entry h) c) overdue ends)
    → (w ≡ in_cell c (Expire ends)) ⊎ In w (ending config h (stop_entry h) c)
in_owed config h c true ends w i = inr i
in_owed config h c false ends w (here q) = inl q
in_owed config h c false ends w (there j) = inr (in_ending config h c ends w j)

asked_cell_by : (config : Config) (h : List BoardEntry) (gone : List Call) (of : Call) (a : Call × Bool) → IsFitting config h → In of (live h) → In a.0 gone → In a.0 (live h)
    → (In of.number (numbers_of gone) → ⊥) → (w : Owed) → (w ≡ in_cell a.0 (Expire a.1)) ⊎ In w (ending config h (stop_entry h) a.0) → w.place ≡ of.cell → ⊥
asked_cell_by config h gone of a fits alive i living out w (inl q) at =
    cell_case config h (stop_entry h) gone of a.0 fits alive i living out (in_cell a.0 End) (here refl) (sym (ap (λ (v : Owed). v.place) q) ∙ at)
asked_cell_by config h gone of a fits alive i living out w (inr j) at = cell_case config h (stop_entry h) gone of a.0 fits alive i living out w j at

asked_cell : (config : Config) (h : List BoardEntry) (moment : ℕ) (gone : List Call) (of : Call) (a : Call × Bool) → IsFitting config h → In of (live h) → In a.0 gone → In a.0 (live h)
    → (In of.number (numbers_of gone) → ⊥) → (w : Owed) → In w (owed_for config h moment a) → w.place ≡ of.cell → ⊥
asked_cell config h moment gone of a fits alive i living out w k at =
    asked_cell_by config h gone of a fits alive i living out w (in_owed config h a.0 (is_due_at h a.0.number moment) a.1 w k) at

-- What the cells of live calls returned.

asked_once : (config : Config) (h : List BoardEntry) (answers : List (Call × Bool)) (i : ℕ) → IsFitting config h → asked_of answers ≡ take i (live h)
    → Once (numbers_of (asked_of answers))
asked_once config h answers i fits are =
    subst Once (sym (ap numbers_of are ∙ sym (take-map (λ (c : Call). c.number) i (live h)))) (once_taken i (numbers_of (live h)) (live_once config h fits))

asked_alive : {a : Call × Bool} (h : List BoardEntry) (answers : List (Call × Bool)) (i : ℕ) → asked_of answers ≡ take i (live h) → In a answers → In a.0 (live h)
asked_alive {a} h answers i are k = in_taken i (live h) (subst (λ (cs : List Call). In a.0 cs) are (maps (λ (b : Call × Bool). b.0) answers k))

not_due : (config : Config) (h : List BoardEntry) (answers : List (Call × Bool)) (i : ℕ) (of : Call) → IsFitting config h → asked_of answers ≡ take i (live h)
    → slice_get (live h) i ≡ Some of → In of.number (numbers_of (due_of answers)) → ⊥
not_due config h answers i of fits are at k =
    let m = mapped (λ (c : Call). c.number) (due_of answers) k in
    not_yet config h i of fits at
    (subst (λ (cs : List Call). In of.number (numbers_of cs)) are
    (subst (λ (number : ℕ). In number (numbers_of (asked_of answers))) m.makes (maps (λ (c : Call). c.number) (asked_of answers) (is_asked answers m.is_in))))

place_of_next : (config : Config) (h : List BoardEntry) (answers : List (Call × Bool)) (i index : ℕ) (of : Call) → IsFitting config h → asked_of answers ≡ take i (live h)
    → slice_get (live h) i ≡ Some of → index + length (due_of answers) ≡ i
    → slice_get (filter (λ (c : Call). not (has (numbers_of (due_of answers)) c.number)) (live h)) index ≡ Some of
place_of_next config h answers i index of fits are at count =
    let left : Call → Bool = λ (c : Call). not (has (numbers_of (due_of answers)) c.number) in
    let all = left_count left answers (λ a k. ap not (named answers a (asked_once config h answers i fits are) k)) in
    let long = length-map answers (λ (a : Call × Bool). a.0) in
    let taken = ap length are ∙ taken_count i (live h) (let low = below (live h) i of at in omega (arith, low)) in
    let is : length (filter left (asked_of answers)) ≡ index = omega (arith, all, long, taken, count) in
    let where_is : length (filter left (take i (live h))) ≡ index = ap (λ (cs : List Call). length (filter left cs)) (sym are) ∙ is in
    subst (λ (k : ℕ). slice_get (filter left (live h)) k ≡ Some of) where_is
    (sieved_at left (live h) i of at (ap not (is_out of.number (numbers_of (due_of answers)) (not_due config h answers i of fits are at))))

-- What the end of one more makes.

shows_more : (config : Config) (h : List BoardEntry) (v0 : View) (gone : List Call) (of : Call) (board : Board) (due : Bool)
    → BoardMatches config board (with_asked (with_ended h (stop_entry h) gone v0) of.number (closed_of h (stop_entry h) of) due)
    → BoardMatches config board (with_ended h (stop_entry h) (cond due (gone ++ of ∷ []) gone) v0)
shows_more config h v0 gone of board true shows = subst (λ (w : View). BoardMatches config board w) (ended_more h (stop_entry h) gone (of ∷ []) v0) shows
shows_more config h v0 gone of board false shows = shows

opens_more : (config : Config) (h : List BoardEntry) (log : Option (List PortCall)) (gone : List Call) (of : Call) (due : Bool)
    → WhereLogged log (λ calls. OpensHeld config calls (if due then pairs_left (leg_pairs (closed_of h (stop_entry h) of)) (still_held h (stop_entry h) gone) else still_held h (stop_entry h) gone))
    → WhereLogged log (λ calls. OpensHeld config calls (still_held h (stop_entry h) (cond due (gone ++ of ∷ []) gone)))
opens_more config h log gone of true opens =
    let e = stop_entry h in
    let legs = closed_of h e of in
    let pairs = leg_pairs (flat_map (closed_of h e) gone) in
    let all_pairs : pairs ++ leg_pairs legs ≡ leg_pairs (flat_map (closed_of h e) (gone ++ of ∷ [])) =
    sym (ap leg_pairs (spread_more (closed_of h e) gone of) ∙ map-append (λ (leg : Holder). leg.pair) (flat_map (closed_of h e) gone) legs) in
    told_alike config log (pairs_left (leg_pairs legs) (pairs_left pairs (leg_pairs (held h)))) (still_held h e (gone ++ of ∷ []))
    (λ q. left_twice pairs (leg_pairs legs) (leg_pairs (held h)) q ∙ ap (λ (ps : List ℕ). has (pairs_left ps (leg_pairs (held h))) q) all_pairs) opens
opens_more config h log gone of false opens = opens

module _ {M I O T : Type 0} {g : _} where
  -- none has been asked
  pub none_asked : (config : Config) (turns : Turns M (Part I O) Made T) (hand : Hand M (Part I O) Made T g) (entry_id : BoardEntryId) (board : Board) (log : Option (List PortCall))
      → InTurn config turns hand entry_id board log
      → Asked config (board_history (made_by hand) entry_id.number) entry_id.number entry_id.moment hand hand board log 0 0
  none_asked config turns hand entry_id board log turn =
      let h = board_history (made_by hand) entry_id.number in
      record {
        answers = [];
        are = no_calls (live h);
        count = refl;
        gained = gains_nothing entry_id.number entry_id.moment hand;
        shows = turn.shows;
        opens = told_alike config log (leg_pairs (held h)) (pairs_left [] (leg_pairs (held h))) (left_none (leg_pairs (held h))) turn.opens;
        overdue = λ a i. elim i [ ];
        timed_out = λ all a i. elim i [ ];
      }
    where
      no_calls : (calls : List Call) → [] ≡ take 0 calls
      no_calls [] = refl
      no_calls (c ∷ calls) = refl

  -- what came stands elsewhere than the cell of the next one
  asked_elsewhere : (config : Config) (number moment : ℕ) (old now : Hand M (Part I O) Made T g) (board : Board) (log : Option (List PortCall)) (i ended : ℕ) (of : Call)
      → Orderly config (made_by old) → slice_get (live (board_history (made_by old) number)) i ≡ Some of
      → (asked : Asked config (board_history (made_by old) number) number moment old now board log i ended)
      → (x : Entry) → In x (list_of asked.gained.rows) → x.place ≡ of.cell → ⊥
  asked_elsewhere config number moment old now board log i ended of o at asked =
      let h = board_history (made_by old) number in
      let fits = good_history config (made_by old) o number in
      let answers = asked.answers in
      placed_by (flat_map (owed_for config h moment) answers) (list_of asked.gained.rows) of.cell asked.gained.gained.owes
      (λ w k. let s = spread (owed_for config h moment) answers k in
      asked_cell config h moment (asked_of answers) of s.from fits (in_at (live h) i of at) (maps (λ (a : Call × Bool). a.0) answers s.is_in) (asked_alive h answers i asked.are s.is_in)
      (λ j. not_yet config h i of fits at (subst (λ (cs : List Call). In of.number (numbers_of cs)) asked.are j)) w s.has_it)

  -- the next one may be asked
  pub next_asks : (config : Config) (number moment : ℕ) (old now : Hand M (Part I O) Made T g) (board : Board) (log : Option (List PortCall)) (i ended index : ℕ) (of : Call)
      → IsWholeWith config now (board_shape board) → Orderly config (made_by old) → IsAbove (made_by old) 0 number → slice_get (live (board_history (made_by old) number)) i ≡ Some of
      → Asked config (board_history (made_by old) number) number moment old now board log i ended → index + ended ≡ i
      → CanExpire config now board log moment index of (closed_of (board_history (made_by old) number) (stop_entry (board_history (made_by old) number)) of)
      (is_due_at (board_history (made_by old) number) of.number moment)
  next_asks config number moment old now board log i ended index of whole o above at asked place =
      let l = made_by old in
      let h = board_history l number in
      let e = stop_entry h in
      let fits = good_history config l o number in
      let v0 = view_at_moment (view_of config h) moment in
      let answers = asked.answers in
      let gone = due_of answers in
      let alive = in_at (live h) i of at in
      let out = not_due config h answers i of fits asked.are at in
      let ns = list_of asked.gained.rows in
      let owed = flat_map (owed_for config h moment) answers in
      let found = found_while_ending config h e gone v0 of fits refl alive out in
      let is_call : IsCallOf config (l ++ ns) board of.number of (closed_of h e of) =
      next_among config l ns o number e gone of board above alive alive out (asked_elsewhere config number moment old now board log i ended of o at asked) v0 refl asked.shows in
      record {
        can = may_end config now board log of.number h (leg_pairs (flat_map (closed_of h e) gone)) (with_ended h e gone v0) whole asked.shows (ended_free h e gone v0)
            (found_is_live config board (with_ended h e gone v0) of.number (call_view h of) asked.shows found) asked.opens;
        is_call = subst (λ (es : List Entry). IsCallOf config es board of.number of (closed_of h e of)) (sym (list_gained number moment owed old now asked.gained)) is_call;
        view = with_ended h e gone v0;
        shows = asked.shows;
        seen = call_view h of;
        of_is = refl;
        at = ap (λ (cs : List CallView). slice_get cs index) (ended_calls config h e gone v0 fits refl)
            ∙ get_map (call_view h) (filter (λ (c : Call). not (has (numbers_of gone) c.number)) (live h)) index of
            (place_of_next config h answers i index of fits asked.are at (ap (λ (k : ℕ). index + k) asked.count ∙ place));
        found = found;
        overdue_is = refl;
      }

  -- one more was asked or found overdue, and ended where it had to
  pub one_asked : (config : Config) (number moment : ℕ) (old now new : Hand M (Part I O) Made T g) (before after : Board) (log told_new : Option (List PortCall)) (i ended then_ended : ℕ) (of : Call)
      (due : Bool) → Orderly config (made_by old) → IsSameHand old now → slice_get (live (board_history (made_by old) number)) i ≡ Some of
      → Asked config (board_history (made_by old) number) number moment old now before log i ended → then_ended ≡ cond due (ended + 1) ended
      → GainsNested number moment (owed_for config (board_history (made_by old) number) moment (of, due)) now new
      → ((config : Config) (v : View) → BoardMatches config before v → CellsApart v.calls
      → BoardMatches config after (with_asked v of.number (closed_of (board_history (made_by old) number) (stop_entry (board_history (made_by old) number)) of) due))
      → ((held : List ℕ) → WhereLogged log (λ calls. OpensHeld config calls held)
      → WhereLogged told_new (λ calls. OpensHeld config calls (if due then pairs_left (leg_pairs (closed_of (board_history (made_by old) number) (stop_entry (board_history (made_by old) number)) of)) held else held)))
      → (is_due_at (board_history (made_by old) number) of.number moment ≡ true → due ≡ true)
      → (is_due_at (board_history (made_by old) number) of.number moment ≡ false → parts now ≡ 1024 → IsDueBy config (made_by now) of.cell moment due)
      → Asked config (board_history (made_by old) number) number moment old new after told_new (i + 1) then_ended
  one_asked config number moment old now new before after log told_new i ended then_ended of due o same at asked counts gains shown opened is_overdue is_due_now =
      let fits = good_history config (made_by old) o number in
      let h = board_history (made_by old) number in
      let e = stop_entry h in
      let v0 = view_at_moment (view_of config h) moment in
      let gone = due_of asked.answers in
      let more = due_more asked.answers of due in
      record {
        answers = asked.answers ++ (of, due) ∷ [];
        are = asked_more asked.answers of due ∙ ap (λ (cs : List Call). cs ++ of ∷ []) asked.are ∙ sym (take_next (live h) i of at);
        count = ap length more ∙ counted due ∙ ap (λ (k : ℕ). cond due (k + 1) k) asked.count ∙ sym counts;
        gained = subst (λ (ws : List Owed). GainsNested number moment ws old new) (sym (spread_more (owed_for config h moment) asked.answers (of, due)))
            (gains_more number moment (flat_map (owed_for config h moment) asked.answers) (owed_for config h moment (of, due)) old now new asked.gained gains);
        shows = subst (λ (cs : List Call). BoardMatches config after (with_ended h e cs v0)) (sym more)
            (shows_more config h v0 gone of after due (shown config (with_ended h e gone v0) asked.shows (cells_while_ending config h e gone v0 fits refl)));
        opens = subst (λ (cs : List Call). WhereLogged told_new (λ calls. OpensHeld config calls (still_held h e cs))) (sym more)
            (opens_more config h told_new gone of due (opened (still_held h e gone) asked.opens));
        overdue = λ a k. by_end a (in_append asked.answers ((of, due) ∷ []) k);
        timed_out = λ all a k. by_place all a (in_append asked.answers ((of, due) ∷ []) k);
      }
    where
      -- what the cell of the one that was asked now returned
      its_answer : parts old ≡ 1024 → is_due_at (board_history (made_by old) number) of.number moment ≡ false → IsDueBy config (made_by old) of.cell moment due
      its_answer all not_due_yet =
          due_before config (made_by old) (list_of asked.gained.rows) of.cell moment due (asked_elsewhere config number moment old now before log i ended of o at asked)
          (subst (λ (l : List Entry). IsDueBy config l of.cell moment due)
          (list_gained number moment (flat_map (owed_for config (board_history (made_by old) number) moment) asked.answers) old now asked.gained)
          (is_due_now not_due_yet (same.2 ∙ all)))

      by_end : (a : Call × Bool) → In a asked.answers ⊎ In a ((of, due) ∷ []) → is_due_at (board_history (made_by old) number) a.0.number moment ≡ true → a.1 ≡ true
      by_end a (inl k) = asked.overdue a k
      by_end a (inr (here q)) =
          subst (λ (b : Call × Bool). is_due_at (board_history (made_by old) number) b.0.number moment ≡ true → b.1 ≡ true) (sym q) is_overdue
      by_end a (inr (there k)) = elim k [ ]

      by_place : parts old ≡ 1024 → (a : Call × Bool) → In a asked.answers ⊎ In a ((of, due) ∷ []) → is_due_at (board_history (made_by old) number) a.0.number moment ≡ false
          → IsDueBy config (made_by old) a.0.cell moment a.1
      by_place all a (inl k) = asked.timed_out all a k
      by_place all a (inr (here q)) =
          subst (λ (b : Call × Bool). is_due_at (board_history (made_by old) number) b.0.number moment ≡ false → IsDueBy config (made_by old) b.0.cell moment b.1) (sym q)
          (its_answer all)
      by_place all a (inr (there k)) = elim k [ ]

      counted : (d : Bool) → length (cond d (due_of asked.answers ++ of ∷ []) (due_of asked.answers)) ≡ cond d (length (due_of asked.answers) + 1) (length (due_of asked.answers))
      counted true = length-append (due_of asked.answers) (of ∷ [])
      counted false = refl

-- All have been asked.

closes_same : (h : List BoardEntry) (moment : ℕ) (calls : List Call) (of : Call) → In of (live h) → In of calls
    → closed_of h (tick_at moment calls) of ≡ closed_of h (stop_entry h) of
closes_same h moment calls of alive ends = closed_of_ended h (tick_at moment calls) of ends ∙ sym (closed_of_ended h (stop_entry h) of alive)

owed_case : (config : Config) (h : List BoardEntry) (e : BoardEntry) (of : Call) (overdue due named : Bool) → named ≡ due → (overdue ≡ true → due ≡ true)
    → (due ≡ true → closed_of h e of ≡ closed_of h (stop_entry h) of)
    → (if overdue then ending config h e of else asking config h e of named) ≡ asking_of config of (closed_of h (stop_entry h) of) overdue due
owed_case config h e of true true named is ends closes = ap (ending_of config of) (closes refl)
owed_case config h e of true false named is ends closes = absurd (let k = ends refl in cc)
owed_case config h e of false true true is ends closes = ap (λ (legs : List Holder). asking_of config of legs false true) (closes refl)
owed_case config h e of false false false is ends closes = refl
owed_case config h e of false true false is ends closes = absurd (let q = is in cc)
owed_case config h e of false false true is ends closes = absurd (let q = is in cc)

pub same_truth : (a b : Bool) → (a ≡ true → b ≡ true) → (b ≡ true → a ≡ true) → a ≡ b
same_truth true true f g = refl
same_truth false false f g = refl
same_truth true false f g = absurd (let k = f refl in cc)
same_truth false true f g = absurd (let k = g refl in cc)

-- the legs that the tick closes call by call are those that it closes
closed_alike : (h : List BoardEntry) (moment : ℕ) (calls : List Call) (q : ℕ)
    → has (leg_pairs (flat_map (closed_of h (tick_at moment calls)) calls)) q ≡ has (leg_pairs (filter (closes_leg (tick_at moment calls)) (held h))) q
closed_alike h moment calls q =
    let e = tick_at moment calls in
    let by_call = leg_pairs (flat_map (closed_of h e) calls) in
    let whole = leg_pairs (filter (closes_leg e) (held h)) in
    same_truth (has by_call q) (has whole q)
    (λ t. let m = mapped (λ (leg : Holder). leg.pair) (flat_map (closed_of h e) calls) (has_it q by_call t) in
    let s = spread (closed_of h e) calls m.is_in in
    let c = closed_of_held h e s.from m.from s.has_it in
    it_has q whole
    (subst (λ (p : ℕ). In p whole) m.makes (maps (λ (leg : Holder). leg.pair) (filter (closes_leg e) (held h)) (keeps (closes_leg e) (held h) c.0 c.2))))
    (λ t. let m = mapped (λ (leg : Holder). leg.pair) (filter (closes_leg e) (held h)) (has_it q whole t) in
    let f = filtered (closes_leg e) (held h) m.is_in in
    let c = closes_held h e m.from f.0 f.1 in
    it_has q by_call
    (subst (λ (p : ℕ). In p by_call) m.makes
    (maps (λ (leg : Holder). leg.pair) (flat_map (closed_of h e) calls) (spreads (closed_of h e) calls c.is_in c.closes))))

module _ (config : Config) (h : List BoardEntry) (moment : ℕ) (answers : List (Call × Bool)) (fits : IsFitting config h) (all : asked_of answers ≡ live h)
    (overdue : (a : Call × Bool) → In a answers → is_due_at h a.0.number moment ≡ true → a.1 ≡ true) where
  whole_once : Once (numbers_of (asked_of answers))
  whole_once = subst (λ (cs : List Call). Once (numbers_of cs)) (sym all) (live_once config h fits)

  each_alive : {c : Call} → In c (due_of answers) → In c (live h)
  each_alive {c} i = subst (λ (cs : List Call). In c cs) all (is_asked answers i)

  pub ends_named : due_of answers ≡ named_live h (due_of answers)
  ends_named =
      sym (sieve (λ (c : Call). has (numbers_of (due_of answers)) c.number) answers (λ a i. named answers a whole_once i))
      ∙ ap (filter (λ (c : Call). has (numbers_of (due_of answers)) c.number)) all

  ends_if_due : (c : Call) → In c (live h) → is_due_at h c.number moment ≡ true → has (numbers_of (due_of answers)) c.number ≡ true
  ends_if_due c i =
      let m = mapped (λ (a : Call × Bool). a.0) answers (subst (λ (cs : List Call). In c cs) (sym all) i) in
      subst (λ (d : Call). is_due_at h d.number moment ≡ true → has (numbers_of (due_of answers)) d.number ≡ true) m.makes
      (λ t. named answers m.from whole_once m.is_in ∙ overdue m.from m.is_in t)

  none_passed : (those : List Call) → ((c : Call) → In c those → In c (live h)) → AreNamedWhenDue h moment (numbers_of (due_of answers)) those
  none_passed [] among = tt
  none_passed (c ∷ those) among = (ends_if_due c (among c (here refl)), none_passed those (λ d i. among d (there i)))

  -- those that are due are among them
  pub ends_none_passed : AreNamedWhenDue h moment (numbers_of (due_of answers)) (live h)
  ends_none_passed = none_passed (live h) (λ c i. i)

  pub ends_owed : script config h (tick_at moment (due_of answers)) ≡ flat_map (owed_for config h moment) answers
  ends_owed =
      ap (flat_map (expiring config h (tick_at moment (due_of answers)) (due_of answers))) (sym all)
      ∙ spread_asked (expiring config h (tick_at moment (due_of answers)) (due_of answers)) (owed_for config h moment) answers
      (λ a i. owed_case config h (tick_at moment (due_of answers)) a.0 (is_due_at h a.0.number moment) a.1 (has (numbers_of (due_of answers)) a.0.number)
      (named answers a whole_once i) (overdue a i)
      (λ t. closes_same h moment (due_of answers) a.0 (each_alive (is_due answers i t)) (is_due answers i t)))

  pub ends_stand : (board : Board) → board_last_moment h ≤ moment → BoardMatches config board (with_ended h (stop_entry h) (due_of answers) (view_at_moment (view_of config h) moment))
      → BoardFor config board (tick_at moment (due_of answers) ∷ h)
  ends_stand board timely shows =
      entry_stands config board h (tick_at moment (due_of answers)) fits (ends_named, ends_none_passed) timely
      (subst (λ (w : View). BoardMatches config board w)
      (ended_alike h (stop_entry h) (tick_at moment (due_of answers)) (due_of answers) (view_at_moment (view_of config h) moment) (λ c i. each_alive i) (λ c i. i)) shows)

  pub ends_due : (l : List Entry) → ((a : Call × Bool) → In a answers → is_due_at h a.0.number moment ≡ false → IsDueBy config l a.0.cell moment a.1)
      → (c : Call) → In c (live h) → EndsRightly config h l moment c (has (numbers_of (due_of answers)) c.number)
  ends_due l each c i =
      let m = mapped (λ (a : Call × Bool). a.0) answers (subst (λ (cs : List Call). In c cs) (sym all) i) in
      subst (λ (d : Call). EndsRightly config h l moment d (has (numbers_of (due_of answers)) d.number)) m.makes
      (subst (λ (b : Bool). EndsRightly config h l moment m.from.0 b) (sym (named answers m.from whole_once m.is_in))
      (record { when_due = overdue m.from m.is_in; when_timed_out = each m.from m.is_in }))

  same_closed : (those : List Call) → ((c : Call) → In c those → In c (due_of answers))
      → flat_map (closed_of h (stop_entry h)) those ≡ flat_map (closed_of h (tick_at moment (due_of answers))) those
  same_closed [] among = refl
  same_closed (c ∷ those) among =
      ap (λ (legs : List Holder). legs ++ flat_map (closed_of h (stop_entry h)) those)
      (sym (closes_same h moment (due_of answers) c (each_alive (among c (here refl))) (among c (here refl))))
      ∙ ap (λ (legs : List Holder). closed_of h (tick_at moment (due_of answers)) c ++ legs) (same_closed those (λ d i. among d (there i)))

  pub ends_open : (log : Option (List PortCall)) → WhereLogged log (λ calls. OpensHeld config calls (still_held h (stop_entry h) (due_of answers)))
      → LogsHeld config log (leg_pairs (held (tick_at moment (due_of answers) ∷ h)))
  ends_open log opens =
      let e = tick_at moment (due_of answers) in
      let one = flat_map (closed_of h (stop_entry h)) (due_of answers) in
      let by_call = flat_map (closed_of h e) (due_of answers) in
      let whole = filter (closes_leg e) (held h) in
      told_alike config log (still_held h (stop_entry h) (due_of answers)) (leg_pairs (held (e ∷ h)))
      (λ q.
      ap (λ (legs : List Holder). has (pairs_left (leg_pairs legs) (leg_pairs (held h))) q) (same_closed (due_of answers) (λ c i. i))
      ∙ has_left (leg_pairs by_call) (leg_pairs (held h)) q
      ∙ ap (λ (b : Bool). not b && has (leg_pairs (held h)) q) (closed_alike h moment (due_of answers) q)
      ∙ sym (has_left (leg_pairs whole) (leg_pairs (held h)) q)
      ∙ stay_left (closes_leg e) (held h) q (held_once config h fits)
      ∙ ap (λ (legs : List Holder). has (leg_pairs legs) q) (sym (nothing_more (filter (λ (leg : Holder). not (closes_leg e leg)) (held h)))))
      opens

module _ {M I O T : Type 0} {g : _} where
  -- they are those that the tick ends
  pub all_asked : (config : Config) (number moment : ℕ) (old new : Hand M (Part I O) Made T g) (board : Board) (log : Option (List PortCall)) (asked ended : ℕ)
      → IsFitting config (board_history (made_by old) number) → board_last_moment (board_history (made_by old) number) ≤ moment → asked ≡ length (live (board_history (made_by old) number))
      → Asked config (board_history (made_by old) number) number moment old new board log asked ended
      → (calls : List Call) × EndsDue config (board_history (made_by old) number) number moment old new ended log calls
      × BoardFor config board (tick_at moment calls ∷ board_history (made_by old) number)
  all_asked config number moment old new board log asked ended fits timely over a =
      let h = board_history (made_by old) number in
      let all : asked_of a.answers ≡ live h = a.are ∙ ap (λ (k : ℕ). take k (live h)) over ∙ take-length (live h) in (
        due_of a.answers,
        record {
          named = ends_named config h moment a.answers fits all a.overdue;
          none_passed = ends_none_passed config h moment a.answers fits all a.overdue;
          due = λ whole c i. ends_due config h moment a.answers fits all a.overdue (made_by old) (a.timed_out whole) c i;
          gained = subst (λ (ws : List Owed). GainsNested number moment ws old new) (sym (ends_owed config h moment a.answers fits all a.overdue)) a.gained;
          count_is = sym a.count;
          opens = ends_open config h moment a.answers fits all a.overdue log a.opens;
        },
        ends_stand config h moment a.answers fits all a.overdue board timely a.shows,
      )
