-- A call that is asked whether it has timed out may still be ended.
use Rattle.std.proofs.Common.{◌≡◌, ◌∙◌, refl, sym, ap, subst, ℕ, zero, suc, max, ◌<◌, ◌≤◌, Bool, true, false, cond, List, [], ◌∷◌, ◌++◌, Option, Some, map, filter, length, arith}
use Rattle.std.specs.Prelude.{◌==◌, slice_get, if◌then◌else◌}
use Rattle.std.specs.List.{filter_map, cons_option}
use Rattle.std.specs.Option.{option_map}
use Rattle.std.proofs.lemmas.List.{length-map}
use Rattle.std.proofs.lemmas.List.Elements.{filter-append, filter_map-append}
use Rattle.relay_outside.specs.declared.ports.PortCall.{PortCall}
use Rattle.relay_outside.specs.declared.settings.Config.{Config}
use Rattle.relay_outside.specs.declared.ports.InCall.{InCall}
use Rattle.relay_outside.specs.declared.ports.OutCall.{OutCall}
use Rattle.relay_outside.specs.DeviceLogs.{EndLog}
use Rattle.turn_table.specs.declared.hands.Hand.{Hand}
use Rattle.turn_table.specs.Hands.{view, entries, starts, parts}
use Rattle.histories.specs.Words.{In, here, there}
use Rattle.histories.proofs.Lists.{in_left, filtered, maps}
use Rattle.port_pool.specs.declared.holder.Holder.{Holder}
use Rattle.call_cell.specs.Cells.{CellEntry, Expire, since_end, legs}
use Rattle.call_cell.specs.Shapes.{CellShape}
use Rattle.call_cell.specs.SignalEntries.{is_lasting, lasting_entries}
use Rattle.call_cell.specs.Demands.{is_due}
use Rattle.call_cell.specs.CellHistories.{CellFor, cell_last_moment}
use Rattle.call_cell.specs.Expiries.{CellExpires, due_by, with_moment}
use Rattle.call_cell.specs.declared.cell.Cell as cell
use Rattle.call_cell.proofs.Asking.{cell_expires}
use Rattle.call_cell.proofs.Nested.{legs_kept}
use Rattle.call_cell.proofs.NewKeys.{brings_same}
use Rattle.call_shapes.proofs.Needs.{cell_within}
use Rattle.call_board.specs.Acts.{Call}
use Rattle.call_board.specs.declared.board.Board.{Board}
use Rattle.call_board.specs.declared.live_call.LiveCall.{LiveCall}
use Rattle.call_board.specs.Calls.{is_due_by}
use Rattle.call_board.specs.Shapes.{LiveShape, board_shape, live_shape, shape_numbered}
use Rattle.call_board.specs.Views.{View, CallView, call_numbered}
use Rattle.call_board.specs.Boards.{BoardMatches, CallFor, CallsFor, IsLive}
use Rattle.call_board.proofs.Found.{found_is_live}
use Rattle.relay_core.specs.Entries as event
use Rattle.relay_core.specs.Entries.{Event, Cell, Box, Entry, is_at, cell_at, cell_entry, cell_history, history}
use Rattle.relay_core.specs.Scripts.{Owed, owed_by}
use Rattle.relay_core.specs.Records.{Made, list_of}
use Rattle.relay_core.specs.Turns.{IsAbove, GainsNested, Numbered, made_by}
use Rattle.relay_core.specs.FirstPlaces.{AreParts}
use Rattle.relay_core.specs.KeptAfter.{IsWholeWith, cells_after, cell_shape_after, relay_after}
use Rattle.relay_core.specs.PlaceHistories.{Stands}
use Rattle.relay_core.specs.declared.part.Part.{Part}
use Rattle.relay_core.specs.declared.part.Part.TheVariants as part
use Rattle.relay_core.proofs.Given.{given_whole_cell}
use Rattle.relay_core.proofs.Histories.{at_place}
use Rattle.relay_core.proofs.KeptGained.{hand_cells}
use Rattle.relay_core.proofs.Shut.{same_history}
use Rattle.relay_core.proofs.Lasting.{lasts}
use Rattle.relay_core.proofs.Turns.{filter_append, nothing_more}
use Rattle.board_turns.specs.InCells.{Expires, HasNewKeys, in_cell_of}
use Rattle.board_turns.proofs.Nesting.{above_rows}
use Rattle.board_turns.specs.CallEnds.{CanEnd, IsCallOf}
use Rattle.board_turns.specs.Departures.{cell_kept}
use Rattle.board_turns.specs.Ticks.{CanAsk, CanExpire, IsDueBy}
use Rattle.board_turns.proofs.Closed.{list_gained}
use Rattle.board_turns.proofs.Stopped.{calls_long, get_map, in_at}
use Rattle.board_turns.proofs.Tying.{NothingLeaves}

-- The lasting entries of a cell, where others come.

abbrev lasting_of : List Entry → List CellEntry
lasting_of xs = lasting_entries (filter_map cell_entry xs)

lasting_both : (xs ys : List Entry) → lasting_of (xs ++ ys) ≡ lasting_of xs ++ lasting_of ys
lasting_both xs ys =
    ap lasting_entries (filter_map-append cell_entry xs ys)
    ∙ filter-append (λ (e : CellEntry). is_lasting e.event) (filter_map cell_entry xs) (filter_map cell_entry ys)

passing_event : (moment : ℕ) (v : Event) (rest : List CellEntry) → lasts v ≡ false → lasting_entries (cons_option (cell_at moment v) rest) ≡ lasting_entries rest
passing_event moment (event.Board b) rest passes = refl
passing_event moment (Box b) rest passes = refl
passing_event moment (Cell c) rest passes = ap (λ (b : Bool). cond b (record { moment = moment; event = c } ∷ lasting_entries rest) (lasting_entries rest)) passes

none_lasts : (xs : List Entry) → ((x : Entry) → In x xs → lasts x.event ≡ false) → lasting_of xs ≡ []
none_lasts [] passes = refl
none_lasts (x ∷ xs) passes =
    passing_event x.moment x.event (filter_map cell_entry xs) (passes x (here refl)) ∙ none_lasts xs (λ y i. passes y (there i))

-- entries that do not last change nothing of what lasts
pub still_lasting : (l ns : List Entry) (place n : ℕ) → ((x : Entry) → In x ns → x.place ≡ place → lasts x.event ≡ false)
    → lasting_entries (cell_history (l ++ ns) place n) ≡ lasting_entries (cell_history l place n)
still_lasting l ns place zero passes = refl
still_lasting l ns place (suc n) passes =
    lasting_both (filter (is_at place n) (l ++ ns)) (history (l ++ ns) place n)
    ∙ ap (λ (es : List CellEntry). es ++ lasting_entries (cell_history (l ++ ns) place n))
    (ap lasting_of (filter_append (is_at place n) l ns)
    ∙ lasting_both (filter (is_at place n) l) (filter (is_at place n) ns)
    ∙ ap (λ (es : List CellEntry). lasting_of (filter (is_at place n) l) ++ es)
    (none_lasts (filter (is_at place n) ns) (λ x i. let f = filtered (is_at place n) ns i in passes x f.0 (at_place place n x f.1).0))
    ∙ nothing_more (lasting_of (filter (is_at place n) l)))
    ∙ ap (λ (es : List CellEntry). lasting_of (filter (is_at place n) l) ++ es) (still_lasting l ns place n passes)
    ∙ sym (lasting_both (filter (is_at place n) l) (history l place n))

-- It is still the call.

pub still_call : (config : Config) (l ns : List Entry) (board : Board) (call : ℕ) (of : Call) (legs : List Holder)
    → IsCallOf config l board call of legs → ((x : Entry) → In x ns → x.place ≡ of.cell → lasts x.event ≡ false) → IsCallOf config (l ++ ns) board call of legs
still_call config l ns board call of its is passes =
    let before = λ (m : ℕ) (a : IsAbove (l ++ ns) of.cell m). let b : IsAbove l of.cell m = (λ x i p. a x (in_left l ns i) p) in b in
    let same = λ (m : ℕ). still_lasting l ns of.cell m passes in
    record {
      view = is.view;
      shows = is.shows;
      apart = is.apart;
      seen = is.seen;
      found = is.found;
      of_is = is.of_is;
      low = is.low;
      high = is.high;
      keys = λ m a. brings_same (cell_history l of.cell m) (cell_history (l ++ ns) of.cell m) (sym (same m)) (is.keys m (before m a));
      legs_are = λ m a. sym (legs_kept (cell_history (l ++ ns) of.cell m)) ∙ ap (λ (es : List CellEntry). legs (since_end es)) (same m)
          ∙ legs_kept (cell_history l of.cell m) ∙ is.legs_are m (before m a);
    }

-- The question as a step, before the end of a call: one that is overdue isn't asked.

abbrev pub question : (cell : ℕ) (overdue : Bool) → List Owed
question cell overdue = if overdue then [] else in_cell_of cell (Expire true) ∷ []

in_question : (cell : ℕ) (overdue : Bool) (w : Owed) → In w (question cell overdue) → w ≡ in_cell_of cell (Expire true)
in_question cell true w i = elim i [ ]
in_question cell false w (here q) = q
in_question cell false w (there j) = elim j [ ]

only_asked : (cell : ℕ) (overdue : Bool) (ns : List Entry) → map owed_by ns ≡ question cell overdue → (x : Entry) → In x ns → owed_by x ≡ in_cell_of cell (Expire true)
only_asked cell overdue ns owes x i = in_question cell overdue (owed_by x) (subst (λ (ws : List Owed). In (owed_by x) ws) owes (maps owed_by ns i))

module _ {M S T : Type 0} {g : _} where
  pub asked_call : (config : Config) (number moment cell : ℕ) (overdue : Bool) (old new : Hand M S Made T g) (board : Board) (call : ℕ) (of : Call) (legs : List Holder)
      → IsCallOf config (made_by old) board of.number of legs → call ≡ of.number → cell ≡ of.cell
      → GainsNested number moment (question cell overdue) old new → IsCallOf config (made_by new) board call of legs
  asked_call config number moment cell overdue old new board call of legs is call_is cell_is gains =
      let ns = list_of gains.rows in
      let asks = only_asked cell overdue ns gains.gained.owes in
      subst (λ (k : ℕ). IsCallOf config (made_by new) board k of legs) (sym call_is)
      (subst (λ (l : List Entry). IsCallOf config l board of.number of legs) (sym (list_gained number moment (question cell overdue) old new gains))
      (still_call config (made_by old) ns board of.number of legs is (λ x i p. ap (λ (v : Owed). lasts v.event) (asks x i))))

-- And it may still be ended.

either_shape : (t : Bool) (shape : CellShape) → cond t shape shape ≡ shape
either_shape true shape = refl
either_shape false shape = refl

question_keeps : (cell : ℕ) (overdue : Bool) (cells : ℕ → CellShape) (k : ℕ) → cells_after (question cell overdue) cells k ≡ cells k
question_keeps cell true cells k = refl
question_keeps cell false cells k = either_shape (cell == k) (cells k)

module _ {M I O T : Type 0} {g : _} where
  pub asked_can : (config : Config) (number moment cell : ℕ) (overdue : Bool) (old new : Hand M (Part I O) Made T g) (board : Board) (log : Option (List PortCall)) (call number_of : ℕ)
      → CanEnd config old board log number_of → call ≡ number_of → starts new ≡ starts old → GainsNested number moment (question cell overdue) old new
      → IsWholeWith config new (board_shape board) → CanEnd config new board log call
  asked_can config number moment cell overdue old new board log call number_of can call_is same gains whole =
      let kept : cell_kept config new can.live.cell ≡ cell_kept config old can.live.cell
      = hand_cells config number moment (question cell overdue) old new same gains can.live.cell
      ∙ question_keeps cell overdue (cell_shape_after config (starts old) (made_by old)) can.live.cell in
      record {
        whole = whole;
        live = can.live;
        found = ap (λ (k : ℕ). shape_numbered (board_shape board) k) call_is ∙ can.found;
        held = can.held;
        opens = can.opens;
        are_held = λ leg i. can.are_held leg (subst (λ (shape : CellShape). In leg shape.legs) kept i);
      }

-- What the cell of a hand with all parts returns follows from its whole history.

-- the answer for one history of a cell is that for each
answer_same : {O : Type 0} (config : Config) (old new : cell.Cell O) (h k : List CellEntry) (now : ℕ) (due : Bool) → CellFor config old h → CellFor config old k
    → CellExpires config old new h now due → due ≡ is_due config (since_end k) (max now (cell_last_moment k))
answer_same config old new h k now due one two does =
    let moment = max old.moment now in
    let answer = due_by (with_moment old moment) moment in
    does.fits ∙ sym (cell_expires config old h now moment answer one refl refl).fits ∙ (cell_expires config old k now moment answer two refl refl).fits

module _ {M I O T : Type 0} {g : _} (it : I → EndLog InCall) (ic : I → ℕ) (ot : O → EndLog OutCall) (oc : O → ℕ) where
  pub due_by_whole : (config : Config) (hand : Hand M (Part I O) Made T g) (place now : ℕ) (due : Bool) → AreParts config (starts hand) → Numbered (made_by hand)
      → 1 ≤ place → place ≤ config.max_sessions → HasNewKeys (made_by hand) place → parts hand ≡ 1024 → Expires it ic ot oc config hand place now due
      → IsDueBy config (made_by hand) place now due
  due_by_whole config hand place now due are numbered low high keys all asked =
      let was = asked.was in
      let above = above_rows (entries hand) place was.number was.given.above in
      let stands : Stands {I = I} config (part.Cell asked.old) (history (made_by hand) place was.number) =
      given_whole_cell it ic ot oc config (view hand) place was.number (part.Cell asked.old) are low high was.given all numbered (keys was.number above) in
      record {
        number = was.number;
        at_front = above;
        history = stands.history;
        recorded = stands.is_recorded;
        fitting = stands.fitting;
        due_is = answer_same config asked.old asked.new asked.history stands.history now due was.stands stands.stands asked.expires;
      }

-- what came elsewhere changes nothing
pub due_before : (config : Config) (l ns : List Entry) (place moment : ℕ) (due : Bool) → ((x : Entry) → In x ns → x.place ≡ place → ⊥)
    → IsDueBy config (l ++ ns) place moment due → IsDueBy config l place moment due
due_before config l ns place moment due apart by = record {
  number = by.number;
  at_front = λ x i p. by.at_front x (in_left l ns i) p;
  history = by.history;
  recorded = by.recorded ∙ ap (filter_map cell_entry) (same_history l ns place by.number apart);
  fitting = by.fitting;
  due_is = by.due_is;
}

-- Its place among the live calls.

pub below : {A : Type 0} (xs : List A) (i : ℕ) (x : A) → slice_get xs i ≡ Some x → i < length xs
below [] i x at = absurd (let q = at in cc)
below (y ∷ ys) zero x at = omega arith
below (y ∷ ys) (suc i) x at = let rest = below ys i x at in omega (arith, rest)

-- by what the board keeps
pub ask_index : (board : Board) (index : ℕ) (live : LiveShape) → slice_get (board_shape board).calls index ≡ Some live → index < length board.calls.list
ask_index board index live at =
    let long = length-map board.calls.list live_shape in
    let low = below (board_shape board).calls index live at in
    omega (arith, long, low)

pub ask_number : (board : Board) (index : ℕ) (live : LiveShape) (call : ℕ) → slice_get (board_shape board).calls index ≡ Some live
    → option_map (λ (x : LiveShape). x.number) (slice_get (board_shape board).calls index) ≡ Some call → call ≡ live.number
ask_number board index live call at is =
    let found : Some call ≡ Some live.number = sym is ∙ ap (λ (o : Option LiveShape). option_map (λ (x : LiveShape). x.number) o) at in
    cc

pub ask_cell : {M I O T : Type 0} {g : _} (config : Config) (hand : Hand M (Part I O) Made T g) (board : Board) (log : Option (List PortCall)) (index cell : ℕ)
    → (asks : CanAsk config hand board log index) → option_map (λ (x : LiveShape). x.cell) (slice_get (board_shape board).calls index) ≡ Some cell
    → (1 ≤ cell) × (cell ≤ config.max_sessions)
ask_cell config hand board log index cell asks is =
    let relay = relay_after config (starts hand) (made_by hand) (board_shape board) in
    let found : Some cell ≡ Some asks.live.cell = sym is ∙ ap (λ (o : Option LiveShape). option_map (λ (x : LiveShape). x.cell) o) asks.at in
    let cell_is : cell ≡ asks.live.cell = cc in
    let within = cell_within config (board_shape board) relay.cells relay.holders asks.live asks.can.whole (in_at (board_shape board).calls index asks.live asks.at) in
    let low = within.0 in
    let high = within.1 in
    (omega (arith, low, cell_is), omega (arith, high, cell_is))

-- the call at a place is kept at that place
call_at : (config : Config) (calls : List LiveCall) (cs : List CallView) (i : ℕ) (c : CallView) → CallsFor config calls cs → slice_get cs i ≡ Some c
    → (call : LiveCall) × (slice_get calls i ≡ Some call) × CallFor config call c
call_at config [] [] i c for at = absurd (let q = at in cc)
call_at config [] (d ∷ cs) i c for at = absurd for
call_at config (call ∷ calls) [] i c for at = absurd for
call_at config (call ∷ calls) (d ∷ cs) zero c for at =
    let is : Some d ≡ Some c = at in
    let same : d ≡ c = cc in
    (call, refl, subst (λ (x : CallView). CallFor config call x) same for.0)
call_at config (call ∷ calls) (d ∷ cs) (suc i) c for at = call_at config calls cs i c for.1 at

pub ask_by : {M I O T : Type 0} {g : _} (config : Config) (hand : Hand M (Part I O) Made T g) (board : Board) (log : Option (List PortCall)) (moment index : ℕ) (of : Call)
    (legs : List Holder) (overdue : Bool) → CanExpire config hand board log moment index of legs overdue → CanAsk config hand board log index
ask_by config hand board log moment index of legs overdue asks =
    let kept = call_at config board.calls.list asks.view.calls index asks.seen asks.shows.calls_for asks.at in
    let number_is : kept.0.number ≡ of.number = kept.2.number_is ∙ ap (λ (c : Call). c.number) asks.of_is in
    record {
      live = live_shape kept.0;
      at = get_map live_shape board.calls.list index kept.0 kept.1;
      can = subst (λ (k : ℕ). CanEnd config hand board log k) (sym number_is) asks.can;
    }

module _ {M I O T : Type 0} {g : _} (config : Config) (hand : Hand M (Part I O) Made T g) (board : Board) (log : Option (List PortCall)) (moment index : ℕ) (of : Call)
    (legs : List Holder) (overdue : Bool) (asks : CanExpire config hand board log moment index of legs overdue) where
  pub index_below : index < length board.calls.list
  index_below =
      let long = calls_long config board.calls.list asks.view.calls asks.shows.calls_for in
      let low = below asks.view.calls index asks.seen asks.at in
      omega (arith, long, low)

  pub number_there : (call : ℕ) → ((config : Config) (v : View) → BoardMatches config board v → slice_get (map (λ (c : CallView). c.of.number) v.calls) index ≡ Some call) → call ≡ of.number
  number_there call answers =
      let found : Some asks.seen.of.number ≡ Some call = sym (get_map (λ (c : CallView). c.of.number) asks.view.calls index asks.seen asks.at) ∙ answers config asks.view asks.shows in
      let same : asks.seen.of.number ≡ call = cc in
      sym same ∙ ap (λ (c : Call). c.number) asks.of_is

  pub cell_there : (cell : ℕ) → ((config : Config) (v : View) → BoardMatches config board v → slice_get (map (λ (c : CallView). c.of.cell) v.calls) index ≡ Some cell) → cell ≡ of.cell
  cell_there cell answers =
      let found : Some asks.seen.of.cell ≡ Some cell = sym (get_map (λ (c : CallView). c.of.cell) asks.view.calls index asks.seen asks.at) ∙ answers config asks.view asks.shows in
      let same : asks.seen.of.cell ≡ cell = cc in
      sym same ∙ ap (λ (c : Call). c.cell) asks.of_is

  found_there : (call : ℕ) → ((config : Config) (v : View) → BoardMatches config board v → slice_get (map (λ (c : CallView). c.of.number) v.calls) index ≡ Some call)
      → call_numbered asks.view call ≡ Some asks.seen
  found_there call answers = ap (call_numbered asks.view) (number_there call answers) ∙ asks.found

  -- it is a live call of the board
  pub live_there : (call : ℕ) → ((config : Config) (v : View) → BoardMatches config board v → slice_get (map (λ (c : CallView). c.of.number) v.calls) index ≡ Some call)
      → IsLive board call
  live_there call answers = found_is_live config board asks.view call asks.seen asks.shows (found_there call answers)

  -- and what the board says of it is so
  pub overdue_there : (call : ℕ) (said : Bool) → ((config : Config) (v : View) → BoardMatches config board v → slice_get (map (λ (c : CallView). c.of.number) v.calls) index ≡ Some call)
      → ((config : Config) (v : View) (c : CallView) → BoardMatches config board v → call_numbered v call ≡ Some c → said ≡ is_due_by moment c.due) → said ≡ overdue
  overdue_there call said answers is = is config asks.view asks.seen asks.shows (found_there call answers) ∙ sym asks.overdue_is

-- Nothing leaves by a question.
pub nothing_parts : (cell : ℕ) (due : Bool) (owed : Owed) → In owed (in_cell_of cell (Expire due) ∷ []) → NothingLeaves owed.event
nothing_parts cell due owed (here q) = subst (λ (w : Owed). NothingLeaves w.event) (sym q) (record { closing = refl; parting = refl })
nothing_parts cell due owed (there i) = elim i [ ]
