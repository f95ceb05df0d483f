-- The boxes that are shut in a turn of the board are those of the legs that its entry closes, in order.
use Rattle.std.proofs.Common.{◌≡◌, ◌∙◌, sym, ap, refl, ℕ, ◌+◌, List, [], ◌∷◌, ◌++◌, Bool, true, false, cond, Option, Some, None, map, filter, append-nil, arith}
use Rattle.std.specs.Prelude.{◌&&◌, ◌==◌, Result, Ok, Err}
use Rattle.std.specs.List.{flat_map}
use Rattle.std.proofs.lemmas.List.{map-append}
use Rattle.relay_outside.specs.declared.settings.Config.{Config}
use Rattle.ng_command.specs.Meanings.{Said, Ping, Offer, Answer, Delete, Query, Listing}
use Rattle.ng_reply.specs.declared.code.ErrorCode.{ErrorCode}
use Rattle.histories.specs.Words.{In, has}
use Rattle.port_pool.specs.declared.holder.Holder.{Holder}
use Rattle.port_pool.specs.declared.reports.LegReport.{LegReport}
use Rattle.port_pool.specs.Boxes.{Open, Take, Close}
use Rattle.call_cell.specs.Cells.{Prepare}
use Rattle.call_board.specs.Acts as act
use Rattle.call_board.specs.Acts.{Call, Act, Control, BoardEvent, Turn, Tick, Stop, BoardEntry}
use Rattle.call_board.specs.Requests.{asked}
use Rattle.call_board.specs.Calls.{live, ended_by_act, find_call, is_due_at}
use Rattle.call_board.specs.Fits.{FitsBoard, AreNamedWhenDue}
use Rattle.call_board.specs.Futures.{closed_pairs}
use Rattle.call_board.specs.Pairs.{signalled_by, closed_of}
use Rattle.relay_core.specs.FirstPlaces.{pair_at}
use Rattle.relay_core.specs.Entries.{Event, Board, Cell, Box, Entry, is_nested, belongs_to, board_entry, board_history}
use Rattle.relay_core.specs.Legal.{Orderly}
use Rattle.relay_core.specs.ReturnedPairs.{shuts_in, pairs_shut}
use Rattle.relay_core.specs.Scripts.{Owed, owed_by, open_owed, closing, in_cell, closings, ending, asking, expiring, reading, reading_out_of_memory, script_of_act, script}
use Rattle.relay_core.specs.EndLogs.{is_closing}
use Rattle.relay_core.proofs.Turns.{filter_append}

-- the pairs of the boxes that these events shut, in order
abbrev shut_by : Config → List Owed → List ℕ
shut_by config ws = map (λ (w : Owed). pair_at config w.place) (filter (λ (w : Owed). is_closing w.event) ws)

shut_append : (config : Config) (xs ys : List Owed) → shut_by config (xs ++ ys) ≡ shut_by config xs ++ shut_by config ys
shut_append config xs ys =
    ap (λ (ws : List Owed). map (λ (w : Owed). pair_at config w.place) ws) (filter_append (λ (w : Owed). is_closing w.event) xs ys)
    ∙ map-append (λ (w : Owed). pair_at config w.place) (filter (λ (w : Owed). is_closing w.event) xs) (filter (λ (w : Owed). is_closing w.event) ys)

-- By the script.

shut_openings : (config : Config) (legs : List Holder) → shut_by config (map (open_owed config) legs) ≡ []
shut_openings config [] = refl
shut_openings config (leg ∷ legs) = shut_openings config legs

own_pair : (config : Config) (pair : ℕ) → pair_at config (config.max_sessions + 1 + pair) ≡ pair
own_pair config pair = omega arith

shut_closings : (config : Config) (legs : List Holder) → shut_by config (map (closing config) legs) ≡ map (λ (leg : Holder). leg.pair) legs
shut_closings config [] = refl
shut_closings config (leg ∷ legs) =
    ap (λ (p : ℕ). p ∷ shut_by config (map (closing config) legs)) (own_pair config leg.pair)
    ∙ ap (λ (ps : List ℕ). leg.pair ∷ ps) (shut_closings config legs)

shut_reading : (config : Config) (o : Option Call) (report : Option (List LegReport)) → shut_by config (reading o report) ≡ []
shut_reading config None report = refl
shut_reading config (Some c) None = refl
shut_reading config (Some c) (Some report) = refl

shut_out_of_memory : (config : Config) (h : List BoardEntry) (c : Control) (said : Result Said ErrorCode) → shut_by config (reading_out_of_memory h c said) ≡ []
shut_out_of_memory config h c (Ok (Query id)) = shut_reading config (find_call h id) c.given.report
shut_out_of_memory config h c (Ok Ping) = refl
shut_out_of_memory config h c (Ok (Offer id from sdp options)) = refl
shut_out_of_memory config h c (Ok (Answer id from to sdp options)) = refl
shut_out_of_memory config h c (Ok (Delete id from fatal seconds)) = refl
shut_out_of_memory config h c (Ok (Listing limit)) = refl
shut_out_of_memory config h c (Err code) = refl

-- the legs of these calls that the entry closes, by their pairs
abbrev pairs_of : List BoardEntry → BoardEntry → List Call → List ℕ
pairs_of h e calls = map (λ (leg : Holder). leg.pair) (flat_map (closed_of h e) calls)

one_call : (config : Config) (h : List BoardEntry) (e : BoardEntry) (of : Call) → shut_by config (closings config h e of) ≡ pairs_of h e (of ∷ [])
one_call config h e of =
    shut_closings config (closed_of h e of) ∙ ap (λ (legs : List Holder). map (λ (leg : Holder). leg.pair) legs) (sym (append-nil (closed_of h e of)))

shut_act : (config : Config) (h : List BoardEntry) (e : BoardEntry) (c : Control) (a : Act)
    → shut_by config (script_of_act config h e c a) ≡ pairs_of h e (signalled_by a ++ ended_by_act a)
shut_act config h e c act.Repeated = refl
shut_act config h e c act.OutOfMemory = shut_out_of_memory config h c (asked config c.too_long c.pairs)
shut_act config h e c (act.Failed code) = refl
shut_act config h e c (act.Undone code leases draws) = refl
shut_act config h e c (act.Offered o) =
    shut_append config (map (open_owed config) o.legs) (in_cell o.of (Prepare o.of.number o.legs o.keys o.dropped) ∷ closings config h e o.of)
    ∙ ap (λ (ps : List ℕ). ps ++ shut_by config (closings config h e o.of)) (shut_openings config o.legs)
    ∙ one_call config h e o.of
shut_act config h e c (act.Answered a) = one_call config h e a.of
shut_act config h e c (act.Deleted of) = one_call config h e of
shut_act config h e c (act.Queried of) = shut_reading config (Some of) c.given.report
shut_act config h e c act.Told = refl
shut_act config h e c (act.Delayed of s) = refl

more_calls : (config : Config) (h : List BoardEntry) (e : BoardEntry) (of : Call) (rest : List Owed) (calls : List Call)
    → shut_by config rest ≡ pairs_of h e calls → shut_by config (ending config h e of ++ rest) ≡ pairs_of h e (of ∷ calls)
more_calls config h e of rest calls same =
    shut_append config (closings config h e of) rest
    ∙ ap (λ (ps : List ℕ). ps ++ shut_by config rest) (shut_closings config (closed_of h e of))
    ∙ ap (λ (ps : List ℕ). map (λ (leg : Holder). leg.pair) (closed_of h e of) ++ ps) same
    ∙ sym (map-append (λ (leg : Holder). leg.pair) (closed_of h e of) (flat_map (closed_of h e) calls))

shut_stop : (config : Config) (h : List BoardEntry) (e : BoardEntry) (calls : List Call) → shut_by config (flat_map (ending config h e) calls) ≡ pairs_of h e calls
shut_stop config h e [] = refl
shut_stop config h e (of ∷ calls) = more_calls config h e of (flat_map (ending config h e) calls) calls (shut_stop config h e calls)

abbrev is_named : List Call → Call → Bool
is_named calls c = has (map (λ (d : Call). d.number) calls) c.number

-- those of a tick, of these calls, each of which it names where that is due
shut_tick : (config : Config) (h : List BoardEntry) (e : BoardEntry) (calls those : List Call)
    → AreNamedWhenDue h e.moment (map (λ (d : Call). d.number) calls) those
    → shut_by config (flat_map (expiring config h e calls) those) ≡ pairs_of h e (filter (is_named calls) those)
shut_tick config h e calls [] when = refl
shut_tick config h e calls (of ∷ those) when =
    by_case (is_named calls of) (is_due_at h of.number e.moment) when.0 (shut_tick config h e calls those when.1)
  where
    by_case : (named due : Bool) → (due ≡ true → named ≡ true)
        → shut_by config (flat_map (expiring config h e calls) those) ≡ pairs_of h e (filter (is_named calls) those)
        → shut_by config (cond due (ending config h e of) (asking config h e of named) ++ flat_map (expiring config h e calls) those)
        ≡ pairs_of h e (cond named (of ∷ filter (is_named calls) those) (filter (is_named calls) those))
    by_case true true names rest = more_calls config h e of (flat_map (expiring config h e calls) those) (filter (is_named calls) those) rest
    by_case true false names rest = more_calls config h e of (flat_map (expiring config h e calls) those) (filter (is_named calls) those) rest
    by_case false true names rest = absurd (let k : false ≡ true = names refl in cc)
    by_case false false names rest = rest

shut_event : (config : Config) (h : List BoardEntry) (moment : ℕ) (v : BoardEvent) → FitsBoard config h (record { moment = moment; event = v })
    → shut_by config (script config h (record { moment = moment; event = v })) ≡ closed_pairs h (record { moment = moment; event = v })
shut_event config h moment (Turn c) fits = shut_act config h (record { moment = moment; event = Turn c }) c c.act
shut_event config h moment (Tick calls) fits =
    let e : BoardEntry = record { moment = moment; event = Tick calls } in
    shut_tick config h e calls (live h) fits.1 ∙ ap (λ (cs : List Call). pairs_of h e cs) (sym fits.0)
shut_event config h moment (Stop calls) fits = shut_stop config h (record { moment = moment; event = Stop calls }) calls

-- By the list.

pub closing_nested : (v : Event) → is_closing v ≡ true → is_nested v ≡ true
closing_nested (Box Close) t = refl
closing_nested (Box (Open leg)) t = refl
closing_nested (Box (Take half taken)) t = absurd (let k : false ≡ true = t in cc)
closing_nested (Cell c) t = absurd (let k : false ≡ true = t in cc)
closing_nested (Board b) t = absurd (let k : false ≡ true = t in cc)

same_shut : (config : Config) (w : Owed) (ws : List Owed) (t : Bool) → is_closing w.event ≡ t
    → shut_by config (w ∷ ws) ≡ map (λ (x : Owed). pair_at config x.place) (cond t (w ∷ filter (λ (x : Owed). is_closing x.event) ws) (filter (λ (x : Owed). is_closing x.event) ws))
same_shut config w ws t q =
    ap (λ (b : Bool). map (λ (x : Owed). pair_at config x.place) (cond b (w ∷ filter (λ (x : Owed). is_closing x.event) ws) (filter (λ (x : Owed). is_closing x.event) ws))) q

shut_one : (config : Config) (w : Owed) (ws : List Owed) (t : Bool) → is_closing w.event ≡ t
    → shut_by config (w ∷ ws) ≡ cond t (pair_at config w.place ∷ shut_by config ws) (shut_by config ws)
shut_one config w ws true q = same_shut config w ws true q
shut_one config w ws false q = same_shut config w ws false q

shut_owed : (config : Config) (l : List Entry) (n : ℕ) → pairs_shut config l n ≡ shut_by config (map owed_by (filter (belongs_to n) l))
shut_owed config [] n = refl
shut_owed config (e ∷ l) n = by_case (is_closing e.event) (is_nested e.event) (e.board == n) refl (closing_nested e.event) (shut_owed config l n)
  where
    by_case : (closes nested of_n : Bool) → is_closing e.event ≡ closes → (closes ≡ true → nested ≡ true)
        → pairs_shut config l n ≡ shut_by config (map owed_by (filter (belongs_to n) l))
        → map (λ (x : Entry). pair_at config x.place) (cond (closes && of_n) (e ∷ filter (shuts_in n) l) (filter (shuts_in n) l))
        ≡ shut_by config (map owed_by (cond (nested && of_n) (e ∷ filter (belongs_to n) l) (filter (belongs_to n) l)))
    by_case true true true is nested rest =
        ap (λ (ps : List ℕ). pair_at config e.place ∷ ps) rest ∙ sym (shut_one config (owed_by e) (map owed_by (filter (belongs_to n) l)) true is)
    by_case true true false is nested rest = rest
    by_case true false of_n is nested rest = absurd (let k : false ≡ true = nested refl in cc)
    by_case false true true is nested rest = rest ∙ sym (shut_one config (owed_by e) (map owed_by (filter (belongs_to n) l)) false is)
    by_case false true false is nested rest = rest
    by_case false false of_n is nested rest = rest

-- so in an orderly list the boxes that are shut in the turn of a board's entry are those of the legs that it closes after the board's history
pub shut_closed : (config : Config) (l : List Entry) → Orderly config l → (b : Entry) (e : BoardEntry) → In b l → board_entry b ≡ Some e
    → pairs_shut config l b.number ≡ closed_pairs (board_history l b.number) e
shut_closed config l o b e i q =
    let fits = o.board_fits b e i q in
    shut_owed config l b.number
    ∙ ap (λ (ws : List Owed). shut_by config ws) (o.scripted b e i fits.0 q)
    ∙ shut_event config (board_history l b.number) e.moment e.event fits.1
