-- A box is opened only where it has no holder, and closed only where it has one.
use Rattle.std.proofs.Common.{◌≡◌, ◌∙◌, sym, ap, subst, refl, ℕ, ◌<◌, ◌⊎◌, inl, inr, List, [], ◌∷◌, ◌++◌, Bool, true, false, cond, Option, Some, None, map, filter, ◌==◌, arith}
use Rattle.std.specs.Prelude.{◌&&◌, nat_lt}
use Rattle.std.specs.List.{flat_map, filter_map}
use Rattle.std.proofs.lemmas.List.{map-append}
use Rattle.relay_outside.specs.declared.settings.Config.{Config}
use Rattle.histories.specs.Words.{In, here, there, Before, has}
use Rattle.histories.proofs.Lists.{in_append, keeps, mapped, maps, equal}
use Rattle.port_pool.specs.declared.holder.Holder.{Holder}
use Rattle.port_pool.specs.Boxes.{BoxEvent, Open, Close, holder}
use Rattle.call_cell.specs.Cells.{Prepare}
use Rattle.port_pool.specs.declared.reports.LegReport.{LegReport}
use Rattle.ng_command.specs.Meanings.{Said, Ping, Offer, Answer, Delete, Query, Listing}
use Rattle.ng_reply.specs.declared.code.ErrorCode.{ErrorCode}
use Rattle.std.specs.Prelude.{Result, Ok, Err}
use Rattle.call_board.specs.Acts as act
use Rattle.call_board.specs.Acts.{Act, Call, Control, BoardEvent, Turn, Tick, Stop, BoardEntry}
use Rattle.call_board.specs.Calls.{live, find_call, is_due_at}
use Rattle.call_board.specs.Pairs.{Once, held, closed_of, closes_leg}
use Rattle.call_board.specs.Requests.{asked}
use Rattle.call_board.specs.Fits.{FitsBoard, IsFitting}
use Rattle.call_board.proofs.Once.{once_equal, once_append, once_filtered}
use Rattle.call_board.proofs.Calls.{live_numbers}
use Rattle.call_board.proofs.Cells.{live_cells_once}
use Rattle.call_board.proofs.Held.{closed_of_held}
use Rattle.call_board.proofs.Free.{free_not_held, new_leg_free, new_legs_once, held_once, held_apart}
use Rattle.relay_core.specs.Entries.{Event, Board, Cell, Box, Entry, is_nested, belongs_to, front, board_history, history, box_in, box_event, box_history, box_of}
use Rattle.relay_core.specs.Scripts.{Owed, owed_by, open_owed, closing, in_cell, closings, ending, asking, expiring, reading, reading_out_of_memory, script_of_act, script}
use Rattle.relay_core.specs.Legal.{Orderly}
use Rattle.relay_core.specs.Safe.{box_before}
use Rattle.relay_core.proofs.Histories.{and_true, both, same_at, good_history}
use Rattle.relay_core.proofs.Boards.{lt_or_eq, less_or}
use Rattle.relay_core.proofs.Lives.{not_after}
use Rattle.relay_core.proofs.Scripts.{IsNestedIn, nested_in}
use Rattle.relay_core.proofs.Boxes.{below_front, Leaves, Opened, holder_opened, opened_holder}
use Rattle.relay_core.proofs.Holders.{OwedBox, opened, closed, box_owed, passes_below, less, is_less, same_box, box_is_held, held_is_box, opened_lease}
use Rattle.relay_core.proofs.Generations.{filter_all, open_nested}
use Rattle.relay_core.proofs.Turns.{filter_append}
use Rattle.relay_core.proofs.Shut.{none_if, not_nested_leaves}

-- The boxes of a script.

abbrev is_of_box : Event → Bool
is_of_box (Box b) = true
is_of_box (Board b) = false
is_of_box (Cell c) = false

abbrev is_boxed : Owed → Bool
is_boxed w = is_of_box w.event

abbrev place_of : Owed → ℕ
place_of w = w.place

abbrev box_places : List Owed → List ℕ
box_places ws = map place_of (filter is_boxed ws)

abbrev box_of_leg : Config → Holder → ℕ
box_of_leg config leg = box_of config leg.pair

places_append : (ws vs : List Owed) → box_places (ws ++ vs) ≡ box_places ws ++ box_places vs
places_append ws vs = ap (map place_of) (filter_append is_boxed ws vs) ∙ map-append place_of (filter is_boxed ws) (filter is_boxed vs)

opening_places : (config : Config) (legs : List Holder) → box_places (map (open_owed config) legs) ≡ map (box_of_leg config) legs
opening_places config [] = refl
opening_places config (leg ∷ legs) = ap (λ ps. box_of config leg.pair ∷ ps) (opening_places config legs)

closing_places : (config : Config) (legs : List Holder) → box_places (map (closing config) legs) ≡ map (box_of_leg config) legs
closing_places config [] = refl
closing_places config (leg ∷ legs) = ap (λ ps. box_of config leg.pair ∷ ps) (closing_places config legs)

abbrev pair_of : Holder → ℕ
pair_of leg = leg.pair

boxes_once : (config : Config) (legs : List Holder) → Once (map pair_of legs) → Once (map (box_of_leg config) legs)
boxes_once config [] once = tt
boxes_once config (leg ∷ legs) once = (
  λ i. let m = mapped (box_of_leg config) legs i in
      once.0 (subst (λ n. In n (map pair_of legs)) (same_box config m.from.pair leg.pair m.makes) (maps pair_of legs m.is_in)),
  boxes_once config legs once.1,
)

closed_once : (config : Config) (h : List BoardEntry) (e : BoardEntry) (c : Call) → IsFitting config h → Once (box_places (closings config h e c))
closed_once config h e c good =
    subst Once (sym (closing_places config (closed_of h e c)))
    (boxes_once config (closed_of h e c) (once_filtered pair_of (λ leg. (leg.call == c.number) && closes_leg e leg) (held h) (held_once config h good)))

-- a box that is closed is that of a leg of the call
closed_place : (config : Config) (h : List BoardEntry) (e : BoardEntry) (c : Call) (p : ℕ) → In p (box_places (closings config h e c))
    → (leg : Holder) × In leg (closed_of h e c) × (box_of config leg.pair ≡ p)
closed_place config h e c p i =
    let m = mapped (box_of_leg config) (closed_of h e c) (subst (λ ps. In p ps) (closing_places config (closed_of h e c)) i) in
    (m.from, m.is_in, m.makes)

-- the boxes that are owed call by call
record CallByCall (config : Config) (h : List BoardEntry) (e : BoardEntry) (f : Call → List Owed) : Type 0 where
  each : (c : Call) → Once (box_places (f c))
  from : (c : Call) (p : ℕ) → In p (box_places (f c)) → (leg : Holder) × In leg (closed_of h e c) × (box_of config leg.pair ≡ p)

-- a box is that of a leg of one of the calls
abbrev IsOfCalls : Config → List BoardEntry → BoardEntry → List Call → ℕ → Type 0
IsOfCalls config h e cs p = (c : Call) × In c cs × ((leg : Holder) × In leg (closed_of h e c) × (box_of config leg.pair ≡ p))

spread_case : (config : Config) (h : List BoardEntry) (e : BoardEntry) (f : Call → List Owed) → CallByCall config h e f → (c : Call) (cs : List Call) (p : ℕ)
    → (In p (box_places (flat_map f cs)) → IsOfCalls config h e cs p) → In p (box_places (f c)) ⊎ In p (box_places (flat_map f cs)) → IsOfCalls config h e (c ∷ cs) p
spread_case config h e f by c cs p rest (inl i) = (c, here refl, by.from c p i)
spread_case config h e f by c cs p rest (inr i) = let r = rest i in (r.0, there r.1, r.2)

spread_from : (config : Config) (h : List BoardEntry) (e : BoardEntry) (f : Call → List Owed) → CallByCall config h e f → (cs : List Call) (p : ℕ)
    → In p (box_places (flat_map f cs)) → IsOfCalls config h e cs p
spread_from config h e f by [] p i = elim i [ ]
spread_from config h e f by (c ∷ cs) p i =
    spread_case config h e f by c cs p (spread_from config h e f by cs p)
    (in_append (box_places (f c)) (box_places (flat_map f cs)) (subst (λ ps. In p ps) (places_append (f c) (flat_map f cs)) i))

abbrev cell_of : Call → ℕ
cell_of c = c.cell

spread_once : (config : Config) (h : List BoardEntry) (e : BoardEntry) (f : Call → List Owed) → IsFitting config h → CallByCall config h e f → (cs : List Call)
    → ((c : Call) → In c cs → In c (live h)) → Once (map cell_of cs) → Once (box_places (flat_map f cs))
spread_once config h e f good by [] alive once = tt
spread_once config h e f good by (c ∷ cs) alive once =
    subst Once (sym (places_append (f c) (flat_map f cs)))
    (once_append (box_places (f c)) (box_places (flat_map f cs)) (by.each c)
    (spread_once config h e f good by cs (λ d i. alive d (there i)) once.1)
    (λ p i j. (
    let a = by.from c p i in
    let b = spread_from config h e f by cs p j in
    let x = closed_of_held h e c a.0 a.1 in
    let y = closed_of_held h e b.0 b.2.0 b.2.1 in
    let one : a.0 ≡ b.2.0 = held_apart config h a.0 b.2.0 good x.0 y.0 (same_box config a.0.pair b.2.0.pair (a.2 ∙ sym b.2.2)) in
    let number : b.0.number ≡ c.number = sym y.1 ∙ ap (λ (leg : Holder). leg.call) (sym one) ∙ x.1 in
    let call : b.0 ≡ c = live_numbers config h b.0 c good (alive b.0 (there b.1)) (alive c (here refl)) number in
    once.0 (subst (λ (d : Call). In d.cell (map cell_of cs)) call (maps cell_of cs b.1)))))

ending_by : (config : Config) (h : List BoardEntry) (e : BoardEntry) → IsFitting config h → CallByCall config h e (ending config h e)
ending_by config h e good = record { each = λ c. closed_once config h e c good; from = λ c p i. closed_place config h e c p i }

expiring_once : (config : Config) (h : List BoardEntry) (e : BoardEntry) (c : Call) → IsFitting config h → (timed_out due : Bool)
    → Once (box_places (cond due (ending config h e c) (asking config h e c timed_out)))
expiring_once config h e c good timed_out true = closed_once config h e c good
expiring_once config h e c good true false = closed_once config h e c good
expiring_once config h e c good false false = tt

expiring_from : (config : Config) (h : List BoardEntry) (e : BoardEntry) (c : Call) (p : ℕ) → (timed_out due : Bool)
    → In p (box_places (cond due (ending config h e c) (asking config h e c timed_out)))
    → (leg : Holder) × In leg (closed_of h e c) × (box_of config leg.pair ≡ p)
expiring_from config h e c p timed_out true i = closed_place config h e c p i
expiring_from config h e c p true false i = closed_place config h e c p i
expiring_from config h e c p false false i = elim i [ ]

expiring_by : (config : Config) (h : List BoardEntry) (e : BoardEntry) (calls : List Call) → IsFitting config h → CallByCall config h e (expiring config h e calls)
expiring_by config h e calls good = record {
  each = λ c. expiring_once config h e c good (has (map (λ (d : Call). d.number) calls) c.number) (is_due_at h c.number e.moment);
  from = λ c p i. expiring_from config h e c p (has (map (λ (d : Call). d.number) calls) c.number) (is_due_at h c.number e.moment) i;
}

read_once : (o : Option Call) (all_reports : Option (List LegReport)) → Once (box_places (reading o all_reports))
read_once None all_reports = tt
read_once (Some c) None = tt
read_once (Some c) (Some all_reports) = tt

out_of_memory_once : (h : List BoardEntry) (c : Control) (r : Result Said ErrorCode) → Once (box_places (reading_out_of_memory h c r))
out_of_memory_once h c (Ok (Query id)) = read_once (find_call h id) c.given.report
out_of_memory_once h c (Ok Ping) = tt
out_of_memory_once h c (Ok (Offer id from sdp options)) = tt
out_of_memory_once h c (Ok (Answer id from to sdp options)) = tt
out_of_memory_once h c (Ok (Delete id from fatal seconds)) = tt
out_of_memory_once h c (Ok (Listing limit)) = tt
out_of_memory_once h c (Err code) = tt

abbrev turn : ℕ → Control → BoardEntry
turn moment c = record { moment = moment; event = Turn c }

act_once : (config : Config) (h : List BoardEntry) (moment : ℕ) (c : Control) → IsFitting config h → FitsBoard config h (turn moment c) → (a : Act) → c.act ≡ a
    → Once (box_places (script_of_act config h (turn moment c) c a))
act_once config h moment c good fits act.Repeated q = tt
act_once config h moment c good fits act.OutOfMemory q = out_of_memory_once h c (asked config c.too_long c.pairs)
act_once config h moment c good fits (act.Failed code) q = tt
act_once config h moment c good fits (act.Undone code leases draws) q = tt
act_once config h moment c good fits (act.Offered o) q =
    let e = turn moment c in
    subst Once (sym (places_append (map (open_owed config) o.legs) (in_cell o.of (Prepare o.of.number o.legs o.keys o.dropped) ∷ closings config h e o.of)))
    (once_append (box_places (map (open_owed config) o.legs)) (box_places (closings config h e o.of))
    (subst Once (sym (opening_places config o.legs)) (boxes_once config o.legs (new_legs_once config h e o fits q)))
    (closed_once config h e o.of good)
    (λ p i j. (
    let m = mapped (box_of_leg config) o.legs (subst (λ ps. In p ps) (opening_places config o.legs) i) in
    let b = closed_place config h e o.of p j in
    free_not_held config h m.from.pair b.0 (new_leg_free config h e o m.from fits q m.is_in) (closed_of_held h e o.of b.0 b.1).0
    (same_box config b.0.pair m.from.pair (b.2 ∙ sym m.makes)))))
act_once config h moment c good fits (act.Answered a) q = closed_once config h (turn moment c) a.of good
act_once config h moment c good fits (act.Deleted of) q = closed_once config h (turn moment c) of good
act_once config h moment c good fits (act.Queried of) q = read_once (Some of) c.given.report
act_once config h moment c good fits act.Told q = tt
act_once config h moment c good fits (act.Delayed of s) q = tt

event_once : (config : Config) (h : List BoardEntry) (moment : ℕ) (v : BoardEvent) → IsFitting config h → FitsBoard config h (record { moment = moment; event = v })
    → Once (box_places (script config h (record { moment = moment; event = v })))
event_once config h moment (Turn c) good fits = act_once config h moment c good fits c.act refl
event_once config h moment (Tick calls) good fits =
    spread_once config h (record { moment = moment; event = Tick calls }) (expiring config h (record { moment = moment; event = Tick calls }) calls) good
    (expiring_by config h (record { moment = moment; event = Tick calls }) calls good) (live h) (λ c i. i) (live_cells_once config h good)
event_once config h moment (Stop calls) good fits =
    spread_once config h (record { moment = moment; event = Stop calls }) (ending config h (record { moment = moment; event = Stop calls })) good
    (ending_by config h (record { moment = moment; event = Stop calls }) good) calls (λ c i. subst (λ cs. In c cs) fits i)
    (subst (λ cs. Once (map cell_of cs)) (sym fits) (live_cells_once config h good))

-- an entry of the board owes one opening or close at most to a box
script_once : (config : Config) (h : List BoardEntry) (e : BoardEntry) → IsFitting config h → FitsBoard config h e → Once (box_places (script config h e))
script_once config h e good fits = event_once config h e.moment e.event good fits

-- The entries.

abbrev is_boxed_entry : Entry → Bool
is_boxed_entry e = is_of_box e.event

abbrev place_in : Entry → ℕ
place_in e = e.place

entry_case : (e : Entry) (es : List Entry) → map place_in (filter is_boxed_entry es) ≡ box_places (map owed_by es) → (b : Bool)
    → map place_in (cond b (e ∷ filter is_boxed_entry es) (filter is_boxed_entry es))
    ≡ map place_of (cond b (owed_by e ∷ filter is_boxed (map owed_by es)) (filter is_boxed (map owed_by es)))
entry_case e es rest true = ap (λ ps. e.place ∷ ps) rest
entry_case e es rest false = rest

entry_places : (es : List Entry) → map place_in (filter is_boxed_entry es) ≡ box_places (map owed_by es)
entry_places [] = refl
entry_places (e ∷ es) = entry_case e es (entry_places es) (is_boxed_entry e)

boxed : (v : Event) (b : BoxEvent) → box_in v ≡ Some b → is_of_box v ≡ true
boxed (Box c) b q = refl
boxed (Board c) b q = absurd (let k = q in cc)
boxed (Cell c) b q = absurd (let k = q in cc)

-- two nested entries of one box that belong to one entry of the board are one
one_a_box : (config : Config) (l : List Entry) → Orderly config l → (e f : Entry) (v w : BoxEvent) → In e l → In f l → is_nested e.event ≡ true → is_nested f.event ≡ true
    → box_event e ≡ Some v → box_event f ≡ Some w → e.place ≡ f.place → e.board ≡ f.board → e ≡ f
one_a_box config l o e f v w i j ne nf ve wf place board =
    let b = nested_in config l o e i ne in
    let n = b.board.number in
    let once : Once (map place_in (filter is_boxed_entry (filter (belongs_to n) l))) =
    subst Once (sym (entry_places (filter (belongs_to n) l) ∙ ap box_places (o.scripted b.board b.entry b.is_in b.at_board b.is)))
    (script_once config (board_history l n) b.entry (good_history config l o n) b.fits) in
    once_equal place_in (filter is_boxed_entry (filter (belongs_to n) l)) once
    (keeps is_boxed_entry (filter (belongs_to n) l) (keeps (belongs_to n) l i (and_true (is_nested e.event) (e.board == n) ne (equal e.board n (sym b.number_is)))) (boxed e.event v ve))
    (keeps is_boxed_entry (filter (belongs_to n) l) (keeps (belongs_to n) l j (and_true (is_nested f.event) (f.board == n) nf (equal f.board n (sym board ∙ sym b.number_is)))) (boxed f.event w wf))
    place

-- Openings.

open_refuted : (config : Config) (l : List Entry) → Orderly config l → (e : Entry) (leg other : Holder) → In e l → box_event e ≡ Some (Open leg)
    → Opened l e.place (λ x. true) e.number other → ⊥
open_refuted config l o e leg other i opens s =
    by_order (o.ordered s.entry e s.is_in i before nested s.at s.below)
  where
    nested : is_nested e.event ≡ true
    nested = open_nested e.event leg opens

    before : is_nested s.entry.event ≡ true
    before = open_nested s.entry.event other s.opens

    -- later entries of the box belong to no earlier entry of the board
    stays : (g : Entry) → In g l → g.place ≡ e.place → s.entry.number < g.number → g.number < front l e.place → passes_below e.board g ≡ true → Leaves other (box_event g)
    stays g j p later low t = at_number (less_or g.number e.number)
      where
        at_number : (g.number < e.number) ⊎ ((g.number ≡ e.number) ⊎ (e.number < g.number)) → Leaves other (box_event g)
        at_number (inl k) = s.stays g j p later k refl
        at_number (inr (inl k)) =
            let one = same_at l o.numbered g e j i p k in
            let c = both (is_nested g.event) (nat_lt g.board e.board) t in
            absurd (let m = less g.board e.board c.1 in let q = ap (λ (x : Entry). x.board) one in omega (arith, m, q))
        at_number (inr (inr k)) =
            let c = both (is_nested g.event) (nat_lt g.board e.board) t in
            absurd (let m = less g.board e.board c.1 in let q = not_after config l o e g i j nested c.0 (sym p) k in omega (arith, m, q))

    by_order : (s.entry.board < e.board) ⊎ ((s.entry.board ≡ e.board) × Before s.entry e l) → ⊥
    by_order (inr both_of) =
        let one = one_a_box config l o s.entry e (Open other) (Open leg) s.is_in i before nested s.opens opens s.at both_of.0 in
        let q = ap (λ (x : Entry). x.number) one in
        let k = s.below in
        omega (arith, q, k)
    by_order (inl k) =
        let x = opened_lease config l o e leg i nested opens in
        let h = board_history l e.board in
        let there : Opened l e.place (passes_below e.board) (front l e.place) other = record {
          entry = s.entry;
          is_in = s.is_in;
          at = s.at;
          below = below_front l s.entry e.place s.is_in s.at;
          passes = and_true (is_nested s.entry.event) (nat_lt s.entry.board e.board) before (is_less s.entry.board e.board k);
          opens = s.opens;
          stays = stays;
        } in
        let has_holder : holder (box_before l (box_of config leg.pair) e.board) ≡ Some other =
        subst (λ place. holder (box_before l place e.board) ≡ Some other) x.2 (opened_holder l o.numbered e.place (passes_below e.board) (front l e.place) other there) in
        let m = held_is_box config l o e.board leg.pair other has_holder in
        let fits : FitsBoard config (board_history l x.0.board.number) x.0.entry = (o.board_fits x.0.board x.0.entry x.0.is_in x.0.is).1 in
        let is_free = new_leg_free config (board_history l x.0.board.number) x.0.entry x.0.offer leg fits x.0.acts x.0.has_leg in
        free_not_held config (board_history l x.0.board.number) leg.pair other is_free
        (subst (λ n. In other (held (board_history l n))) (sym x.1) m.1) m.0

-- a box is opened where it has no holder
pub opens_shut : (config : Config) (l : List Entry) → Orderly config l → (e : Entry) (leg : Holder) → In e l → e.event ≡ Box (Open leg)
    → holder (box_history l e.place e.number) ≡ None
opens_shut config l o e leg i q =
    none_if (holder (box_history l e.place e.number))
    (λ other h. open_refuted config l o e leg other i (ap box_in q)
    (holder_opened l o.numbered e.place (λ x. true) e.number other
    (subst (λ es. holder (filter_map box_event es) ≡ Some other) (sym (filter_all (history l e.place e.number))) h)))

-- Closings.

still_open : (config : Config) (l : List Entry) → Orderly config l → (e : Entry) (leg : Holder) → In e l → is_nested e.event ≡ true → box_event e ≡ Some Close
    → Opened l e.place (passes_below e.board) (front l e.place) leg → Opened l e.place (λ x. true) e.number leg
still_open config l o e leg i nested closes s = record {
  entry = s.entry;
  is_in = s.is_in;
  at = s.at;
  below = before (less_or s.entry.number e.number);
  passes = refl;
  opens = s.opens;
  stays = λ g j p later low t. by_kind g j p later low (is_nested g.event) refl;
}
  where
    of_board : (is_nested s.entry.event ≡ true) × (nat_lt s.entry.board e.board ≡ true)
    of_board = both (is_nested s.entry.event) (nat_lt s.entry.board e.board) s.passes

    before : (s.entry.number < e.number) ⊎ ((s.entry.number ≡ e.number) ⊎ (e.number < s.entry.number)) → s.entry.number < e.number
    before (inl k) = k
    before (inr (inl k)) =
        let one = same_at l o.numbered s.entry e s.is_in i s.at k in
        absurd (let m = less s.entry.board e.board of_board.1 in let q = ap (λ (x : Entry). x.board) one in omega (arith, m, q))
    before (inr (inr k)) =
        absurd (let m = less s.entry.board e.board of_board.1 in let q = not_after config l o e s.entry i s.is_in nested of_board.0 (sym s.at) k in omega (arith, m, q))

    by_event : (g : Entry) → In g l → g.place ≡ e.place → g.number < e.number → is_nested g.event ≡ true → g.board ≡ e.board
        → (v : Option BoxEvent) → box_event g ≡ v → Leaves leg v
    by_event g j p low t same None is = tt
    by_event g j p low t same (Some v) is =
        let one = one_a_box config l o g e v Close j i t nested is closes p same in
        absurd (let q = ap (λ (x : Entry). x.number) one in omega (arith, q, low))

    by_board : (g : Entry) → In g l → g.place ≡ e.place → s.entry.number < g.number → g.number < e.number → is_nested g.event ≡ true
        → (g.board < e.board) ⊎ (g.board ≡ e.board) → Leaves leg (box_event g)
    by_board g j p later low t (inl k) =
        s.stays g j p later (below_front l g e.place j p) (and_true (is_nested g.event) (nat_lt g.board e.board) t (is_less g.board e.board k))
    by_board g j p later low t (inr k) = by_event g j p low t k (box_event g) refl

    by_kind : (g : Entry) → In g l → g.place ≡ e.place → s.entry.number < g.number → g.number < e.number → (b : Bool) → is_nested g.event ≡ b → Leaves leg (box_event g)
    by_kind g j p later low true t =
        by_board g j p later low t (lt_or_eq g.board e.board (let q = not_after config l o g e j i t nested p low in omega (arith, q)))
    by_kind g j p later low false t = not_nested_leaves leg g.event t

-- a box is closed where it has one
pub closes_open : (config : Config) (l : List Entry) → Orderly config l → (e : Entry) → In e l → e.event ≡ Box Close
    → (leg : Holder) × (holder (box_history l e.place e.number) ≡ Some leg)
closes_open config l o e i q =
    let b = nested_in config l o e i nested in by_owed b (box_owed config l o e Close b (ap box_in q))
  where
    nested : is_nested e.event ≡ true
    nested = ap is_nested q

    by_owed : (b : IsNestedIn config l e) → OwedBox config (board_history l b.board.number) b.entry e.place Close
        → (leg : Holder) × (holder (box_history l e.place e.number) ≡ Some leg)
    by_owed b (opened p leg r j at v) = absurd (let k = v in cc)
    by_owed b (closed leg j c at v) =
        let is_held : In leg (held (board_history l e.board)) = subst (λ n. In leg (held (board_history l n))) b.number_is j in
        let is_open : holder (box_before l e.place e.board) ≡ Some leg =
        subst (λ place. holder (box_before l place e.board) ≡ Some leg) (sym at) (box_is_held config l o e.board leg is_held) in
        let s = holder_opened l o.numbered e.place (passes_below e.board) (front l e.place) leg is_open in
        let t = still_open config l o e leg i nested (ap box_in q) s in (
          leg,
          subst (λ es. holder (filter_map box_event es) ≡ Some leg) (filter_all (history l e.place e.number))
              (opened_holder l o.numbered e.place (λ x. true) e.number leg t),
        )
