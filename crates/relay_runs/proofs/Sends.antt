-- What the out ends told by which the legs went, by the rows of a run, is what its list has of their sends.
use Rattle.std.proofs.Common.{◌≡◌, ◌∙◌, refl, sym, ap, subst, ℕ, Bool, true, false, cond, ◌==◌, List, [], ◌∷◌, ◌++◌, Option, None, Some, map}
use Rattle.std.specs.List.{AllZip}
use Rattle.relay_outside.specs.declared.ports.OutCall.{OutCall}
use Rattle.relay_outside.specs.Ports.{joined}
use Rattle.relay_outside.specs.DeviceLogs.{WhereLogged}
use Rattle.rtp_packet.specs.declared.head.Half.{Half}
use Rattle.turn_table.specs.Histories as table_lists
use Rattle.port_pool.specs.declared.holder.Holder.{Holder}
use Rattle.call_cell.specs.Cells.{CellEntry, Prepare, Commit, Relay, Expire, Read, End, since_end}
use Rattle.relay_core.specs.Entries.{Event, Board, Cell, Box, Entry, cell_history, cell_before}
use Rattle.relay_core.specs.Records.{LegLeft, entry_of, list_of, as_logged, logged_event}
use Rattle.relay_core.specs.EndLogs.{is_parting, out_left, legs_logged, outs_logged, sends_since, legs_going, HasLogged, GoesWith, OutsAreTold}
use Rattle.media_lane.specs.Visits.{Row}
use Rattle.relay_runs.specs.Ends.{sends_of, sends_going, sends_in, sends_at}

-- where the calls are told they are these
abbrev TellsJust : Option (List OutCall) → List OutCall → Type 0
TellsJust said all = WhereLogged said (λ calls. calls ≡ all)

joined_tells : (front back : Option (List OutCall)) (xs ys : List OutCall) → TellsJust front xs → TellsJust back ys → TellsJust (joined front back) (xs ++ ys)
joined_tells None back xs ys p q = tt
joined_tells (Some f) None xs ys p q = tt
joined_tells (Some f) (Some b) xs ys p q = ap (λ (zs : List OutCall). zs ++ b) p ∙ ap (λ (zs : List OutCall). xs ++ zs) q

-- The legs that go by one event.

leg_case : (b : Bool) (said rest : Option (List OutCall)) (xs ys : List OutCall) → TellsJust said xs → TellsJust rest ys
    → TellsJust (cond b (joined said rest) rest) (cond b (xs ++ ys) ys)
leg_case true said rest xs ys p q = joined_tells said rest xs ys p q
leg_case false said rest xs ys p q = q

legs_sent : (h : List CellEntry) (left : List LegLeft) (going : List Holder) (pair : ℕ) (half : Half) → AllZip (HasLogged h) left going
    → TellsJust (legs_logged left pair half) (sends_of going pair half h)
legs_sent h [] [] pair half all = refl
legs_sent h [] (leg ∷ going) pair half all = absurd all
legs_sent h (x ∷ left) [] pair half all = absurd all
legs_sent h (x ∷ left) (leg ∷ going) pair half all =
    let test : (leg.pair == pair) ≡ (x.lease.pair == pair) = ap (λ (p : ℕ). p == pair) (sym all.0.pair) in
    subst (λ (b : Bool). TellsJust (legs_logged (x ∷ left) pair half) (cond b (sends_since leg half h ++ sends_of going pair half h) (sends_of going pair half h))) (sym test)
    (leg_case (x.lease.pair == pair) (out_left half x) (legs_logged left pair half) (sends_since leg half h) (sends_of going pair half h) (all.0.sends half)
    (legs_sent h left going pair half all.1))

event_sent : (h : List CellEntry) (event : Event) (left : List LegLeft) (pair : ℕ) (half : Half) → is_parting event ≡ true → GoesWith h event left
    → TellsJust (legs_logged left pair half) (sends_going h event pair half)
event_sent h (Cell event) left pair half parts goes = legs_sent h left (legs_going h event) pair half goes
event_sent h (Board event) left pair half parts goes = absurd (let k = parts in cc)
event_sent h (Box event) left pair half parts goes = absurd (let k = parts in cc)

-- What is recorded of an event.

same_parting : (event : Event) → is_parting (logged_event event) ≡ is_parting event
same_parting (Board b) = refl
same_parting (Cell (Prepare call legs keys dropped)) = refl
same_parting (Cell (Commit signal)) = refl
same_parting (Cell (Relay x)) = refl
same_parting (Cell (Expire due)) = refl
same_parting (Cell (Read reports)) = refl
same_parting (Cell End) = refl
same_parting (Box b) = refl

-- of an event by which legs go it is the event
told_parting : (event : Event) → is_parting event ≡ true → logged_event event ≡ event
told_parting (Board b) parts = refl
told_parting (Cell (Prepare call legs keys dropped)) parts = refl
told_parting (Cell (Commit signal)) parts = refl
told_parting (Cell (Relay x)) parts = absurd (let k = parts in cc)
told_parting (Cell (Expire due)) parts = refl
told_parting (Cell (Read reports)) parts = refl
told_parting (Cell End) parts = refl
told_parting (Box b) parts = refl

-- All rows.

module _ (l : List Entry) (pair : ℕ) (half : Half) where
  abbrev LegsAreTold : Row → Type 0
  LegsAreTold row = is_parting row.event.event ≡ true → GoesWith (since_end (cell_history l row.place row.number)) row.event.event row.event.left.legs

  -- one row, which is what is recorded of this entry
  row_sent : (row : Row) (e : Entry) → as_logged e ≡ entry_of row → is_parting e.event ≡ true → LegsAreTold row
      → TellsJust (legs_logged row.event.left.legs pair half) (sends_going (cell_before l e) e.event pair half)
  row_sent row e is parts goes =
      let event : row.event.event ≡ e.event = sym (ap (λ (x : Entry). x.event) is) ∙ told_parting e.event parts in
      let before : since_end (cell_history l row.place row.number) ≡ cell_before l e =
      ap (λ (x : Entry). since_end (cell_history l x.place x.number)) (sym is) in
      let row_parts : is_parting row.event.event ≡ true = ap is_parting event ∙ parts in
      subst (λ (v : Event). TellsJust (legs_logged row.event.left.legs pair half) (sends_going (cell_before l e) v pair half)) event
      (subst (λ (h : List CellEntry). TellsJust (legs_logged row.event.left.legs pair half) (sends_going h row.event.event pair half)) before
      (event_sent (since_end (cell_history l row.place row.number)) row.event.event row.event.left.legs pair half row_parts (goes row_parts)))

  row_case : (row : Row) (rows : List Row) (e : Entry) (es : List Entry) → as_logged e ≡ entry_of row → LegsAreTold row → TellsJust (outs_logged rows pair half) (sends_in l pair half es)
      → (b : Bool) → is_parting e.event ≡ b
      → TellsJust (cond b (joined (legs_logged row.event.left.legs pair half) (outs_logged rows pair half)) (outs_logged rows pair half))
      (cond b (sends_going (cell_before l e) e.event pair half ++ sends_in l pair half es) (sends_in l pair half es))
  row_case row rows e es is goes rest true parts =
      joined_tells (legs_logged row.event.left.legs pair half) (outs_logged rows pair half) (sends_going (cell_before l e) e.event pair half) (sends_in l pair half es)
      (row_sent row e is parts goes) rest
  row_case row rows e es is goes rest false parts = rest

  rows_sent : (rows : List Row) (es : List Entry) → map as_logged es ≡ list_of rows → ((row : Row) → table_lists.IsMemberOf row rows → LegsAreTold row)
      → TellsJust (outs_logged rows pair half) (sends_in l pair half es)
  rows_sent [] [] is goes = refl
  rows_sent [] (e ∷ es) is goes = absurd (let k = is in cc)
  rows_sent (row ∷ rows) [] is goes = absurd (let k = is in cc)
  rows_sent (row ∷ rows) (e ∷ es) is goes =
      let first : as_logged e ≡ entry_of row = (let k = is in cc) in
      let rest : map as_logged es ≡ list_of rows = (let k = is in cc) in
      let test : is_parting row.event.event ≡ is_parting e.event = sym (ap (λ (x : Entry). is_parting x.event) first) ∙ same_parting e.event in
      subst (λ (b : Bool). TellsJust (cond b (joined (legs_logged row.event.left.legs pair half) (outs_logged rows pair half)) (outs_logged rows pair half))
      (sends_in l pair half (e ∷ es))) (sym test)
      (row_case row rows e es first (goes row (table_lists.here refl)) (rows_sent rows es rest (λ r i. goes r (table_lists.there i))) (is_parting e.event) refl)

pub outs_sent : (l : List Entry) (rows : List Row) → map as_logged l ≡ list_of rows → OutsAreTold rows l → (pair : ℕ) (half : Half)
    → WhereLogged (outs_logged rows pair half) (λ calls. calls ≡ sends_at l pair half)
outs_sent l rows is outs pair half = rows_sent l pair half rows l is (λ row i. outs row i)
