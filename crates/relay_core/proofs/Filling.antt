-- What each relay noted, protected and sent, filled in from the history of its cell.
use Rattle.std.proofs.Common.{◌≡◌, ◌∙◌, sym, ap, subst, refl, ℕ, zero, suc, List, [], ◌∷◌, ◌++◌, Bool, true, false, Option, Some, None, map, length, filter}
use Rattle.std.specs.List.{filter_map, cons_option}
use Rattle.relay_outside.specs.declared.settings.Config.{Config}
use Rattle.relay_outside.specs.declared.address.Family.{Family}
use Rattle.histories.specs.Words.{In}
use Rattle.call_cell.specs.declared.outcome.Outcome.{Outcome}
use Rattle.call_cell.specs.declared.outcome.Outcome.TheVariants as outcomes
use Rattle.call_cell.specs.declared.outcome.Lost.TheVariants as lost
use Rattle.call_cell.specs.declared.cell.Cell as cell
use Rattle.call_cell.specs.Cells.{CellEvent, CellEntry, Prepare, Commit, Relay, Expire, Read, End, Receipt, Relayed, Deed, Sending, since_end}
use Rattle.call_cell.specs.Deeds.{deed, sent_outcome}
use Rattle.call_cell.specs.Demands.{CellFitsAt, IsSendAnswered}
use Rattle.call_cell.specs.Good.{FittingCell, longer}
use Rattle.call_cell.specs.LegHistories.{sent_ok}
use Rattle.call_cell.specs.CellHistories.{CellFor}
use Rattle.call_cell.proofs.Sends.{send_failed, outcome_of_send}
use Rattle.relay_core.specs.Entries.{Event, Board, Cell, Box, Entry, is_nested, is_at, history, board_at, cell_at, box_in, cell_entry, cell_history}
use Rattle.relay_core.specs.Records.{logged_cell, as_logged}
use Rattle.relay_core.specs.PlaceHistories.{logged_entry, CellStands}
use Rattle.relay_core.proofs.Histories.{Step, nothing, single, step}
use Rattle.relay_core.proofs.Refilling.{Keeps, history_mapped}

-- a relay after that history, with what it did
abbrev pub fill_cell : Config → List CellEntry → CellEvent → CellEvent
fill_cell config h (Relay x) = Relay (record { packet = x.packet; sent_ok = x.sent_ok; deed = deed config (since_end h) x.packet x.sent_ok })
fill_cell config h event = event

-- the recorded history of a cell, with what its relays did
abbrev pub fill_history : Config → List CellEntry → List CellEntry
fill_history config [] = []
fill_history config (e ∷ h) = (record { moment = e.moment; event = fill_cell config (fill_history config h) e.event }) ∷ fill_history config h

abbrev pub fill_event : Config → List CellEntry → Event → Event
fill_event config h (Board b) = Board b
fill_event config h (Cell c) = Cell (fill_cell config h c)
fill_event config h (Box b) = Box b

-- an entry of the recorded list, with what it did if it is a relay
abbrev pub filled : Config → List Entry → Entry → Entry
filled config l e = record {
  place = e.place;
  number = e.number;
  moment = e.moment;
  board = e.board;
  event = fill_event config (fill_history config (cell_history l e.place e.number)) e.event;
}

-- the whole list so
abbrev pub filled_in : Config → List Entry → List Entry
filled_in config l = map (filled config l) l

-- What it keeps.

board_kept : (config : Config) (h : List CellEntry) (moment : ℕ) (v : Event) → board_at moment (fill_event config h v) ≡ board_at moment v
board_kept config h moment (Board b) = refl
board_kept config h moment (Cell c) = refl
board_kept config h moment (Box b) = refl

box_kept : (config : Config) (h : List CellEntry) (v : Event) → box_in (fill_event config h v) ≡ box_in v
box_kept config h (Board b) = refl
box_kept config h (Cell c) = refl
box_kept config h (Box b) = refl

-- every property of events that doesn't look into relays is kept
pub kept_by : {A : Type 0} (f : Event → A) → ((x y : Relayed) → f (Cell (Relay x)) ≡ f (Cell (Relay y))) → (config : Config) (h : List CellEntry) (v : Event)
    → f (fill_event config h v) ≡ f v
kept_by f blind config h (Board b) = refl
kept_by f blind config h (Cell (Prepare call legs keys dropped)) = refl
kept_by f blind config h (Cell (Commit signal)) = refl
kept_by f blind config h (Cell (Relay x)) = blind (record { packet = x.packet; sent_ok = x.sent_ok; deed = deed config (since_end h) x.packet x.sent_ok }) x
kept_by f blind config h (Cell (Expire due)) = refl
kept_by f blind config h (Cell (Read as_logged)) = refl
kept_by f blind config h (Cell End) = refl
kept_by f blind config h (Box b) = refl

nested_kept : (config : Config) (h : List CellEntry) (v : Event) → is_nested v ≡ true → fill_event config h v ≡ v
nested_kept config h (Board b) t = refl
nested_kept config h (Cell (Prepare call legs keys dropped)) t = refl
nested_kept config h (Cell (Commit signal)) t = refl
nested_kept config h (Cell (Relay x)) t = absurd (let k = t in cc)
nested_kept config h (Cell (Expire due)) t = refl
nested_kept config h (Cell (Read as_logged)) t = refl
nested_kept config h (Cell End) t = refl
nested_kept config h (Box b) t = refl

pub filled_keeps : (config : Config) (l : List Entry) → Keeps (filled config l)
filled_keeps config l = record {
  place_is = λ e. refl;
  number_is = λ e. refl;
  moment_is = λ e. refl;
  board_is = λ e. refl;
  same_board = λ e. board_kept config (before e) e.moment e.event;
  same_box = λ e. box_kept config (before e) e.event;
  same_nested = λ e. kept_by is_nested (λ x y. refl) config (before e) e.event;
  same_owed = λ e t. ap (λ (v : Event). record { place = e.place; event = v }) (nested_kept config (before e) e.event t);
}
  where
    before : Entry → List CellEntry
    before e = fill_history config (cell_history l e.place e.number)

-- The history of a cell in the list that is filled in is the recorded one, filled in.

fill_more : (config : Config) (h : List CellEntry) (moment : ℕ) (v : Event)
    → cons_option (cell_at moment (fill_event config (fill_history config h) v)) (fill_history config h) ≡ fill_history config (cons_option (cell_at moment v) h)
fill_more config h moment (Board b) = refl
fill_more config h moment (Cell c) = refl
fill_more config h moment (Box b) = refl

abbrev laid : Config → List Entry → ℕ → ℕ → List CellEntry
laid config l place n = filter_map cell_entry (map (filled config l) (history l place n))

filled_case : (config : Config) (l : List Entry) (place n : ℕ) → laid config l place n ≡ fill_history config (cell_history l place n) → Step l place n
    → laid config l place (suc n) ≡ fill_history config (cell_history l place (suc n))
filled_case config l place n rest (nothing q) =
    ap (λ (xs : List Entry). filter_map cell_entry (map (filled config l) (xs ++ history l place n))) q
    ∙ rest
    ∙ ap (λ (xs : List Entry). fill_history config (filter_map cell_entry (xs ++ history l place n))) (sym q)
filled_case config l place n rest (single e i p m q) =
    let h = cell_history l place n in
    let before : cell_history l e.place e.number ≡ h
    = ap (λ (k : ℕ). cell_history l k e.number) p ∙ ap (λ (k : ℕ). cell_history l place k) m in
    ap (λ (xs : List Entry). filter_map cell_entry (map (filled config l) (xs ++ history l place n))) q
    ∙ ap (λ (hs : List CellEntry). cons_option (cell_at e.moment (fill_event config (fill_history config hs) e.event)) (laid config l place n)) before
    ∙ ap (λ (hs : List CellEntry). cons_option (cell_at e.moment (fill_event config (fill_history config h) e.event)) hs) rest
    ∙ fill_more config h e.moment e.event
    ∙ ap (λ (xs : List Entry). fill_history config (filter_map cell_entry (xs ++ history l place n))) (sym q)

filled_laid : (config : Config) (l : List Entry) → ((e : Entry) → In e l → length (filter (is_at e.place e.number) l) ≡ 1) → (place n : ℕ)
    → laid config l place n ≡ fill_history config (cell_history l place n)
filled_laid config l numbered place zero = refl
filled_laid config l numbered place (suc n) =
    filled_case config l place n (filled_laid config l numbered place n) (step l numbered place n)

pub filled_history : (config : Config) (l : List Entry) → ((e : Entry) → In e l → length (filter (is_at e.place e.number) l) ≡ 1) → (place n : ℕ)
    → cell_history (filled_in config l) place n ≡ fill_history config (cell_history l place n)
filled_history config l numbered place n =
    ap (λ (xs : List Entry). filter_map cell_entry xs) (history_mapped (filled config l) (filled_keeps config l) l place n)
    ∙ filled_laid config l numbered place n

-- What is recorded of a fitting history tells it.

none_sent : (o : Outcome) → ((family : Family) (port : ℕ) → o ≡ outcomes.Lost (lost.SendFault family port) → ⊥) → sent_ok o ≡ true
none_sent (outcomes.Lost (lost.SendFault family port)) other = absurd (other family port refl)
none_sent (outcomes.Lost cause) other = refl
none_sent (outcomes.Refused cause) other = refl
none_sent (outcomes.Sent family port to len) other = refl

outcome_tells : (config : Config) (w : Sending) (ok : Bool) → sent_ok (sent_outcome config w ok) ≡ ok
outcome_tells config w true = refl
outcome_tells config w false = refl

answer_case : (config : Config) (h : List CellEntry) (p : Receipt) (ok : Bool) (o : Option Sending) → (deed config h p ok).sending ≡ o → IsSendAnswered o ok
    → sent_ok (deed config h p ok).outcome ≡ ok
answer_case config h p ok (Some w) q answered = ap (λ (x : Outcome). sent_ok x) (outcome_of_send config h p ok w q) ∙ outcome_tells config w ok
answer_case config h p ok None q answered =
    none_sent (deed config h p ok).outcome
    (λ family port f. let s = send_failed config h p ok family port f in let clash : Some s.sending ≡ None = sym s.is_sending ∙ q in cc)
    ∙ sym answered

-- the outcome of a relay tells what its send returned
answer_told : (config : Config) (h : List CellEntry) (r : Relayed) → r.deed ≡ deed config h r.packet r.sent_ok → IsSendAnswered r.deed.sending r.sent_ok
    → sent_ok r.deed.outcome ≡ r.sent_ok
answer_told config h r does answered =
    ap (λ (d : Deed). sent_ok d.outcome) does
    ∙ answer_case config h r.packet r.sent_ok (deed config h r.packet r.sent_ok).sending refl
    (subst (λ (d : Deed). IsSendAnswered d.sending r.sent_ok) does answered)

pub refill_event : (config : Config) (h : List CellEntry) (moment : ℕ) (c : CellEvent) → CellFitsAt config h moment c → fill_cell config h (logged_cell c) ≡ c
refill_event config h moment (Prepare call legs keys dropped) fits = refl
refill_event config h moment (Commit signal) fits = refl
refill_event config h moment (Relay r) fits =
    ap (λ (ok : Bool). Relay (record { packet = r.packet; sent_ok = ok; deed = deed config (since_end h) r.packet ok }))
    (answer_told config (since_end h) r fits.does fits.answered)
    ∙ ap (λ (d : Deed). Relay (record { packet = r.packet; sent_ok = r.sent_ok; deed = d })) (sym fits.does)
refill_event config h moment (Expire due) fits = refl
refill_event config h moment (Read as_logged) fits = refl
refill_event config h moment End fits = refl

pub refill : (config : Config) (h : List CellEntry) → FittingCell config h → fill_history config (map logged_entry h) ≡ h
refill config [] fits = refl
refill config (e ∷ h) (longer fits rest) =
    let same = refill config h rest in
    ap (λ (k : List CellEntry). (record { moment = e.moment; event = fill_cell config k (logged_cell e.event) }) ∷ k) same
    ∙ ap (λ (c : CellEvent). (record { moment = e.moment; event = c }) ∷ h) (refill_event config h e.moment e.event fits)

-- so a cell stands for the recorded history, filled in
pub record CellFills {O : Type 0} (config : Config) (cell : cell.Cell O) (recorded : List CellEntry) : Type 0 where
  pub is_recorded : map logged_entry (fill_history config recorded) ≡ recorded
  pub fitting : FittingCell config (fill_history config recorded)
  pub stands : CellFor config cell (fill_history config recorded)

pub cell_fills : {O : Type 0} (config : Config) (c : cell.Cell O) (recorded : List CellEntry) → CellStands config c recorded → CellFills config c recorded
cell_fills config c recorded s =
    let same : fill_history config recorded ≡ s.history
    = ap (λ (h : List CellEntry). fill_history config h) (sym s.is_recorded) ∙ refill config s.history s.fitting in
    record {
      is_recorded = ap (λ (h : List CellEntry). map logged_entry h) same ∙ s.is_recorded;
      fitting = subst (λ (h : List CellEntry). FittingCell config h) (sym same) s.fitting;
      stands = subst (λ (h : List CellEntry). CellFor config c h) (sym same) s.stands;
    }
