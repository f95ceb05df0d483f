-- The list of the worked calls is legal.
use Rattle.std.proofs.Common.{◌≡◌, ◌∙◌, sym, ap, refl, ℕ, ◌<◌, ◌≤◌, [], ◌∷◌, true, ◌==◌, Option, Some, None, map, filter, arith}
use Rattle.std.specs.Prelude.{if◌then◌else◌}
use Rattle.histories.specs.Words.{In}
use Rattle.call_cell.specs.Cells.{Relayed, relay_in}
use Rattle.call_board.specs.Acts.{BoardEntry, Tick}
use Rattle.call_board.specs.Fits.{FitsBoard}
use Rattle.relay_core.specs.Entries.{Event, Cell, Entry, is_nested, belongs_to, board_entry, board_history}
use Rattle.relay_core.specs.Scripts.{owed_by, script}
use Rattle.relay_core.specs.Legal.{Fits, StandsAt, IsReceived, Orderly, Legal}
use Rattle.relay_core.proofs.Example.Datagrams.{config}
use Rattle.relay_core.proofs.Example.Board.{next_call, last_call, after_answer, after_next, after_delay, after_early, offer_fits, repeat_fits, answer_fits, delete_fits, next_fits, last_fits, delay_fits}
use Rattle.relay_core.proofs.Example.Cell.{receipt, receipt_back, late_receipt, packet_is_short, wire_is_short, relay_fits, relay_back_fits, late_fits, is_not_due, is_due_now, is_not_due_yet}
use Rattle.relay_core.proofs.Example.Members.{none_left, ◌&◌, of_each, at_place, before_at, of_none, of_some, of_false}
use Rattle.relay_core.proofs.Example.Entries.{entries, offered, answered, ticked, deleted, taken, sent, taken_back, sent_back, taken_late, offered_next, relayed_late, timed_out, offered_last, ticked_early, over, numbered, counted, ordered, timed}

-- The board.

-- where the entry is one of the board, it is the one that the board's history demands
abbrev FitsOnBoard : Entry → Type 0
FitsOnBoard b = (e : BoardEntry) → board_entry b ≡ Some e → (b.place ≡ 0) × FitsBoard config (board_history entries b.number) e

-- a tick names the one call that it finds where that has timed out or is due
tick_fits : FitsBoard config after_answer (record { moment = 3000; event = Tick [] })
tick_fits = (refl, ((λ due. due), tt))

timeout_fits : FitsBoard config after_next (record { moment = 3606000; event = Tick (next_call ∷ []) })
timeout_fits = (refl, ((λ due. refl), tt))

early_fits : FitsBoard config after_delay (record { moment = 3637999; event = Tick [] })
early_fits = (refl, ((λ due. due), tt))

over_fits : FitsBoard config after_early (record { moment = 3638000; event = Tick (last_call ∷ []) })
over_fits = (refl, ((λ due. refl), tt))

board_fits : (b : Entry) → In b entries → FitsOnBoard b
board_fits = of_each FitsOnBoard entries
    (of_none _ & of_none _ & of_none _ & of_some _ (refl, offer_fits)
    & of_some _ (refl, repeat_fits)
    & of_none _ & of_some _ (refl, answer_fits)
    & of_none _ & of_none _ & of_none _ & of_none _ & of_none _
    & of_none _ & of_some _ (refl, tick_fits)
    & of_none _ & of_none _ & of_none _ & of_some _ (refl, delete_fits)
    & of_none _ & of_none _ & of_none _ & of_some _ (refl, next_fits)
    & of_none _
    & of_none _ & of_none _ & of_none _ & of_none _ & of_some _ (refl, timeout_fits)
    & of_none _ & of_none _ & of_none _ & of_some _ (refl, last_fits)
    & of_some _ (refl, delay_fits)
    & of_none _ & of_some _ (refl, early_fits)
    & of_none _ & of_none _ & of_none _ & of_some _ (refl, over_fits) & none_left)

-- and its nested entries are its script
abbrev HasScript : Entry → Type 0
HasScript b = (e : BoardEntry) → board_entry b ≡ Some e → map owed_by (filter (belongs_to b.number) entries) ≡ script config (board_history entries b.number) e

scripted : (b : Entry) → In b entries → HasScript b
scripted = of_each HasScript entries
    (of_none _ & of_none _ & of_none _ & of_some _ refl
    & of_some _ refl
    & of_none _ & of_some _ refl
    & of_none _ & of_none _ & of_none _ & of_none _ & of_none _
    & of_none _ & of_some _ refl
    & of_none _ & of_none _ & of_none _ & of_some _ refl
    & of_none _ & of_none _ & of_none _ & of_some _ refl
    & of_none _
    & of_none _ & of_none _ & of_none _ & of_none _ & of_some _ refl
    & of_none _ & of_none _ & of_none _ & of_some _ refl
    & of_some _ refl
    & of_none _ & of_some _ refl
    & of_none _ & of_none _ & of_none _ & of_some _ refl & none_left)

-- the entry is nested in one of the board
abbrev IsNestedIn : ℕ → Type 0
IsNestedIn number = (b : Entry) × In b entries × (b.place ≡ 0) × (b.number ≡ number) × ((x : BoardEntry) × (board_entry b ≡ Some x))

of_offer : true ≡ true → IsNestedIn 0
of_offer h = (offered, at_place entries 3 refl, refl, refl, (_, refl))

of_answer : true ≡ true → IsNestedIn 2
of_answer h = (answered, at_place entries 6 refl, refl, refl, (_, refl))

of_tick : true ≡ true → IsNestedIn 3
of_tick h = (ticked, at_place entries 13 refl, refl, refl, (_, refl))

of_delete : true ≡ true → IsNestedIn 4
of_delete h = (deleted, at_place entries 17 refl, refl, refl, (_, refl))

of_next : true ≡ true → IsNestedIn 5
of_next h = (offered_next, at_place entries 21 refl, refl, refl, (_, refl))

of_timeout : true ≡ true → IsNestedIn 6
of_timeout h = (timed_out, at_place entries 27 refl, refl, refl, (_, refl))

of_last : true ≡ true → IsNestedIn 7
of_last h = (offered_last, at_place entries 31 refl, refl, refl, (_, refl))

of_early : true ≡ true → IsNestedIn 9
of_early h = (ticked_early, at_place entries 34 refl, refl, refl, (_, refl))

of_over : true ≡ true → IsNestedIn 10
of_over h = (over, at_place entries 38 refl, refl, refl, (_, refl))

nested : (e : Entry) → In e entries → is_nested e.event ≡ true → IsNestedIn e.board
nested = of_each (λ (e : Entry). is_nested e.event ≡ true → IsNestedIn e.board) entries
    (of_offer & of_offer & of_offer & of_false
    & of_false
    & of_answer & of_false
    & of_false & of_false & of_false & of_false & of_false
    & of_tick & of_false
    & of_delete & of_delete & of_delete & of_false
    & of_next & of_next & of_next & of_false
    & of_false
    & of_timeout & of_timeout & of_timeout & of_timeout & of_false
    & of_last & of_last & of_last & of_false
    & of_false
    & of_early & of_false
    & of_over & of_over & of_over & of_false & none_left)

orderly : Orderly config entries
orderly = record {
  numbered = numbered;
  board_fits = λ b e i q. board_fits b i e q;
  scripted = λ b e i p q. scripted b i e q;
  nested = nested;
  ordered = ordered;
}

-- Cells and boxes.

fits : (e : Entry) → In e entries → Fits config entries e
fits = of_each (Fits config entries) entries
    (tt & tt & tt & (refl, offer_fits)
    & (refl, repeat_fits)
    & tt & (refl, answer_fits)
    & (refl, packet_is_short) & relay_fits & (refl, wire_is_short) & relay_back_fits & (refl, packet_is_short)
    & is_not_due & (refl, tick_fits)
    & tt & tt & tt & (refl, delete_fits)
    & tt & tt & tt & (refl, next_fits)
    & late_fits
    & is_due_now & tt & tt & tt & (refl, timeout_fits)
    & tt & tt & tt & (refl, last_fits)
    & (refl, delay_fits)
    & is_not_due_yet & (refl, early_fits)
    & tt & tt & tt & (refl, over_fits) & none_left)

-- Places.

of_cell : (1 ≤ 1) × (1 ≤ 1)
of_cell = (omega arith, omega arith)

of_box_b : 1 < 2
of_box_b = omega arith

of_box_a : 1 < 3
of_box_a = omega arith

placed : (e : Entry) → In e entries → StandsAt config e.place e.event
placed = of_each (λ (e : Entry). StandsAt config e.place e.event) entries
    (of_box_b & of_box_a & of_cell & refl
    & refl
    & of_cell & refl
    & of_box_a & of_cell & of_box_b & of_cell & of_box_a
    & of_cell & refl
    & of_cell & of_box_b & of_box_a & refl
    & of_box_b & of_box_a & of_cell & refl
    & of_cell
    & of_cell & of_cell & of_box_b & of_box_a & refl
    & of_box_b & of_box_a & of_cell & refl
    & refl
    & of_cell & refl
    & of_cell & of_box_b & of_box_a & refl & none_left)

-- The relays.

abbrev relay_by : Event → Option Relayed
relay_by (Cell c) = relay_in c
relay_by _ = None

sent_is_received : IsReceived config entries sent receipt
sent_is_received = record {
  taking = taken;
  is_there = before_at entries 7 8 refl refl (omega arith);
  at_box = refl;
  with_number = refl;
  gave = refl;
  in_its_cell = refl;
}

sent_back_is_received : IsReceived config entries sent_back receipt_back
sent_back_is_received = record {
  taking = taken_back;
  is_there = before_at entries 9 10 refl refl (omega arith);
  at_box = refl;
  with_number = refl;
  gave = refl;
  in_its_cell = refl;
}

late_is_received : IsReceived config entries relayed_late late_receipt
late_is_received = record {
  taking = taken_late;
  is_there = before_at entries 11 22 refl refl (omega arith);
  at_box = refl;
  with_number = refl;
  gave = refl;
  in_its_cell = refl;
}

-- the relay of a take of a pair's box
abbrev relay_of : (pair take : ℕ) → Entry
relay_of pair take = if pair == 0 then sent_back else if take == 1 then sent else relayed_late

abbrev pair_of : Relayed → ℕ
pair_of x = x.packet.holder.pair

abbrev take_of : Relayed → ℕ
take_of x = x.packet.take

-- where the entry is a relay, it is the one of its packet, which was taken
abbrev IsOneRelay : Entry → Type 0
IsOneRelay e = (x : Relayed) → relay_by e.event ≡ Some x → (e ≡ relay_of (pair_of x) (take_of x)) × IsReceived config entries e x.packet

by_relay : (e : Entry) → In e entries → IsOneRelay e
by_relay = of_each IsOneRelay entries
    (of_none _ & of_none _ & of_none _ & of_none _
    & of_none _
    & of_none _ & of_none _
    & of_none _ & of_some _ (refl, sent_is_received) & of_none _ & of_some _ (refl, sent_back_is_received) & of_none _
    & of_none _ & of_none _
    & of_none _ & of_none _ & of_none _ & of_none _
    & of_none _ & of_none _ & of_none _ & of_none _
    & of_some _ (refl, late_is_received)
    & of_none _ & of_none _ & of_none _ & of_none _ & of_none _
    & of_none _ & of_none _ & of_none _ & of_none _
    & of_none _
    & of_none _ & of_none _
    & of_none _ & of_none _ & of_none _ & of_none _ & none_left)

once : (e f : Entry) (x y : Relayed) → e ≡ relay_of (pair_of x) (take_of x) → f ≡ relay_of (pair_of y) (take_of y)
    → pair_of x ≡ pair_of y → take_of x ≡ take_of y → e ≡ f
once e f x y p q pair take = p ∙ ap (λ n. relay_of n (take_of x)) pair ∙ ap (relay_of (pair_of y)) take ∙ sym q

pub legal : Legal config entries
legal = record {
  orderly = orderly;
  counted = counted;
  fits = fits;
  timed = timed;
  placed = placed;
  received = λ e x i q. (by_relay e i x (ap relay_by q)).1;
  once = λ e f x y i j p q. once e f x y (by_relay e i x (ap relay_by p)).0 (by_relay f j y (ap relay_by q)).0;
}
