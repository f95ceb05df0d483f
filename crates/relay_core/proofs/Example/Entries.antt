-- The entries of the worked calls, and what holds of them by their numbers, places and moments.
use Rattle.std.proofs.Common.{◌≡◌, sym, subst, refl, ◌⊎◌, inl, inr, ℕ, ◌+◌, ◌<◌, List, [], ◌∷◌, Bool, true, false, length, filter, max, count_by, ◌==◌, arith}
use Rattle.std.specs.Prelude.{◌&&◌, ◌||◌, nat_lt, nat_le, not}
use Rattle.std.specs.List.{list_all}
use Rattle.rtp_packet.specs.declared.head.Half.TheVariants.{Rtp}
use Rattle.histories.specs.Words.{In, Before}
use Rattle.port_pool.specs.Boxes.{Open, Take, Close, Datagram}
use Rattle.call_cell.specs.Cells.{Prepare, Commit, Relay, Expire, End}
use Rattle.call_board.specs.Acts.{Turn, Tick}
use Rattle.relay_core.specs.Entries.{Event, Board, Cell, Box, Entry, is_nested, is_at}
use Rattle.relay_core.specs.Legal.{is_handed_own, is_handed_boards, last_moment, IsTimed}
use Rattle.relay_core.proofs.Example.Datagrams.{leg_a, leg_b, legs, keys, signal, next_leg_a, next_leg_b, next_legs, last_leg_a, last_leg_b, last_legs}
use Rattle.relay_core.proofs.Example.Board.{offer_turn, repeat_turn, answer_turn, delete_turn, next_call, next_turn, last_call, last_turn, delay_turn}
use Rattle.relay_core.proofs.Example.Cell.{receipt, relayed, receipt_back, relayed_back, late_receipt, refused_late}
use Rattle.relay_core.proofs.Example.Members.{of_all, before_at, only_one, first_passes, second_passes, together, implied, otherwise, either, equal_by, equal_is, less_by, less_is, at_most_by}

-- an entry of the board, of the call's cell, of the box of side B's pair and of that of side A's pair
abbrev pub on_board : (number moment : ℕ) → Event → Entry
on_board number moment event = record { place = 0; number = number; moment = moment; board = number; event = event }

abbrev pub in_cell : (number moment board : ℕ) → Event → Entry
in_cell number moment board event = record { place = 1; number = number; moment = moment; board = board; event = event }

abbrev pub in_box : (pair number board : ℕ) → Event → Entry
in_box pair number board event = record { place = 2 + pair; number = number; moment = 0; board = board; event = event }

-- The offer's turn opens two boxes and prepares the cell. Its datagram comes again. The answer's turn commits. Side A's box
-- takes a packet, which the cell relays, and then side B's box takes one; then side A's box takes one more. A tick asks the
-- cell whether it has timed out, and the delete's turn ends the call and closes the boxes. The next offer's turn opens them again.
-- The packet that was left is relayed, and a tick finds that this call has timed out, and ends it. The last offer's turn opens the
-- boxes once more, and a delete marks its call as ending: a tick just before it is due asks the cell, and the next one ends the call
-- and asks nothing.

abbrev pub opened_b : Entry
opened_b = in_box 0 0 0 (Box (Open leg_b))

abbrev pub opened_a : Entry
opened_a = in_box 1 0 0 (Box (Open leg_a))

abbrev pub prepared : Entry
prepared = in_cell 0 1000 0 (Cell (Prepare 0 legs keys []))

abbrev pub offered : Entry
offered = on_board 0 1000 (Board (Turn offer_turn))

abbrev pub repeated : Entry
repeated = on_board 1 1100 (Board (Turn repeat_turn))

abbrev pub committed : Entry
committed = in_cell 1 2000 2 (Cell (Commit signal))

abbrev pub answered : Entry
answered = on_board 2 2000 (Board (Turn answer_turn))

abbrev pub taken : Entry
taken = in_box 1 1 0 (Box (Take Rtp (Datagram leg_a receipt.source receipt.bytes)))

abbrev pub sent : Entry
sent = in_cell 2 2020 0 (Cell (Relay relayed))

abbrev pub taken_back : Entry
taken_back = in_box 0 1 0 (Box (Take Rtp (Datagram leg_b receipt_back.source receipt_back.bytes)))

abbrev pub sent_back : Entry
sent_back = in_cell 3 2040 0 (Cell (Relay relayed_back))

abbrev pub taken_late : Entry
taken_late = in_box 1 2 0 (Box (Take Rtp (Datagram leg_a late_receipt.source late_receipt.bytes)))

abbrev pub asked : Entry
asked = in_cell 4 3000 3 (Cell (Expire false))

abbrev pub ticked : Entry
ticked = on_board 3 3000 (Board (Tick []))

abbrev pub ended : Entry
ended = in_cell 5 3000 4 (Cell End)

abbrev pub closed_b : Entry
closed_b = in_box 0 2 4 (Box Close)

abbrev pub closed_a : Entry
closed_a = in_box 1 3 4 (Box Close)

abbrev pub deleted : Entry
deleted = on_board 4 5000 (Board (Turn delete_turn))

abbrev pub opened_b_anew : Entry
opened_b_anew = in_box 0 3 5 (Box (Open next_leg_b))

abbrev pub opened_a_anew : Entry
opened_a_anew = in_box 1 4 5 (Box (Open next_leg_a))

abbrev pub prepared_anew : Entry
prepared_anew = in_cell 6 6000 5 (Cell (Prepare 1 next_legs [] []))

abbrev pub offered_next : Entry
offered_next = on_board 5 6000 (Board (Turn next_turn))

abbrev pub relayed_late : Entry
relayed_late = in_cell 7 6010 0 (Cell (Relay refused_late))

abbrev pub found_due : Entry
found_due = in_cell 8 3606000 6 (Cell (Expire true))

abbrev pub ended_next : Entry
ended_next = in_cell 9 3606000 6 (Cell End)

abbrev pub closed_b_anew : Entry
closed_b_anew = in_box 0 4 6 (Box Close)

abbrev pub closed_a_anew : Entry
closed_a_anew = in_box 1 5 6 (Box Close)

abbrev pub timed_out : Entry
timed_out = on_board 6 3606000 (Board (Tick (next_call ∷ [])))

abbrev pub opened_b_last : Entry
opened_b_last = in_box 0 5 7 (Box (Open last_leg_b))

abbrev pub opened_a_last : Entry
opened_a_last = in_box 1 6 7 (Box (Open last_leg_a))

abbrev pub prepared_last : Entry
prepared_last = in_cell 10 3607000 7 (Cell (Prepare 2 last_legs [] []))

abbrev pub offered_last : Entry
offered_last = on_board 7 3607000 (Board (Turn last_turn))

abbrev pub delayed : Entry
delayed = on_board 8 3608000 (Board (Turn delay_turn))

abbrev pub asked_early : Entry
asked_early = in_cell 11 3637999 9 (Cell (Expire false))

abbrev pub ticked_early : Entry
ticked_early = on_board 9 3637999 (Board (Tick []))

abbrev pub ended_last : Entry
ended_last = in_cell 12 3637999 10 (Cell End)

abbrev pub closed_b_last : Entry
closed_b_last = in_box 0 6 10 (Box Close)

abbrev pub closed_a_last : Entry
closed_a_last = in_box 1 7 10 (Box Close)

abbrev pub over : Entry
over = on_board 10 3638000 (Board (Tick (last_call ∷ [])))

abbrev pub entries : List Entry
entries =
    opened_b ∷ opened_a ∷ prepared ∷ offered ∷ repeated ∷ committed ∷ answered ∷ taken ∷ sent ∷ taken_back ∷ sent_back ∷ taken_late
    ∷ asked ∷ ticked ∷ ended ∷ closed_b ∷ closed_a ∷ deleted ∷ opened_b_anew ∷ opened_a_anew ∷ prepared_anew ∷ offered_next
    ∷ relayed_late ∷ found_due ∷ ended_next ∷ closed_b_anew ∷ closed_a_anew ∷ timed_out ∷ opened_b_last ∷ opened_a_last
    ∷ prepared_last ∷ offered_last ∷ delayed ∷ asked_early ∷ ticked_early ∷ ended_last ∷ closed_b_last ∷ closed_a_last ∷ over ∷ []

-- Numbers.

abbrev is_numbered : Entry → Bool
is_numbered e = length (filter (is_at e.place e.number) entries) == 1

pub numbered : (e : Entry) → In e entries → length (filter (is_at e.place e.number) entries) ≡ 1
numbered e i = equal_by _ _ (of_all is_numbered entries refl e i)

abbrev is_counted : Entry → Bool
is_counted e = nat_lt e.number (count_by (λ f. f.place == e.place) entries)

pub counted : (e : Entry) → In e entries → e.number < count_by (λ f. f.place == e.place) entries
counted e i = less_by _ _ (of_all is_counted entries refl e i)

-- Order.

abbrev is_later : Entry → Entry → Bool
is_later e f = is_nested e.event && (is_nested f.event && (e.place == f.place && nat_lt e.number f.number))

-- the two entries of one place that are nested in one entry of the board
abbrev is_timeout : Entry → Entry → Bool
is_timeout e f = is_at 1 8 e && is_at 1 9 f

abbrev is_ordered : Entry → Entry → Bool
is_ordered e f = not (is_later e f) || (nat_lt e.board f.board || is_timeout e f)

-- the two stand in order
abbrev AreOrdered : Entry → Entry → Type 0
AreOrdered e f = (e.board < f.board) ⊎ ((e.board ≡ f.board) × Before e f entries)

timeout_is_ordered : AreOrdered found_due ended_next
timeout_is_ordered = inr (refl, before_at entries 23 24 refl refl (omega arith))

ordered_by : (e f : Entry) → In e entries → In f entries → (nat_lt e.board f.board ≡ true) ⊎ (is_timeout e f ≡ true) → AreOrdered e f
ordered_by e f i j (inl h) = inl (less_by _ _ h)
ordered_by e f i j (inr h) =
    let p = only_one (is_at 1 8) entries {y = found_due} refl e i (first_passes _ _ h) in
    let q = only_one (is_at 1 9) entries {y = ended_next} refl f j (second_passes _ _ h) in
    subst (λ (u : Entry). AreOrdered u f) (sym p) (subst (λ (u : Entry). AreOrdered found_due u) (sym q) timeout_is_ordered)

pub ordered : (e f : Entry) → In e entries → In f entries → is_nested e.event ≡ true → is_nested f.event ≡ true → e.place ≡ f.place → e.number < f.number
    → AreOrdered e f
ordered e f i j ne nf p n =
    let test = of_all (is_ordered e) entries (of_all (λ (e : Entry). list_all (is_ordered e) entries) entries refl e i) f j in
    let later = together _ _ ne (together _ _ nf (together _ _ (equal_is _ _ p) (less_is _ _ n))) in
    ordered_by e f i j (either _ _ (implied (is_later e f) _ test later))

-- Moments.

abbrev never_falls : Entry → Bool
never_falls e = nat_le (last_moment entries e) e.moment

abbrev is_of : Entry → Entry → Bool
is_of e b = b.place == 0 && (b.number == e.board && is_handed_boards e.event)

abbrev is_of_board : Entry → Entry → Bool
is_of_board e b = not (is_of e b) || e.moment == max b.moment (last_moment entries e)

abbrev is_else_last : Entry → Bool
is_else_last e = is_handed_own e.event || (is_handed_boards e.event || e.moment == last_moment entries e)

boards_moment : (e : Entry) → In e entries → (b : Entry) → In b entries → b.place ≡ 0 → b.number ≡ e.board → is_handed_boards e.event ≡ true
    → e.moment ≡ max b.moment (last_moment entries e)
boards_moment e i b j p n h =
    let test = of_all (is_of_board e) entries (of_all (λ (e : Entry). list_all (is_of_board e) entries) entries refl e i) b j in
    equal_by _ _ (implied (is_of e b) _ test (together _ _ (equal_is _ _ p) (together _ _ (equal_is _ _ n) h)))

last_one : (e : Entry) → In e entries → is_handed_own e.event ≡ false → is_handed_boards e.event ≡ false → e.moment ≡ last_moment entries e
last_one e i own boards = equal_by _ _ (otherwise _ _ (otherwise _ _ (of_all is_else_last entries refl e i) own) boards)

pub timed : (e : Entry) → In e entries → IsTimed entries e
timed e i = record {
  never_falls = at_most_by _ _ (of_all never_falls entries refl e i);
  of_board = boards_moment e i;
  else_last = last_one e i;
}
