-- A visit, from the take and the relay that it made.
use Rattle.std.proofs.Common.{◌≡◌, refl, sym, ◌∙◌, ap, subst, ℕ, ◌+◌, ◌-◌, ◌^◌, Bool, true, false, cond, min, List, [], ◌∷◌, ◌++◌, Option, Some, None, filter, length, length-append, append_assoc, arith}
use Rattle.relay_outside.specs.declared.settings.Config.{Config}
use Rattle.relay_outside.specs.DeviceLogs.{WhereInRange}
use Rattle.rtp_packet.specs.declared.head.Half.{Half}
use Rattle.histories.proofs.Lists.{in_left}
use Rattle.turn_table.specs.declared.hands.Hand.{Hand}
use Rattle.turn_table.specs.declared.machine.Entry as table
use Rattle.turn_table.specs.Hands.{entries}
use Rattle.turn_table.specs.Steps.{entry}
use Rattle.port_pool.specs.declared.boxes.BoxTake.{BoxTake}
use Rattle.port_pool.specs.Boxes.{Taken}
use Rattle.port_pool.specs.Takes.{taken_within}
use Rattle.call_cell.specs.declared.outcome.Incoming.{Incoming}
use Rattle.call_cell.specs.declared.outcome.Outcome.{Outcome}
use Rattle.call_cell.specs.Cells as cells
use Rattle.call_cell.specs.LegHistories.{receipt_of}
use Rattle.relay_core.specs.Entries.{Entry, box_of}
use Rattle.relay_core.specs.Records.{Made, entry_of, list_of}
use Rattle.relay_core.specs.Joins.{TakesOwnPairs}
use Rattle.relay_core.specs.Turns.{made_by}
use Rattle.relay_core.proofs.Turns.{filter_append}
use Rattle.media_lane.specs.declared.answers.Totals.{Totals}
use Rattle.media_lane.specs.Receipts.{KeepsList}
use Rattle.media_lane.specs.Takes.{take_made}
use Rattle.media_lane.specs.Relays.{relay_made}
use Rattle.media_lane.specs.Visits.{Row, Visit, Passing, packet_by, relay_rows, IsPassed, has_packet, is_there, ends_so, ends_with, has_sent, is_refused, is_lost, count, one_more, AreTotals, CountsRelay}
use Rattle.media_lane.specs.Sweeps.{VisitsOnce}

-- One list after another.

own_pairs_in : (config : Config) (l more : List Entry) → TakesOwnPairs config (l ++ more) → TakesOwnPairs config l
own_pairs_in config l more own f half holder source bytes i q = own f half holder source bytes (in_left l more i) q

pub keeps_both : (config : Config) (a b c more : List Entry) → c ≡ b ++ more → KeepsList config a b → KeepsList config b c → KeepsList config a c
keeps_both config a b c more is first second = record {
  numbered = λ n. second.numbered (first.numbered n);
  orderly = λ o. second.orderly (first.orderly o);
  receiving = λ own r. second.receiving own (first.receiving (own_pairs_in config b more (subst (TakesOwnPairs config) is own)) r);
}

pub list_append : {T : Type 0} (xs ys : List (table.Entry Made T)) → list_of (xs ++ ys) ≡ list_of xs ++ list_of ys
list_append [] ys = refl
list_append (x ∷ xs) ys = ap (λ (l : List Entry). entry_of x ∷ l) (list_append xs ys)

pub keeps_more : {M S : Type 0} {g : _} (config config' : Config) (rows : List Row) (first old new : Hand M S Made (Unit {0}) g)
    → entries new ≡ entries old ++ rows → config' ≡ config → KeepsList config (made_by first) (made_by old) → KeepsList config' (made_by old) (made_by new)
    → KeepsList config (made_by first) (made_by new)
keeps_more config config' rows first old new is same before after =
    keeps_both config (made_by first) (made_by old) (made_by new) (list_of rows) (ap (λ (xs : List Row). list_of xs) is ∙ list_append (entries old) rows) before
    (subst (λ (c : Config). KeepsList c (made_by old) (made_by new)) same after)

-- Counts.

capped_more : (n : ℕ) → min (n + 1) (2 ^ 64 - 1) ≡ one_more (min n (2 ^ 64 - 1))
capped_more n = omega arith

length_more : (p : Visit → Bool) (vs : List Visit) (v : Visit) (t : Bool) → p v ≡ t → length (filter p (vs ++ v ∷ [])) ≡ cond t (length (filter p vs) + 1) (length (filter p vs))
length_more p vs v true q =
    ap (λ (xs : List Visit). length xs) (filter_append p vs (v ∷ []))
    ∙ length-append (filter p vs) (filter p (v ∷ []))
    ∙ ap (λ (b : Bool). length (filter p vs) + length (cond b (v ∷ []) [])) q
length_more p vs v false q =
    ap (λ (xs : List Visit). length xs) (filter_append p vs (v ∷ []))
    ∙ length-append (filter p vs) (filter p (v ∷ []))
    ∙ ap (λ (b : Bool). length (filter p vs) + length (cond b (v ∷ []) [])) q
    ∙ (omega arith)

count_more : (p : Visit → Bool) (vs : List Visit) (v : Visit) (t : Bool) → p v ≡ t → count p (vs ++ v ∷ []) ≡ cond t (one_more (count p vs)) (count p vs)
count_more p vs v true q = ap (λ (n : ℕ). min n (2 ^ 64 - 1)) (length_more p vs v true q) ∙ capped_more (length (filter p vs))
count_more p vs v false q = ap (λ (n : ℕ). min n (2 ^ 64 - 1)) (length_more p vs v false q)

same_totals : (vs : List Visit) (v : Visit) (t : Totals) → has_packet v ≡ false → v.passing ≡ None → AreTotals vs t → AreTotals (vs ++ v ∷ []) t
same_totals vs v t none passing a = record {
  taken = a.taken ∙ sym (count_more has_packet vs v false none);
  sent = a.sent ∙ sym (count_more (ends_with has_sent) vs v false (ap (λ (o : Option Passing). ends_so has_sent o) passing));
  refused = a.refused ∙ sym (count_more (ends_with is_refused) vs v false (ap (λ (o : Option Passing). ends_so is_refused o) passing));
  lost = a.lost ∙ sym (count_more (ends_with is_lost) vs v false (ap (λ (o : Option Passing). ends_so is_lost o) passing));
}

counted_by : (p : Visit → Bool) (vs : List Visit) (v : Visit) (old new : ℕ) (t : Bool) → p v ≡ t → old ≡ count p vs → new ≡ cond t (one_more old) old → new ≡ count p (vs ++ v ∷ [])
counted_by p vs v old new true q was now = now ∙ ap (λ (n : ℕ). one_more n) was ∙ sym (count_more p vs v true q)
counted_by p vs v old new false q was now = now ∙ was ∙ sym (count_more p vs v false q)

more_totals : (vs : List Visit) (v : Visit) (outcome : Outcome) (s t : Totals) → has_packet v ≡ true → ends_with has_sent v ≡ has_sent outcome → ends_with is_refused v ≡ is_refused outcome
    → ends_with is_lost v ≡ is_lost outcome → CountsRelay outcome s t → AreTotals vs s → AreTotals (vs ++ v ∷ []) t
more_totals vs v outcome s t packet sent refused lost c a = record {
  taken = counted_by has_packet vs v s.taken t.taken true packet a.taken c.taken;
  sent = counted_by (ends_with has_sent) vs v s.sent t.sent (has_sent outcome) sent a.sent c.sent;
  refused = counted_by (ends_with is_refused) vs v s.refused t.refused (is_refused outcome) refused a.refused c.refused;
  lost = counted_by (ends_with is_lost) vs v s.lost t.lost (is_lost outcome) lost a.lost c.lost;
}

-- What was taken, by the bytes of the room.

pub packet_taken : (number : ℕ) (half : Half) (given : BoxTake) (packet : Incoming) (front room : List ℕ) → front ≡ room
    → packet_by number half (taken_within given front) ≡ Some (receipt_of number packet front) → packet_by number half (taken_within given room) ≡ Some (receipt_of number packet room)
packet_taken number half given packet front room is =
    subst (λ (buf : List ℕ). packet_by number half (taken_within given buf) ≡ Some (receipt_of number packet buf)) is

pub nothing_taken : (number : ℕ) (half : Half) (given : BoxTake) (front room : List ℕ) → front ≡ room → packet_by number half (taken_within given front) ≡ None
    → packet_by number half (taken_within given room) ≡ None
nothing_taken number half given front room is = subst (λ (buf : List ℕ). packet_by number half (taken_within given buf) ≡ None) is

-- The visit.

module _ {M S : Type 0} {g : _} (config : Config) (range : Option (ℕ × ℕ)) (pair : ℕ) (half : Half) (old mid new : Hand M S Made (Unit {0}) g) (number : ℕ) (taken : Taken) where
  -- a visit that took no datagram
  pub visits_nothing : (t : Totals) → packet_by number half taken ≡ None → entries new ≡ entries old ++ entry (box_of config pair) number (take_made half taken) (tt {0}) ∷ []
      → VisitsOnce config range pair half old new t t
  visits_nothing t none list_is =
      let v : Visit = record { pair = pair; half = half; number = number; taken = taken; passing = None } in record {
        visit = v;
        pair_is = refl;
        half_is = refl;
        list_is = list_is
            ∙ ap (λ (o : Option cells.Receipt). entries old ++ entry (box_of config pair) number (take_made half taken) (tt {0}) ∷ relay_rows o None) (sym none);
        passed = subst (λ (o : Option cells.Receipt). IsPassed range o None) (sym none) (tt {0});
        counted = λ vs a. same_totals vs v t (ap is_there none) refl a;
      }

  -- a visit that took a datagram and relayed it
  pub visits_packet : (p : cells.Receipt) (now : ℕ) (outcome : Outcome) (s t : Totals) (relay_number moment : ℕ) → packet_by number half taken ≡ Some p
      → entries mid ≡ entries old ++ entry (box_of config pair) number (take_made half taken) (tt {0}) ∷ []
      → entries new ≡ entries mid ++ entry p.holder.cell relay_number (relay_made p now moment outcome) (tt {0}) ∷ []
      → WhereInRange range now → CountsRelay outcome s t → VisitsOnce config range pair half old new s t
  visits_packet p now outcome s t relay_number moment is taken_row relayed_row within counts =
      let passing : Passing = record { number = relay_number; handed = now; moment = moment; outcome = outcome } in
      let v : Visit = record { pair = pair; half = half; number = number; taken = taken; passing = Some passing } in
      let row : Row = entry (box_of config pair) number (take_made half taken) (tt {0}) in record {
        visit = v;
        pair_is = refl;
        half_is = refl;
        list_is = relayed_row
            ∙ ap (λ (rows : List Row). rows ++ relay_rows (Some p) (Some passing)) taken_row
            ∙ append_assoc (entries old) (row ∷ []) (relay_rows (Some p) (Some passing))
            ∙ ap (λ (o : Option cells.Receipt). entries old ++ row ∷ relay_rows o (Some passing)) (sym is);
        passed = subst (λ (o : Option cells.Receipt). IsPassed range o (Some passing)) (sym is) within;
        counted = λ vs a. more_totals vs v outcome s t (ap is_there is) refl refl refl counts a;
      }
