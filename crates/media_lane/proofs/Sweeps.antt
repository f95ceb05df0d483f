-- What a sweep by the main hand keeps, and what it adds to the totals.
use Rattle.std.proofs.Common.{◌≡◌, ◌∙◌, refl, sym, ap, subst, ℕ, ◌+◌, ◌-◌, ◌^◌, inl, inr, Bool, true, false, cond, min, List, [], ◌∷◌, ◌++◌, Option, Some, None, filter, length, arith}
use Rattle.std.proofs.lemmas.List.{map-append}
use Rattle.relay_outside.specs.declared.settings.Config.{Config}
use Rattle.rtp_packet.specs.declared.head.Half.{Half}
use Rattle.turn_table.specs.declared.hands.Hand.{Hand}
use Rattle.turn_table.specs.Histories as table_lists
use Rattle.turn_table.specs.Hands.{IsSameHand, HasNoTurn, entries}
use Rattle.turn_table.specs.Steps.{entry}
use Rattle.port_pool.specs.Boxes as box
use Rattle.port_pool.specs.Boxes.{Taken}
use Rattle.call_cell.specs.declared.outcome.Outcome.{Outcome}
use Rattle.call_cell.specs.Cells as cells
use Rattle.relay_core.specs.declared.part.Part.{Part}
use Rattle.relay_core.specs.Entries.{Event, Entry, box_of}
use Rattle.relay_core.specs.Records.{Made, entry_of, list_of}
use Rattle.relay_core.specs.Turns.{IsOfLane, made_by}
use Rattle.relay_core.proofs.Joins.{row_append}
use Rattle.media_lane.specs.declared.answers.Totals.{Totals}
use Rattle.media_lane.specs.Receipts.{KeepsList}
use Rattle.media_lane.specs.Sweeps.{Sweeps}
use Rattle.media_lane.specs.Takes.{take_made}
use Rattle.media_lane.specs.Visits as visits
use Rattle.media_lane.specs.Visits.{Row, Passing, Visit, packet_by, packet_at, relay_rows, rows_of, all_rows, IsPassed, ArePassed, one_where, is_there, has_packet, ends_so, ends_with, has_sent, is_refused, is_lost, AreTotals}
use Rattle.media_lane.specs.SweepLoops.{AddsTotals}
use Rattle.media_lane.specs.Totals.{is_datagram, gave, is_relayed, capped, counted, HasTotals}
use Rattle.media_lane.proofs.Between.{StepsBy}
use Rattle.media_lane.proofs.Counts.{counted_append, counted_cons}

-- The rows of a sweep are takes and relays.

relay_in : (row : Row) (o : Option cells.Receipt) (r : Option Passing) → table_lists.IsMemberOf row (relay_rows o r) → IsOfLane row.event.event
relay_in row (Some p) (Some r) (table_lists.here q) = subst (λ (x : Row). IsOfLane x.event.event) (sym q) tt
relay_in row (Some p) (Some r) (table_lists.there i) = elim i [ ]
relay_in row (Some p) None i = elim i [ ]
relay_in row None r i = elim i [ ]

visit_in : (config : Config) (v : Visit) (row : Row) → table_lists.IsMemberOf row (rows_of config v) → IsOfLane row.event.event
visit_in config v row (table_lists.here q) = subst (λ (x : Row). IsOfLane x.event.event) (sym q) tt
visit_in config v row (table_lists.there i) = relay_in row (packet_at v) v.passing i

pub rows_in : (config : Config) (vs : List Visit) (row : Row) → table_lists.IsMemberOf row (all_rows config vs) → IsOfLane row.event.event
rows_in config [] row i = elim i [ ]
rows_in config (v ∷ vs) row i =
    elim (row_append (rows_of config v) (all_rows config vs) i) [ inl j ↦ visit_in config v row j | inr j ↦ rows_in config vs row j ]

-- What a sweep keeps.

module _ {M I O : Type 0} {g : _} where
  -- what is known of the main hand after a sweep, and what its list gained
  pub record SweptBy (config : Config) (range : Option (ℕ × ℕ)) (old new : Hand M (Part I O) Made (Unit {0}) g) (swept : Totals) : Type 0 where
    pub same : IsSameHand old new
    pub idle : HasNoTurn new
    pub list : KeepsList config (made_by old) (made_by new)
    pub sweeps : Sweeps config 0 1 range old new swept

  -- its rows are takes and relays
  pub swept_by_lane : (config : Config) (range : Option (ℕ × ℕ)) (old new : Hand M (Part I O) Made (Unit {0}) g) (swept : Totals)
      → (s : SweptBy config range old new swept) → StepsBy config old new (all_rows config s.sweeps.visits)
  swept_by_lane config range old new swept s =
      record { same = s.same; idle = s.idle; list = s.list; rows_are = s.sweeps.list_is; of_lane = λ row i. rows_in config s.sweeps.visits row i }

-- What a sweep adds to the totals.

pick_step : (f : Visit → Bool) (v : Visit) (vs : List Visit) (t : Bool) → length (cond t (v ∷ filter f vs) (filter f vs)) ≡ one_where t + length (filter f vs)
pick_step f v vs true = omega arith
pick_step f v vs false = omega arith

-- a count by rows is one by visits
all_counted : (q : Event → Bool) (f : Visit → Bool) (config : Config) (range : Option (ℕ × ℕ))
    → ((v : Visit) → IsPassed range (packet_at v) v.passing → counted q (list_of (rows_of config v)) ≡ one_where (f v))
    → (vs : List Visit) → ArePassed range vs → counted q (list_of (all_rows config vs)) ≡ length (filter f vs)
all_counted q f config range each [] passed = refl
all_counted q f config range each (v ∷ vs) passed =
    ap (counted q) (map-append entry_of (rows_of config v) (all_rows config vs))
    ∙ counted_append q (list_of (rows_of config v)) (list_of (all_rows config vs))
    ∙ ap (λ (n : ℕ). n + counted q (list_of (all_rows config vs))) (each v passed.0)
    ∙ ap (λ (n : ℕ). one_where (f v) + n) (all_counted q f config range each vs passed.1)
    ∙ sym (pick_step f v vs (f v))

gave_relays : (o : Option cells.Receipt) (r : Option Passing) → counted gave (list_of (relay_rows o r)) ≡ 0
gave_relays (Some p) (Some r) = refl
gave_relays (Some p) None = refl
gave_relays None r = refl

gave_there : (number : ℕ) (half : Half) (taken : Taken) → is_datagram taken ≡ is_there (packet_by number half taken)
gave_there number half box.Closed = refl
gave_there number half box.Nothing = refl
gave_there number half (box.Datagram holder source bytes) = refl
gave_there number half (box.TooLong source bytes) = refl
gave_there number half box.Fault = refl

none_more : (n : ℕ) → n + 0 ≡ n
none_more n = omega arith

none_first : (n : ℕ) → 0 + n ≡ n
none_first n = omega arith

head_row : (q : Event → Bool) (row : Row) (rows : List Row) → counted q (list_of (row ∷ rows)) ≡ cond (q row.event.event) 1 0 + counted q (list_of rows)
head_row q row rows = counted_cons q (entry_of row) (list_of rows)

take_row : Config → Visit → Row
take_row config v = entry (box_of config v.pair) v.number (take_made v.half v.taken) (tt {0})

gave_visit : (config : Config) (v : Visit) → counted gave (list_of (rows_of config v)) ≡ one_where (has_packet v)
unfolding take_row
gave_visit config v =
    head_row gave (take_row config v) (relay_rows (packet_at v) v.passing)
    ∙ ap (λ (n : ℕ). cond (is_datagram v.taken) 1 0 + n) (gave_relays (packet_at v) v.passing)
    ∙ none_more (cond (is_datagram v.taken) 1 0)
    ∙ ap (λ (t : Bool). one_where t) (gave_there v.number v.half v.taken)

relay_counted : (p : Outcome → Bool) (range : Option (ℕ × ℕ)) (o : Option cells.Receipt) (r : Option Passing) → IsPassed range o r
    → counted (is_relayed p) (list_of (relay_rows o r)) ≡ one_where (ends_so p r)
relay_counted p range (Some k) (Some r) passed = none_first (one_where (p r.outcome))
relay_counted p range (Some k) None passed = absurd passed
relay_counted p range None (Some r) passed = absurd passed
relay_counted p range None None passed = refl

relayed_visit : (p : Outcome → Bool) (config : Config) (range : Option (ℕ × ℕ)) (v : Visit) → IsPassed range (packet_at v) v.passing
    → counted (is_relayed p) (list_of (rows_of config v)) ≡ one_where (ends_with p v)
unfolding take_row
relayed_visit p config range v passed =
    head_row (is_relayed p) (take_row config v) (relay_rows (packet_at v) v.passing)
    ∙ none_first (counted (is_relayed p) (list_of (relay_rows (packet_at v) v.passing))) ∙ relay_counted p range (packet_at v) v.passing passed

capped_sum : (m a b c old more new : ℕ) → old ≡ min a m → more ≡ min b m → new ≡ min (old + more) m → c ≡ a + b → new ≡ min c m
capped_sum m a b c old more new was came is both = omega arith

-- the rows of these visits stand after a list
module _ (config : Config) (range : Option (ℕ × ℕ)) (l : List Entry) (vs : List Visit) (passed : ArePassed range vs) where
  longer : (q : Event → Bool) → counted q (l ++ list_of (all_rows config vs)) ≡ counted q l + counted q (list_of (all_rows config vs))
  longer q = counted_append q l (list_of (all_rows config vs))

  added : (q : Event → Bool) (f : Visit → Bool) (was more is : ℕ)
      → ((v : Visit) → IsPassed range (packet_at v) v.passing → counted q (list_of (rows_of config v)) ≡ one_where (f v))
      → was ≡ capped (counted q l) → more ≡ visits.count f vs → is ≡ capped (was + more) → is ≡ capped (counted q (l ++ list_of (all_rows config vs)))
  added q f was more is each before came sum =
      capped_sum (2 ^ 64 - 1) (counted q l) (length (filter f vs)) (counted q (l ++ list_of (all_rows config vs))) was more is before came sum
      (longer q ∙ ap (λ (n : ℕ). counted q l + n) (all_counted q f config range each vs passed))

  -- the totals, when what came of the visits is added
  pub visits_totals : (was swept is : Totals) → AreTotals vs swept → AddsTotals was swept is → HasTotals l was → HasTotals (l ++ list_of (all_rows config vs)) is
  visits_totals was swept is came adds h = record {
    taken = added gave has_packet was.taken swept.taken is.taken (λ v passed. gave_visit config v) h.taken came.taken adds.taken;
    sent = added (is_relayed has_sent) (ends_with has_sent) was.sent swept.sent is.sent (relayed_visit has_sent config range) h.sent came.sent adds.sent;
    refused = added (is_relayed is_refused) (ends_with is_refused) was.refused swept.refused is.refused (relayed_visit is_refused config range) h.refused came.refused adds.refused;
    lost = added (is_relayed is_lost) (ends_with is_lost) was.lost swept.lost is.lost (relayed_visit is_lost config range) h.lost came.lost adds.lost;
  }

module _ {M I O : Type 0} {g : _} (config : Config) (range : Option (ℕ × ℕ)) (old new : Hand M (Part I O) Made (Unit {0}) g) (swept : Totals)
    (s : SweptBy config range old new swept) where
  -- those of a sweep
  pub swept_totals : (was is : Totals) → AddsTotals was swept is → HasTotals (made_by old) was → HasTotals (made_by new) is
  swept_totals was is adds h =
      subst (λ (l : List Entry). HasTotals l is)
      (sym (ap (λ (xs : List Row). list_of xs) s.sweeps.list_is ∙ map-append entry_of (entries old) (all_rows config s.sweeps.visits)))
      (visits_totals config range (made_by old) s.sweeps.visits s.sweeps.passed was swept is s.sweeps.totals_are adds h)

-- A lane on the main hand.

module _ {M I O : Type 0} {g : _} where
  pub swept_at : (config config' : Config) (range : Option (ℕ × ℕ)) (index lanes : ℕ) (old first last new : Hand M (Part I O) Made (Unit {0}) g) (swept : Totals)
      → first ≡ old → new ≡ last → config' ≡ config → index ≡ 0 → lanes ≡ 1 → IsSameHand first last → HasNoTurn new
      → KeepsList config' (made_by first) (made_by last) → Sweeps config' index lanes range first last swept → SweptBy config range old new swept
  swept_at config config' range index lanes old first last new swept begins ends config_is index_is lanes_is same idle list sweeps = record {
    same = subst (λ h. IsSameHand h new) begins (subst (λ h. IsSameHand first h) (sym ends) same);
    idle = idle;
    list = subst (λ h. KeepsList config (made_by h) (made_by new)) begins
        (subst (λ h. KeepsList config (made_by first) (made_by h)) (sym ends) (subst (λ k. KeepsList k (made_by first) (made_by last)) config_is list));
    sweeps = subst (λ h. Sweeps config 0 1 range h new swept) begins
        (subst (λ h. Sweeps config 0 1 range first h swept) (sym ends)
        (subst (λ n. Sweeps config 0 n range first last swept) lanes_is
        (subst (λ n. Sweeps config n lanes range first last swept) index_is
        (subst (λ k. Sweeps k index lanes range first last swept) config_is sweeps))));
  }
