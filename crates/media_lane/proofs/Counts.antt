-- What is counted over a longer list.
use Rattle.std.proofs.Common.{◌≡◌, ◌∙◌, refl, sym, ap, ℕ, ◌+◌, Bool, true, false, cond, List, [], ◌∷◌, ◌++◌, Some, map, arith}
use Rattle.std.proofs.lemmas.List.Sums.{sum_by-append}
use Rattle.relay_outside.specs.declared.settings.Config.{Config}
use Rattle.turn_table.specs.declared.machine.Entry as table
use Rattle.turn_table.specs.declared.hands.Hand.{Hand}
use Rattle.turn_table.specs.Hands.{entries}
use Rattle.histories.specs.Words.{In, here, there}
use Rattle.port_pool.specs.Boxes.{Open, Take, Close}
use Rattle.call_cell.specs.declared.outcome.Outcome.{Outcome}
use Rattle.call_cell.specs.Cells.{Prepare, Commit, Relay, Expire, Read, End}
use Rattle.call_board.specs.Acts.{BoardEntry}
use Rattle.relay_core.specs.declared.part.Part.{Part}
use Rattle.relay_core.specs.Entries.{Event, Board, Cell, Box, Entry, is_nested, board_at}
use Rattle.relay_core.specs.Legal.{Orderly}
use Rattle.relay_core.specs.Records.{Made, entry_of, list_of, as_logged, logged_event}
use Rattle.relay_core.specs.Turns.{IsTurn, with_turn, made_by}
use Rattle.relay_core.proofs.Recording.{turn_list}
use Rattle.relay_core.proofs.Turns.{turn_elsewhere}
use Rattle.media_lane.specs.declared.answers.Totals.{Totals}
use Rattle.media_lane.specs.Visits.{has_sent, is_refused, is_lost}
use Rattle.board_turns.specs.Between.{MakesTurn}
use Rattle.media_lane.specs.Totals.{gave, is_relayed, capped, counted, HasTotals}

pub counted_append : (q : Event → Bool) (l k : List Entry) → counted q (l ++ k) ≡ counted q l + counted q k
counted_append q l k = sum_by-append (λ (e : Entry). cond (q e.event) 1 0) l k

none_first : (n : ℕ) → 0 + n ≡ n
none_first n = omega arith

pub counted_cons : (q : Event → Bool) (e : Entry) (l : List Entry) → counted q (e ∷ l) ≡ cond (q e.event) 1 0 + counted q l
counted_cons q e l = counted_append q (e ∷ []) l ∙ ap (λ (n : ℕ). n + counted q l) (none_first (cond (q e.event) 1 0))

counted_none : (q : Event → Bool) (l : List Entry) → ((e : Entry) → In e l → q e.event ≡ false) → counted q l ≡ 0
counted_none q [] none = refl
counted_none q (e ∷ l) none =
    counted_cons q e l
    ∙ ap (λ (b : Bool). cond b 1 0 + counted q l) (none e (here refl))
    ∙ ap (λ (n : ℕ). 0 + n) (counted_none q l (λ f i. none f (there i)))

-- A test of takes and relays alone, by what is recorded of them.
record IsOfMedia (q : Event → Bool) : Type 0 where
  nested : (v : Event) → is_nested v ≡ true → q v ≡ false
  boards : (moment : ℕ) (v : Event) (x : BoardEntry) → board_at moment v ≡ Some x → q v ≡ false
  recorded : (v : Event) → q (logged_event v) ≡ q v

gave_nested : (v : Event) → is_nested v ≡ true → gave v ≡ false
gave_nested (Board b) h = refl
gave_nested (Cell c) h = refl
gave_nested (Box (Open leg)) h = refl
gave_nested (Box (Take half taken)) h = absurd (let k : false ≡ true = h in cc)
gave_nested (Box Close) h = refl

gave_boards : (moment : ℕ) (v : Event) (x : BoardEntry) → board_at moment v ≡ Some x → gave v ≡ false
gave_boards moment (Board b) x q = refl
gave_boards moment (Cell c) x q = refl
gave_boards moment (Box b) x q = absurd (let k = q in cc)

gave_recorded : (v : Event) → gave (logged_event v) ≡ gave v
gave_recorded (Board b) = refl
gave_recorded (Cell c) = refl
gave_recorded (Box b) = refl

gave_media : IsOfMedia gave
gave_media = record { nested = gave_nested; boards = gave_boards; recorded = gave_recorded }

relayed_nested : (p : Outcome → Bool) (v : Event) → is_nested v ≡ true → is_relayed p v ≡ false
relayed_nested p (Board b) h = refl
relayed_nested p (Cell (Prepare call legs keys dropped)) h = refl
relayed_nested p (Cell (Commit signal)) h = refl
relayed_nested p (Cell (Relay x)) h = absurd (let k : false ≡ true = h in cc)
relayed_nested p (Cell (Expire due)) h = refl
relayed_nested p (Cell (Read reports)) h = refl
relayed_nested p (Cell End) h = refl
relayed_nested p (Box b) h = refl

relayed_boards : (p : Outcome → Bool) (moment : ℕ) (v : Event) (x : BoardEntry) → board_at moment v ≡ Some x → is_relayed p v ≡ false
relayed_boards p moment (Board b) x q = refl
relayed_boards p moment (Cell c) x q = absurd (let k = q in cc)
relayed_boards p moment (Box b) x q = refl

relayed_recorded : (p : Outcome → Bool) (v : Event) → is_relayed p (logged_event v) ≡ is_relayed p v
relayed_recorded p (Board b) = refl
relayed_recorded p (Cell (Prepare call legs keys dropped)) = refl
relayed_recorded p (Cell (Commit signal)) = refl
relayed_recorded p (Cell (Relay x)) = refl
relayed_recorded p (Cell (Expire due)) = refl
relayed_recorded p (Cell (Read reports)) = refl
relayed_recorded p (Cell End) = refl
relayed_recorded p (Box b) = refl

relayed_media : (p : Outcome → Bool) → IsOfMedia (is_relayed p)
relayed_media p = record { nested = relayed_nested p; boards = relayed_boards p; recorded = relayed_recorded p }

-- where the counts are the same, so are the totals
same_totals : (l k : List Entry) (t : Totals) → ((q : Event → Bool) → IsOfMedia q → counted q k ≡ counted q l) → HasTotals l t → HasTotals k t
same_totals l k t same h = record {
  taken = h.taken ∙ ap capped (sym (same gave gave_media));
  sent = h.sent ∙ ap capped (sym (same (is_relayed has_sent) (relayed_media has_sent)));
  refused = h.refused ∙ ap capped (sym (same (is_relayed is_refused) (relayed_media is_refused)));
  lost = h.lost ∙ ap capped (sym (same (is_relayed is_lost) (relayed_media is_lost)));
}

-- A turn of the board takes and relays nothing.

one_none : (q : Event → Bool) (b : Entry) → q b.event ≡ false → counted q (b ∷ []) ≡ 0
one_none q b none = ap (λ (x : Bool). 0 + cond x 1 0) none

turn_counted : (config : Config) (l ns : List Entry) (b : Entry) → Orderly config l → IsTurn config l ns b → (q : Event → Bool) → IsOfMedia q
    → counted q (with_turn l ns b) ≡ counted q l
turn_counted config l ns b o t q media =
    let both = counted_append q (l ++ ns) (b ∷ []) in
    let first = counted_append q l ns in
    let nested = counted_none q ns (λ e i. media.nested e.event (turn_elsewhere config l ns b o t e i).0) in
    let last = one_none q b (media.boards b.moment b.event t.entry t.is) in
    omega (arith, both, first, nested, last)

module _ {M I O T : Type 0} {g : _} where
  -- so the totals stay what they are
  pub turn_totals : (config : Config) (old new : Hand M (Part I O) Made T g) (e : BoardEntry) (t : Totals) → Orderly config (made_by old)
      → MakesTurn config old new e → HasTotals (made_by old) t → HasTotals (made_by new) t
  turn_totals config old new e t orderly makes h =
      let list : made_by new ≡ with_turn (made_by old) (list_of makes.rows) (entry_of makes.row) =
      ap (λ (rows : List (table.Entry Made T)). list_of rows) makes.list_is ∙ turn_list (entries old) makes.rows makes.row in
      same_totals (made_by old) (made_by new) t
      (λ q media. ap (counted q) list ∙ turn_counted config (made_by old) (list_of makes.rows) (entry_of makes.row) orderly makes.turn q media) h

-- What is recorded of a list has the same totals.

told_counted : (q : Event → Bool) → IsOfMedia q → (l : List Entry) → counted q (map as_logged l) ≡ counted q l
told_counted q media [] = refl
told_counted q media (e ∷ l) =
    counted_cons q (as_logged e) (map as_logged l)
    ∙ ap (λ (b : Bool). cond b 1 0 + counted q (map as_logged l)) (media.recorded e.event)
    ∙ ap (λ (n : ℕ). cond (q e.event) 1 0 + n) (told_counted q media l)
    ∙ sym (counted_cons q e l)

pub told_totals : (l : List Entry) (t : Totals) → HasTotals (map as_logged l) t → HasTotals l t
told_totals l t h = same_totals (map as_logged l) l t (λ q media. sym (told_counted q media l)) h
