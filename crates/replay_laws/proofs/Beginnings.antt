-- The beginning of what is told of a legal list: of each of its entries, what comes before it at its place determines the number, and, with
-- the event, the moment and what is told of a call.
use Rattle.std.proofs.Common.{◌≡◌, ◌∙◌, sym, ap, subst, refl, ℕ, zero, suc, ◌+◌, ◌-◌, ◌<◌, ◌≤◌, ◌⊎◌, inl, inr, ◌==◌, max, List, [], ◌∷◌, ◌++◌, map, filter, filter_map, count_by, length, Bool, true, false, cond, length-append, arith}
use Rattle.std.specs.List.{cons_option}
use Rattle.std.proofs.lemmas.List.Sums.{length-filter}
use Rattle.relay_outside.specs.declared.settings.Config.{Config}
use Rattle.histories.specs.Words.{In, here, there, greatest}
use Rattle.histories.proofs.Lists.{Made, in_left, mapped, equal_if}
use Rattle.port_pool.specs.declared.reports.LegReport.{LegReport}
use Rattle.call_cell.specs.Cells.{CellEntry, Prepare, Commit, Relay, Expire, Read, End}
use Rattle.call_cell.specs.Demands.{reports}
use Rattle.relay_core.specs.Entries.{Event, Board, Cell, Box, Entry, is_nested, is_at, history, board_at, box_in, cell_entry, cell_at, cell_history}
use Rattle.relay_core.specs.Legal.{Legal, is_handed_own, is_handed_boards, last_moment, FitsEvent}
use Rattle.relay_core.specs.Records.{as_logged, logged_event, logged_cell}
use Rattle.relay_core.specs.PlaceHistories.{logged_entry}
use Rattle.relay_core.specs.Turns.{Numbered, IsAbove, Rising}
use Rattle.relay_core.proofs.Gains.{rising_above}
use Rattle.relay_core.proofs.Histories.{Step, step, nothing, single, is_there}
use Rattle.relay_core.proofs.Refilling.{Keeps, history_mapped}
use Rattle.relay_core.proofs.Shields.{fitting_cell}
use Rattle.replay_laws.specs.Alike.{IsReport}
use Rattle.replay_laws.proofs.Lists.{same_history}

-- What is told keeps all but what a relay did.

same_board : (moment : ℕ) (event : Event) → board_at moment (logged_event event) ≡ board_at moment event
same_board moment (Board b) = refl
same_board moment (Cell c) = refl
same_board moment (Box b) = refl

same_box : (event : Event) → box_in (logged_event event) ≡ box_in event
same_box (Board b) = refl
same_box (Cell c) = refl
same_box (Box b) = refl

same_nested : (event : Event) → is_nested (logged_event event) ≡ is_nested event
same_nested (Board b) = refl
same_nested (Cell (Prepare call legs keys dropped)) = refl
same_nested (Cell (Commit signal)) = refl
same_nested (Cell (Relay x)) = refl
same_nested (Cell (Expire due)) = refl
same_nested (Cell (Read reports)) = refl
same_nested (Cell End) = refl
same_nested (Box b) = refl

-- of a nested step all is recorded
same_event : (event : Event) → is_nested event ≡ true → logged_event event ≡ event
same_event (Board b) nested = refl
same_event (Cell (Prepare call legs keys dropped)) nested = refl
same_event (Cell (Commit signal)) nested = refl
same_event (Cell (Relay x)) nested = absurd cc
same_event (Cell (Expire due)) nested = refl
same_event (Cell (Read reports)) nested = refl
same_event (Cell End) nested = refl
same_event (Box b) nested = refl

told_keeps : Keeps as_logged
told_keeps = record {
  place_is = λ e. refl;
  number_is = λ e. refl;
  moment_is = λ e. refl;
  board_is = λ e. refl;
  same_board = λ e. same_board e.moment e.event;
  same_box = λ e. same_box e.event;
  same_nested = λ e. same_nested e.event;
  same_owed = λ e nested. ap (λ (v : Event). record { place = e.place; event = v }) (same_event e.event nested);
}

-- Numbers.

one_at_most : (l : List Entry) → Numbered l → (place n : ℕ) → Step l place n → length (filter (is_at place n) l) ≤ 1
one_at_most l numbered place n (nothing q) = let k = ap length q in omega (arith, k)
one_at_most l numbered place n (single e i p m q) = let k = ap length q in omega (arith, k)

-- each number adds at most one entry
one_more : (l : List Entry) → Numbered l → (place n : ℕ) → length (history l place (suc n)) ≤ length (history l place n) + 1
one_more l numbered place n =
    let both = length-append (filter (is_at place n) l) (history l place n) in
    let one = one_at_most l numbered place n (step l numbered place n) in
    omega (arith, both, one)

few : (l : List Entry) → Numbered l → (place n : ℕ) → length (history l place n) ≤ n
few l numbered place zero = omega arith
few l numbered place (suc n) =
    let rest = few l numbered place n in
    let more = one_more l numbered place n in
    omega (arith, rest, more)

few_between : (l : List Entry) → Numbered l → (place m more : ℕ) → length (history l place (m + more)) ≤ length (history l place m) + more
few_between l numbered place m zero =
    let z : m + zero ≡ m = omega arith in
    let same = ap (λ (n : ℕ). length (history l place n)) z in
    omega (arith, same)
few_between l numbered place m (suc more) =
    let z : m + suc more ≡ suc (m + more) = omega arith in
    let same = ap (λ (n : ℕ). length (history l place n)) z in
    let rest = few_between l numbered place m more in
    let one = one_more l numbered place (m + more) in
    omega (arith, same, rest, one)

longer_at : (b : Bool) (e : Entry) (xs : List Entry) → length xs ≤ length (cond b (e ∷ xs) xs)
longer_at true e xs = omega arith
longer_at false e xs = omega arith

history_longer : (e : Entry) (l : List Entry) (place n : ℕ) → length (history l place n) ≤ length (history (e ∷ l) place n)
history_longer e l place zero = omega arith
history_longer e l place (suc n) =
    let a = length-append (filter (is_at place n) l) (history l place n) in
    let b = length-append (filter (is_at place n) (e ∷ l)) (history (e ∷ l) place n) in
    let c = longer_at (is_at place n e) e (filter (is_at place n) l) in
    let d = history_longer e l place n in
    omega (arith, a, b, c, d)

lt_or_eq : (m n : ℕ) → m < suc n → (m < n) ⊎ (m ≡ n)
lt_or_eq m n h = grind (arith, h)

history_one : (e : Entry) (l : List Entry) (place n : ℕ) → e.place ≡ place → e.number < n → length (history l place n) + 1 ≤ length (history (e ∷ l) place n)
history_one e l place zero at below = absurd (let k = below in omega (arith, k))
history_one e l place (suc n) at below = by_case (λ low. history_one e l place n at low) (lt_or_eq e.number n below)
  where
    by_case : (e.number < n → length (history l place n) + 1 ≤ length (history (e ∷ l) place n)) → (e.number < n) ⊎ (e.number ≡ n) → length (history l place (suc n)) + 1 ≤ length (history (e ∷ l) place (suc n))
    by_case before (inl low) =
        let a = length-append (filter (is_at place n) l) (history l place n) in
        let b = length-append (filter (is_at place n) (e ∷ l)) (history (e ∷ l) place n) in
        let c = longer_at (is_at place n e) e (filter (is_at place n) l) in
        let d = before low in
        omega (arith, a, b, c, d)
    by_case before (inr same) =
        let a = length-append (filter (is_at place n) l) (history l place n) in
        let b = length-append (filter (is_at place n) (e ∷ l)) (history (e ∷ l) place n) in
        let here_it_is = is_there place n e at same in
        let c = ap (λ (t : Bool). length (cond t (e ∷ filter (is_at place n) l) (filter (is_at place n) l))) here_it_is in
        let d = history_longer e l place n in
        omega (arith, a, b, c, d)

count_case : (e : Entry) (l : List Entry) (place n : ℕ) (b : Bool) → (e.place == place) ≡ b → IsAbove (e ∷ l) place n
    → length (filter (λ (f : Entry). f.place == place) l) ≤ length (history l place n)
    → length (cond b (e ∷ filter (λ (f : Entry). f.place == place) l) (filter (λ (f : Entry). f.place == place) l)) ≤ length (history (e ∷ l) place n)
count_case e l place n true is above rest =
    let at = equal_if e.place place is in
    let one = history_one e l place n at (above e (here refl) at) in
    omega (arith, rest, one)
count_case e l place n false is above rest = let more = history_longer e l place n in omega (arith, rest, more)

-- all of a place stand below a number that is above them
all_counted : (l : List Entry) (place n : ℕ) → IsAbove l place n → length (filter (λ (f : Entry). f.place == place) l) ≤ length (history l place n)
all_counted [] place n above = omega arith
all_counted (e ∷ l) place n above =
    count_case e l place n (e.place == place) refl above (all_counted l place n (λ f i p. above f (there i) p))

-- so of a legal list each number tells how many of its place came before
legal_number : (config : Config) (l : List Entry) → Legal config l → (e : Entry) → In e l → e.number ≡ length (history l e.place e.number)
legal_number config l g e i =
    let place : ℕ = e.place in
    let total : ℕ = count_by (λ (f : Entry). f.place == place) l in
    let below = g.counted e i in
    let above : IsAbove l place total = (λ f j p. subst (λ (q : ℕ). f.number < count_by (λ (x : Entry). x.place == q) l) p (g.counted f j)) in
    let all = all_counted l place total above in
    let count : length (filter (λ (f : Entry). f.place == place) l) ≡ total = length-filter (λ (f : Entry). f.place == place) l in
    let numbered : Numbered l = g.orderly.numbered in
    let split : e.number + (total - e.number) ≡ total = omega (arith, below) in
    let between = few_between l numbered place e.number (total - e.number) in
    let there_too = ap (λ (n : ℕ). length (history l place n)) split in
    let low = few l numbered place e.number in
    omega (arith, below, all, count, between, there_too, low)

-- What is told of a list.

told_moments : (xs : List Entry) → map (λ (e : Entry). e.moment) (map as_logged xs) ≡ map (λ (e : Entry). e.moment) xs
told_moments [] = refl
told_moments (x ∷ xs) = ap (λ (ns : List ℕ). x.moment ∷ ns) (told_moments xs)

told_long : (xs : List Entry) → length (map as_logged xs) ≡ length xs
told_long [] = refl
told_long (x ∷ xs) = let k = told_long xs in omega (arith, k)

cell_told : (moment : ℕ) (v : Event) (rest : List Entry) → filter_map cell_entry (map as_logged rest) ≡ map logged_entry (filter_map cell_entry rest)
    → cons_option (cell_at moment (logged_event v)) (filter_map cell_entry (map as_logged rest)) ≡ map logged_entry (cons_option (cell_at moment v) (filter_map cell_entry rest))
cell_told moment (Board b) rest same = same
cell_told moment (Cell c) rest same = ap (λ (es : List CellEntry). (record { moment = moment; event = logged_cell c }) ∷ es) same
cell_told moment (Box b) rest same = same

cells_told : (xs : List Entry) → filter_map cell_entry (map as_logged xs) ≡ map logged_entry (filter_map cell_entry xs)
cells_told [] = refl
cells_told (x ∷ xs) = cell_told x.moment x.event xs (cells_told xs)

told_read : (v : Event) (some : List LegReport) → logged_event v ≡ Cell (Read some) → v ≡ Cell (Read some)
told_read (Board b) some is = absurd (let e = is in cc)
told_read (Box b) some is = absurd (let e = is in cc)
told_read (Cell (Prepare call legs keys dropped)) some is = is
told_read (Cell (Commit signal)) some is = is
told_read (Cell (Relay x)) some is = absurd (let e = is in cc)
told_read (Cell (Expire due)) some is = is
told_read (Cell (Read other)) some is = is
told_read (Cell End) some is = is

told_boards : (v : Event) → is_handed_boards (logged_event v) ≡ is_handed_boards v
told_boards (Board b) = refl
told_boards (Box b) = refl
told_boards (Cell (Prepare call legs keys dropped)) = refl
told_boards (Cell (Commit signal)) = refl
told_boards (Cell (Relay x)) = refl
told_boards (Cell (Expire due)) = refl
told_boards (Cell (Read other)) = refl
told_boards (Cell End) = refl

told_own : (v : Event) → is_handed_own (logged_event v) ≡ is_handed_own v
told_own (Board b) = refl
told_own (Box b) = refl
told_own (Cell (Prepare call legs keys dropped)) = refl
told_own (Cell (Commit signal)) = refl
told_own (Cell (Relay x)) = refl
told_own (Cell (Expire due)) = refl
told_own (Cell (Read other)) = refl
told_own (Cell End) = refl

-- the latest moment of a place before a number, at first 0
abbrev pub latest : List Entry → ℕ → ℕ → ℕ
latest l place n = greatest (map (λ (e : Entry). e.moment) (history l place n))

-- A list is the beginning of what is told of a legal list, which goes on in the order of its numbers
pub record Begins (config : Config) (l : List Entry) : Type 0 where
  pub all : List Entry
  pub legal : Legal config all
  pub more : List Entry
  pub is : map as_logged all ≡ l ++ more
  pub rising : Rising l more

module _ (config : Config) (l : List Entry) (b : Begins config l) (e : Entry) (i : In e l) where
  abbrev made : Made as_logged e b.all
  made = mapped as_logged b.all (subst (In e) (sym b.is) (in_left l b.more i))

  abbrev one : Entry
  one = made.from

  past_is : history (map as_logged b.all) e.place e.number ≡ history l e.place e.number
  past_is =
      ap (λ (k : List Entry). history k e.place e.number) b.is
      ∙ same_history l b.more e.place e.number (λ f j p. let low : e.number < f.number = rising_above l b.more b.rising f j e i (sym p) in omega (arith, low))

  told_past : map as_logged (history b.all one.place one.number) ≡ history l e.place e.number
  told_past =
      sym (history_mapped as_logged told_keeps b.all one.place one.number)
      ∙ ap (λ (x : Entry). history (map as_logged b.all) x.place x.number) made.makes ∙ past_is

  pub number_is : e.number ≡ length (history l e.place e.number)
  number_is =
      sym (ap (λ (x : Entry). x.number) made.makes) ∙ legal_number config b.all b.legal one made.is_in
      ∙ sym (told_long (history b.all one.place one.number)) ∙ ap length told_past

  last_is : last_moment b.all one ≡ latest l e.place e.number
  last_is = ap greatest (sym (told_moments (history b.all one.place one.number)) ∙ ap (map (λ (x : Entry). x.moment)) told_past)

  pub report_is : (some : List LegReport) → e.event ≡ Cell (Read some) → IsReport config l e some
  report_is some is =
      let event : one.event ≡ Cell (Read some) = told_read one.event some (ap (λ (x : Entry). x.event) made.makes ∙ is) in
      let fits : FitsEvent config b.all one.place one.number one.moment (Cell (Read some)) = subst (FitsEvent config b.all one.place one.number one.moment) event (b.legal.fits one made.is_in) in
      record {
        history = cell_history b.all one.place one.number;
        recorded = sym (cells_told (history b.all one.place one.number)) ∙ ap (filter_map cell_entry) told_past;
        fitting = fitting_cell config b.all b.legal one.place one.number;
        told_is = fits;
      }

  -- the moment of an entry that is handed the board's
  pub boards_moment : (last : Entry) → In last l → last.place ≡ 0 → last.number ≡ e.board → is_handed_boards e.event ≡ true → e.moment ≡ max last.moment (latest l e.place e.number)
  boards_moment last j at number handed =
      let m : Made as_logged last b.all = mapped as_logged b.all (subst (In last) (sym b.is) (in_left l b.more j)) in
      let timed = b.legal.timed one made.is_in in
      let same : one.moment ≡ max m.from.moment (last_moment b.all one) =
      timed.of_board m.from m.is_in (ap (λ (x : Entry). x.place) m.makes ∙ at)
      (ap (λ (x : Entry). x.number) m.makes ∙ number ∙ sym (ap (λ (x : Entry). x.board) made.makes))
      (sym (told_boards one.event) ∙ ap (λ (x : Entry). is_handed_boards x.event) made.makes ∙ handed) in
      sym (ap (λ (x : Entry). x.moment) made.makes) ∙ same
      ∙ ap (λ (n : ℕ). max n (last_moment b.all one)) (ap (λ (x : Entry). x.moment) m.makes) ∙ ap (max last.moment) last_is

  -- and of one that is handed none
  pub else_moment : is_handed_own e.event ≡ false → is_handed_boards e.event ≡ false → e.moment ≡ latest l e.place e.number
  else_moment own boards =
      sym (ap (λ (x : Entry). x.moment) made.makes)
      ∙ (b.legal.timed one made.is_in).else_last
      (sym (told_own one.event) ∙ ap (λ (x : Entry). is_handed_own x.event) made.makes ∙ own)
      (sym (told_boards one.event) ∙ ap (λ (x : Entry). is_handed_boards x.event) made.makes ∙ boards)
      ∙ last_is
