-- The rows that shut a box stand in the list in the order of their numbers, so what its ends told in that order is what the box's history says.
use Rattle.std.proofs.Common.{length-append, ◌≡◌, ◌∙◌, sym, ap, subst, refl, ℕ, suc, ◌+◌, ◌<◌, ◌≤◌, ◌⊎◌, inl, inr, List, [], ◌∷◌, ◌++◌, Bool, true, false, cond, Option, Some, None, length, filter, arith, slice_get, append-nil}
use Rattle.std.specs.Prelude.{◌&&◌, ◌==◌}
use Rattle.std.specs.List.{filter_map}
use Rattle.relay_outside.specs.declared.ports.InCall.{InCall}
use Rattle.relay_outside.specs.declared.ports.OutCall.{OutCall}
use Rattle.relay_outside.specs.declared.settings.Config.{Config}
use Rattle.relay_outside.specs.Ports.{joined}
use Rattle.relay_outside.specs.DeviceLogs.{EndLog, WhereLogged}
use Rattle.rtp_packet.specs.declared.head.Half.{Half}
use Rattle.turn_table.specs.declared.machine.Entry as table
use Rattle.turn_table.specs.Histories.{Leaves, Named}
use Rattle.turn_table.specs.Histories as table_lists
use Rattle.turn_table.proofs.Lists.{get_in, in_get}
use Rattle.histories.specs.Words.{In, here, there, Before, begins, goes_on}
use Rattle.histories.proofs.Lists.{equal, equal_if, keeps}
use Rattle.port_pool.specs.declared.boxes.Opened.{Opened}
use Rattle.port_pool.specs.Boxes.{holder}
use Rattle.port_pool.specs.PairBoxes.{pair_ends, holder_of}
use Rattle.port_pool.specs.Ports.{pair_count}
use Rattle.relay_core.specs.declared.part.Part.{Part}
use Rattle.relay_core.specs.declared.part.Part.TheVariants as part
use Rattle.relay_core.specs.Entries.{Entry, is_nested, is_at, history, box_event, box_history, box_of, front}
use Rattle.relay_core.specs.Records.{Made, entry_of, list_of}
use Rattle.relay_core.specs.FirstPlaces.{AreParts, BeginsAs}
use Rattle.relay_core.specs.Joins.{IsSound}
use Rattle.relay_core.specs.PlaceHistories.{Stands, IsBoxPart}
use Rattle.relay_core.specs.Turns.{Numbered, IsAbove}
use Rattle.relay_core.specs.EndLogs.{is_closing, in_left, ins_logged, takes_of, takes_at, InOrder, InsAreTold}
use Rattle.relay_core.proofs.Histories.{both, is_there}
use Rattle.relay_core.proofs.Boxes.{below_front}
use Rattle.relay_core.proofs.Own.{rows_in}
use Rattle.relay_core.proofs.Returning.{closing_nested}
use Rattle.relay_core.proofs.Stays.{box_stays}
use Rattle.relay_core.proofs.Given.{begins_as}
use Rattle.relay_core.proofs.InsTold.{ins_of, calls_of, held, held_in, rows_tell, takes_are}
use Rattle.relay_core.specs.ReturnedPairs.{AreReturned}
use Rattle.relay_core.specs.Legal.{Orderly}
use Rattle.relay_core.proofs.Closed.{IsWhole, AreWhole, InRange, in_range, closed_numbered, whole_past, closed_stands}

-- Entries in the order of their numbers.

-- after each nested entry those of its place have greater numbers
abbrev AreRising : List Entry → Type 0
AreRising [] = Unit {0}
AreRising (e ∷ es) = ((f : Entry) → In f es → is_nested e.event ≡ true → is_nested f.event ≡ true → f.place ≡ e.place → e.number < f.number) × AreRising es

three : (a b : ℕ) → (a < b) ⊎ ((a ≡ b) ⊎ (b < a))
three a b = grind arith

-- in a list in which each stands once none stands at its own number again
twice : (e : Entry) (es : List Entry) → length (filter (is_at e.place e.number) (e ∷ es)) ≡ 1 → (f : Entry) → In f es → f.place ≡ e.place → f.number ≡ e.number → ⊥
twice e es one f i p n =
    let first : is_at e.place e.number e ≡ true = is_there e.place e.number e refl refl in
    let count : suc (length (filter (is_at e.place e.number) es)) ≡ 1
    = sym (ap (λ (t : Bool). length (cond t (e ∷ filter (is_at e.place e.number) es) (filter (is_at e.place e.number) es))) first) ∙ one in
    some (filter (is_at e.place e.number) es) (keeps (is_at e.place e.number) es i (is_there e.place e.number f p n)) (omega (arith, count))
  where
    some : {x : Entry} (xs : List Entry) → In x xs → length xs ≡ 0 → ⊥
    some [] i q = elim i [ ]
    some (x ∷ xs) i q = omega (arith, q)

fewer : (e x : Entry) (es : List Entry) → In x es → length (filter (is_at x.place x.number) (e ∷ es)) ≡ 1 → length (filter (is_at x.place x.number) es) ≡ 1
fewer e x es i one = by_case (is_at x.place x.number e) one (at_least (filter (is_at x.place x.number) es) (keeps (is_at x.place x.number) es i (is_there x.place x.number x refl refl)))
  where
    at_least : {y : Entry} (ys : List Entry) → In y ys → 1 ≤ length ys
    at_least [] j = elim j [ ]
    at_least (y ∷ ys) j = omega arith

    by_case : (t : Bool) → length (cond t (e ∷ filter (is_at x.place x.number) es) (filter (is_at x.place x.number) es)) ≡ 1
        → 1 ≤ length (filter (is_at x.place x.number) es) → length (filter (is_at x.place x.number) es) ≡ 1
    by_case true q low = absurd (omega (arith, q, low))
    by_case false q low = q

first_in : {x y : Entry} (zs : List Entry) → Before x y zs → In y zs
first_in [] b = elim b [ ]
first_in (z ∷ zs) (begins q i) = there i
first_in (z ∷ zs) (goes_on b) = there (first_in zs b)

first_there : {x y : Entry} (zs : List Entry) → Before x y zs → In x zs
first_there [] b = elim b [ ]
first_there (z ∷ zs) (begins q i) = here q
first_there (z ∷ zs) (goes_on b) = there (first_there zs b)

rising_of : (l : List Entry) → Numbered l → InOrder l → AreRising l
rising_of [] numbered ordered = tt
rising_of (e ∷ es) numbered ordered = (
  λ f i en fn p. rises f i en fn p (three e.number f.number),
  rising_of es (λ x i. fewer e x es i (numbered x (there i))) (λ x y i j xn yn p low. later x y i (ordered x y (there i) (there j) xn yn p low)),
)
  where
    later : (x y : Entry) → In x es → Before x y (e ∷ es) → Before x y es
    later x y i (begins q j) = absurd (twice e es (numbered e (here refl)) x i (ap (λ (z : Entry). z.place) q) (ap (λ (z : Entry). z.number) q))
    later x y i (goes_on b) = b

    not_before : (f : Entry) → f.number < e.number → Before f e (e ∷ es) → ⊥
    not_before f low (begins q j) = let k = ap (λ (z : Entry). z.number) q in omega (arith, k, low)
    not_before f low (goes_on b) = twice e es (numbered e (here refl)) e (first_in es b) refl refl

    rises : (f : Entry) → In f es → is_nested e.event ≡ true → is_nested f.event ≡ true → f.place ≡ e.place → (e.number < f.number) ⊎ ((e.number ≡ f.number) ⊎ (f.number < e.number)) → e.number < f.number
    rises f i en fn p (inl low) = low
    rises f i en fn p (inr (inl same)) = absurd (twice e es (numbered e (here refl)) f i p (sym same))
    rises f i en fn p (inr (inr low)) = absurd (not_before f low (ordered f e (there i) (here refl) fn en p low))

-- The rows that shut the box of a place.

module _ {T : Type 0} where
  abbrev closes_at : ℕ → table.Entry Made T → Bool
  closes_at k row = is_closing row.event.event && (row.place == k)

  -- each number is below those after it
  abbrev AreSorted : List (table.Entry Made T) → Type 0
  AreSorted [] = Unit {0}
  AreSorted (x ∷ xs) = ((y : table.Entry Made T) → table_lists.IsMemberOf y xs → x.number < y.number) × AreSorted xs

  kept_in : (p : table.Entry Made T → Bool) {x : table.Entry Made T} (xs : List (table.Entry Made T)) → table_lists.IsMemberOf x (filter p xs) → table_lists.IsMemberOf x xs × (p x ≡ true)
  kept_in p [] i = elim i [ ]
  kept_in p {x} (y ∷ ys) i = by_case (p y) refl (λ j. kept_in p ys j) i
    where
      more : table_lists.IsMemberOf x ys × (p x ≡ true) → table_lists.IsMemberOf x (y ∷ ys) × (p x ≡ true)
      more found = (table_lists.there found.0, found.1)

      by_case : (t : Bool) → p y ≡ t → (table_lists.IsMemberOf x (filter p ys) → table_lists.IsMemberOf x ys × (p x ≡ true))
          → table_lists.IsMemberOf x (cond t (y ∷ filter p ys) (filter p ys)) → table_lists.IsMemberOf x (y ∷ ys) × (p x ≡ true)
      by_case true q rest (table_lists.here e) = (table_lists.here e, ap p e ∙ q)
      by_case true q rest (table_lists.there j) = more (rest j)
      by_case false q rest j = more (rest j)

  in_kept : (p : table.Entry Made T → Bool) {x : table.Entry Made T} (xs : List (table.Entry Made T)) → table_lists.IsMemberOf x xs → p x ≡ true → table_lists.IsMemberOf x (filter p xs)
  in_kept p [] i t = elim i [ ]
  in_kept p {x} (y ∷ ys) (table_lists.here e) t =
      subst (λ (b : Bool). table_lists.IsMemberOf x (cond b (y ∷ filter p ys) (filter p ys))) (sym (ap p (sym e) ∙ t)) (table_lists.here e)
  in_kept p {x} (y ∷ ys) (table_lists.there i) t = by_case (p y) (in_kept p ys i t)
    where
      by_case : (b : Bool) → table_lists.IsMemberOf x (filter p ys) → table_lists.IsMemberOf x (cond b (y ∷ filter p ys) (filter p ys))
      by_case true j = table_lists.there j
      by_case false j = j

  sorted_kept : (p : table.Entry Made T → Bool) (xs : List (table.Entry Made T))
      → AreSorted xs → AreSorted (filter p xs)
  sorted_kept p [] s = tt
  sorted_kept p (x ∷ xs) s = by_case (p x) (sorted_kept p xs s.1)
    where
      by_case : (t : Bool) → AreSorted (filter p xs) → AreSorted (cond t (x ∷ filter p xs) (filter p xs))
      by_case true rest = (λ y i. s.0 y (kept_in p xs i).0, rest)
      by_case false rest = rest

  -- two sorted lists of the same rows are one
  one_list : (xs ys : List (table.Entry Made T)) → AreSorted xs → AreSorted ys
      → ((z : table.Entry Made T) → table_lists.IsMemberOf z xs → table_lists.IsMemberOf z ys) → ((z : table.Entry Made T) → table_lists.IsMemberOf z ys → table_lists.IsMemberOf z xs) → xs ≡ ys
  one_list [] [] s r to from = refl
  one_list [] (y ∷ ys) s r to from = absurd (elim (from y (table_lists.here refl)) [ ])
  one_list (x ∷ xs) [] s r to from = absurd (elim (to x (table_lists.here refl)) [ ])
  one_list (x ∷ xs) (y ∷ ys) s r to from =
      let same : x ≡ y = heads (to x (table_lists.here refl)) (from y (table_lists.here refl)) in
      ap (λ (zs : List (table.Entry Made T)). x ∷ zs)
      (one_list xs ys s.1 r.1
      (λ z i. after y ys z (subst (λ (w : table.Entry Made T). w.number < z.number) same (s.0 z i)) (to z (table_lists.there i)))
      (λ z i. after x xs z (subst (λ (w : table.Entry Made T). w.number < z.number) (sym same) (r.0 z i)) (from z (table_lists.there i))))
      ∙ ap (λ (w : table.Entry Made T). w ∷ ys) same
    where
      heads : table_lists.IsMemberOf x (y ∷ ys) → table_lists.IsMemberOf y (x ∷ xs) → x ≡ y
      heads (table_lists.here e) j = e
      heads (table_lists.there i) (table_lists.here e) = sym e
      heads (table_lists.there i) (table_lists.there j) = let a = r.0 x i in let b = s.0 y j in absurd (omega (arith, a, b))

      after : (w : table.Entry Made T) (ws : List (table.Entry Made T)) (z : table.Entry Made T) → w.number < z.number → table_lists.IsMemberOf z (w ∷ ws) → table_lists.IsMemberOf z ws
      after w ws z low (table_lists.here e) = let k = ap (λ (v : table.Entry Made T). v.number) e in absurd (omega (arith, k, low))
      after w ws z low (table_lists.there i) = i

  -- of the list, those that shut the box
  sorted_rows : (k : ℕ) (rows : List (table.Entry Made T)) → AreRising (list_of rows) → AreSorted (filter (closes_at k) rows)
  sorted_rows k [] rising = tt
  sorted_rows k (row ∷ rows) rising = by_case (closes_at k row) refl (sorted_rows k rows rising.1)
    where
      below : closes_at k row ≡ true → (y : table.Entry Made T) → table_lists.IsMemberOf y (filter (closes_at k) rows) → row.number < y.number
      below t y i =
          let found = kept_in (closes_at k) rows i in
          let here_at = both (is_closing row.event.event) (row.place == k) t in
          let there_at = both (is_closing y.event.event) (y.place == k) found.1 in
          rising.0 (entry_of y) (rows_in rows found.0) (closing_nested row.event.event here_at.0) (closing_nested y.event.event there_at.0)
          (equal_if y.place k there_at.1 ∙ sym (equal_if row.place k here_at.1))

      by_case : (t : Bool) → closes_at k row ≡ t → AreSorted (filter (closes_at k) rows) → AreSorted (cond t (row ∷ filter (closes_at k) rows) (filter (closes_at k) rows))
      by_case true q rest = (below q, rest)
      by_case false q rest = rest

  -- a place's history is sorted
  sorted_from : (rows : List (table.Entry Made T)) (n : ℕ) → ((i : ℕ) (row : table.Entry Made T) → slice_get rows i ≡ Some row → row.number ≡ n + i) → AreSorted rows
  sorted_from [] n named = tt
  sorted_from (row ∷ rows) n named = (
    λ y i. above y (in_get rows y i),
    sorted_from rows (suc n) (λ i r q. let k = named (suc i) r q in omega (arith, k)),
  )
    where
      above : (y : table.Entry Made T) → (i : ℕ) × (slice_get rows i ≡ Some y) → row.number < y.number
      above y found =
          let a = named 0 row refl in
          let b = named (suc found.0) y found.1 in
          omega (arith, a, b)

  -- what is told in the order of the list
  told_kept : (half : Half) (k : ℕ) (rows : List (table.Entry Made T)) → ins_logged rows k half ≡ ins_of half (filter (closes_at k) rows)
  told_kept half k [] = refl
  told_kept half k (row ∷ rows) = by_case (closes_at k row) refl (told_kept half k rows)
    where
      by_case : (t : Bool) → closes_at k row ≡ t → ins_logged rows k half ≡ ins_of half (filter (closes_at k) rows)
          → cond t (joined (in_left half row.event.left) (ins_logged rows k half)) (ins_logged rows k half)
          ≡ ins_of half (cond t (row ∷ filter (closes_at k) rows) (filter (closes_at k) rows))
      by_case true q rest =
          ap (λ (o : Option (List InCall)). joined (in_left half row.event.left) o) rest
          ∙ sym (ap (λ (t : Bool). cond t (joined (in_left half row.event.left) (ins_of half (filter (closes_at k) rows))) (ins_of half (filter (closes_at k) rows)))
          (both (is_closing row.event.event) (row.place == k) q).0)
      by_case false q rest = rest

  -- and of rows of that place alone
  told_whole : (half : Half) (k : ℕ) (past : List (table.Entry Made T)) → ((row : table.Entry Made T) → table_lists.IsMemberOf row past → row.place ≡ k) → ins_logged past k half ≡ ins_of half past
  told_whole half k [] at = refl
  told_whole half k (row ∷ rows) at =
      ap (λ (t : Bool). cond t (joined (in_left half row.event.left) (ins_logged rows k half)) (ins_logged rows k half)) (same (is_closing row.event.event) (equal row.place k (at row (table_lists.here refl))))
      ∙ ap (λ (o : Option (List InCall)). cond (is_closing row.event.event) (joined (in_left half row.event.left) o) o) (told_whole half k rows (λ r i. at r (table_lists.there i)))
    where
      same : (a : Bool) {b : Bool} → b ≡ true → (a && b) ≡ a
      same true q = q
      same false q = refl

module _ {T I O : Type 0} (it : I → EndLog InCall) (ic : I → ℕ) (ot : O → EndLog OutCall) (oc : O → ℕ)
    (rows : List (table.Entry Made T)) (k : ℕ) (a : Part I O) (w : IsWhole it ic ot oc rows k a) where
  past_place : (row : table.Entry Made T) → table_lists.IsMemberOf row w.past → row.place ≡ k
  past_place row i = let g = in_get w.past row i in (w.is.named g.0 row g.1).0

  same_closings : AreRising (list_of rows) → filter (closes_at k) rows ≡ filter (closes_at k) w.past
  same_closings rising =
      one_list (filter (closes_at k) rows) (filter (closes_at k) w.past) (sorted_rows k rows rising)
      (sorted_kept (closes_at k) w.past (sorted_from w.past 0 (λ i row q. let k = (w.is.named i row q).1 in omega (arith, k))))
      (λ z i. to z (kept_in (closes_at k) rows i)) (λ z i. from z (kept_in (closes_at k) w.past i))
    where
      to : (z : table.Entry Made T) → table_lists.IsMemberOf z rows × (closes_at k z ≡ true) → table_lists.IsMemberOf z (filter (closes_at k) w.past)
      to z found =
          let at = equal_if z.place k (both (is_closing z.event.event) (z.place == k) found.1).1 in
          in_kept (closes_at k) w.past (get_in w.past z.number z (w.is.own z found.0 at)) found.1

      from : (z : table.Entry Made T) → table_lists.IsMemberOf z w.past × (closes_at k z ≡ true) → table_lists.IsMemberOf z (filter (closes_at k) rows)
      from z found = let g = in_get w.past z found.0 in in_kept (closes_at k) rows (w.is.all g.0 z g.1) found.1

  -- what the rows of the list tell is what the place's history tells
  pub told_is : (half : Half) → AreRising (list_of rows) → ins_logged rows k half ≡ ins_of half w.past
  told_is half rising =
      told_kept half k rows
      ∙ ap (λ (rs : List (table.Entry Made T)). ins_of half rs) (same_closings rising)
      ∙ sym (told_kept half k w.past)
      ∙ told_whole half k w.past past_place

-- The close.

module _ {I : Type 0} where
  no_ends : (opened : Option (Opened I)) → holder_of opened ≡ None → pair_ends opened ≡ None
  no_ends None q = refl
  no_ends (Some o) q = absurd (let k : Some o.holder ≡ None = q in cc)

module _ {I O : Type 0} (it : I → EndLog InCall) (ic : I → ℕ) (ot : O → EndLog OutCall) (oc : O → ℕ) where
  -- a box of a place above the cells, which holds no ends at first
  record BeginsShut (config : Config) (a : Part I O) : Type 0 where
    is_box : IsBoxPart config.max_sessions a
    shut : (half : Half) → held_in it ic ot oc half a ≡ Some []

  begins_shut : (config : Config) (k : ℕ) (a : Part I O) → config.max_sessions < k → BeginsAs config k a → BeginsShut config a
  begins_shut config k (part.Board board) above is = let q = is.0 in absurd (omega (arith, q, above))
  begins_shut config k (part.Cell cell) above is = let q = is.1 in absurd (omega (arith, q, above))
  begins_shut config k (part.Pair box) above is = record { is_box = is.1.2; shut = λ half. ap (λ (ends : Option (I × I)). held it ic half ends) is.1.1 }

  ends_shut : (config : Config) (cells : ℕ) (x : Part I O) (h : List Entry) → IsBoxPart cells x → Stands config x h → holder (filter_map box_event h) ≡ None
      → (half : Half) → held_in it ic ot oc half x ≡ Some []
  ends_shut config cells (part.Pair box) h is stands none half =
      ap (λ (ends : Option (I × I)). held it ic half ends) (no_ends box.opened (sym stands.1.holder_is ∙ none))
  ends_shut config cells (part.Cell cell) h is stands none half = absurd is
  ends_shut config cells (part.Board board) h is stands none half = absurd is

  parts_count : (config : Config) (parts : List (Part I O)) → AreParts config parts → length parts ≡ 1 + (config.max_sessions + pair_count config)
  parts_count config parts are =
      let all = ap length are.parts_are in
      let both = length-append are.cells are.boxes in
      let cells = are.cell_count in
      let boxes = are.box_count in
      omega (arith, all, both, cells, boxes)

where_each : {C : Type 0} (log : Option (List C)) (P : List C → Type 0) → ((calls : List C) → log ≡ Some calls → P calls) → WhereLogged log P
where_each None P each = tt
where_each (Some calls) P each = each calls refl

module _ {T I O : Type 0} (it : I → EndLog InCall) (ic : I → ℕ) (ot : O → EndLog OutCall) (oc : O → ℕ)
    (starts : List (Part I O)) (rows : List (table.Entry Made T)) (range : InRange starts rows) (whole : AreWhole it ic ot oc starts rows) where
  closed_box : (config : Config) → AreParts config starts → Orderly config (list_of rows) → AreReturned config rows → AreRising (list_of rows) → (k : ℕ) (half : Half)
      → (a : Part I O) → slice_get starts k ≡ Some a → config.max_sessions < k → holder (box_history (list_of rows) k (front (list_of rows) k)) ≡ None
      → (calls : List InCall) → ins_logged rows k half ≡ Some calls → calls ≡ takes_at (list_of rows) k half
  closed_box config are orderly returned rising k half a at above none calls q =
      let w : IsWhole it ic ot oc rows k a = whole k a at in
      let b : BeginsShut it ic ot oc config a = begins_shut it ic ot oc config k a above (begins_as config starts are k a at) in
      let high : IsAbove (list_of rows) k (front (list_of rows) k) = λ e i p. below_front (list_of rows) e k i p in
      let last : Stands config w.last (history (list_of rows) k (front (list_of rows) k))
      = (closed_stands it ic ot oc starts rows range whole config are orderly returned k a at w (front (list_of rows) k) high).1 in
      let is_box : IsBoxPart config.max_sessions w.last = box_stays it ic ot oc config.max_sessions a w.last w.past w.leaves b.is_box in
      let shut : held_in it ic ot oc half w.last ≡ Some []
      = ends_shut it ic ot oc config config.max_sessions w.last (history (list_of rows) k (front (list_of rows) k)) is_box last none half in
      let shown : ins_of half w.past ≡ Some calls = sym (told_is it ic ot oc rows k a w half rising) ∙ q in
      let all : joined (ins_of half w.past) (held_in it ic ot oc half w.last) ≡ Some (calls ++ [])
      = ap (λ (o : Option (List InCall)). joined o (held_in it ic ot oc half w.last)) shown ∙ ap (λ (o : Option (List InCall)). joined (Some calls) o) shut in
      let tells = rows_tell it ic ot oc half config.max_sessions a w.last w.past (calls ++ []) b.is_box w.leaves all in
      let nothing : tells.earlier ≡ [] = (let e : Some tells.earlier ≡ Some [] = sym tells.before ∙ b.shut half in cc) in
      sym (append-nil calls)
      ∙ tells.are
      ∙ ap (λ (cs : List InCall). cs ++ calls_of half w.past) nothing
      ∙ sym (takes_are half w.past [])
      ∙ ap (λ (h : List Entry). takes_of half (filter_map box_event h))
      (whole_past it ic ot oc starts rows range whole config are orderly returned k a w (front (list_of rows) k) high)

  -- at the close the in ends told what the list has of their takes
  pub sound_ins : (config : Config) → AreParts config starts → IsSound config rows → InOrder (list_of rows) → InsAreTold config rows
  sound_ins config are sound ordered pair half within none =
      let numbered = closed_numbered it ic ot oc starts rows range whole in
      let count = parts_count it ic ot oc config starts are in
      let a = in_range starts (box_of config pair) (omega (arith, count, within)) in
      where_each (ins_logged rows (box_of config pair) half) (λ calls. calls ≡ takes_at (list_of rows) (box_of config pair) half)
      (closed_box config are (sound.orderly numbered) (sound.returned numbered) (rising_of (list_of rows) numbered ordered) (box_of config pair) half a.0 a.1 (omega arith) none)
