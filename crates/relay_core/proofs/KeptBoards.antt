-- What the board keeps after a list of rows, and after a longer one.
use Rattle.std.proofs.Common.{◌≡◌, ◌∙◌, refl, sym, ap, subst, ℕ, ◌+◌, ◌<◌, ◌≤◌, ◌⊎◌, inl, inr, Bool, true, false, cond, ◌&&◌, List, [], ◌∷◌, ◌++◌, map, filter, Option, Some, None, ◌==◌, arith, slice_get}
use Rattle.turn_table.specs.declared.machine.Entry as table
use Rattle.turn_table.specs.Histories as table_lists
use Rattle.turn_table.specs.declared.hands.Hand.{Hand}
use Rattle.turn_table.specs.Hands.{starts, entries}
use Rattle.histories.specs.Words.{In, here, there, first, greatest}
use Rattle.histories.proofs.Lists.{in_append, filtered, keeps, maps, mapped, equal, equal_if}
use Rattle.call_board.specs.Shapes.{BoardShape}
use Rattle.relay_core.specs.declared.part.Part.{Part}
use Rattle.relay_core.specs.Entries.{Event, Board, Cell, Box}
use Rattle.relay_core.specs.PartShapes.{board_shape_in}
use Rattle.relay_core.specs.Records.{Made, entry_of, list_of}
use Rattle.relay_core.specs.ReturnedPairs.{is_boards}
use Rattle.relay_core.specs.Scripts.{Owed, owed_by}
use Rattle.relay_core.specs.Turns.{IsAbove, IsOfLane, GainsNested}
use Rattle.relay_core.specs.KeptAfter.{is_of_board, board_front, last_of_board, board_shape_after}
use Rattle.relay_core.proofs.Histories.{both, and_true}
use Rattle.relay_core.proofs.Turns.{filter_append, filter_none, nothing_more}
use Rattle.relay_core.proofs.KeptHistories.{greatest_is}
use Rattle.relay_core.proofs.KeptScripts.{unequal}

-- Lists.

pub member_in : {A : Type 0} {x : A} (xs : List A) → table_lists.IsMemberOf x xs → In x xs
member_in [] i = elim i [ ]
member_in (y ∷ ys) (table_lists.here q) = here q
member_in (y ∷ ys) (table_lists.there i) = there (member_in ys i)

pub in_member : {A : Type 0} {x : A} (xs : List A) → In x xs → table_lists.IsMemberOf x xs
in_member [] i = elim i [ ]
in_member (y ∷ ys) (here q) = table_lists.here q
in_member (y ∷ ys) (there i) = table_lists.there (in_member ys i)

found_case : {A : Type 0} (p : A → Bool) (x y : A) (ys : List A) → In x (y ∷ ys) → p x ≡ true → ((z : A) → In z (y ∷ ys) → p z ≡ true → z ≡ x)
    → (In x ys → first (filter p ys) ≡ Some x) → (b : Bool) → p y ≡ b → first (cond b (y ∷ filter p ys) (filter p ys)) ≡ Some x
found_case p x y ys i t one rest true e = ap Some (one y (here refl) e)
found_case p x y ys (here q) t one rest false e = absurd (let wrong : true ≡ false = sym t ∙ ap p q ∙ e in cc)
found_case p x y ys (there i) t one rest false e = rest i

-- the one that passes is found
first_found : {A : Type 0} (p : A → Bool) (x : A) (xs : List A) → In x xs → p x ≡ true → ((z : A) → In z xs → p z ≡ true → z ≡ x) → first (filter p xs) ≡ Some x
first_found p x [] i t one = elim i [ ]
first_found p x (y ∷ ys) i t one = found_case p x y ys i t one (λ j. first_found p x ys j t (λ z k. one z (there k))) (p y) refl

last_in : {A : Type 0} (xs : List A) (x : A) → In x (xs ++ x ∷ [])
last_in [] x = here refl
last_in (y ∷ ys) x = there (last_in ys x)

and_false : (a b : Bool) → b ≡ false → (a && b) ≡ false
and_false true b q = q
and_false false b q = refl

lane_not_boards : (event : Event) → IsOfLane event → is_boards event ≡ false
lane_not_boards (Board b) h = absurd h
lane_not_boards (Cell c) h = refl
lane_not_boards (Box b) h = refl

abbrev pub Row : Type 0 → Type 0
Row T = table.Entry Made T

module _ {T : Type 0} where
  -- The last row of the board.

  pub last_is : (rows : List (Row T)) (row : Row T) → In row rows → is_of_board row ≡ true → ((r : Row T) → In r rows → is_of_board r ≡ true → r.number ≤ row.number)
      → ((r : Row T) → In r rows → is_of_board r ≡ true → r.number ≡ row.number → r ≡ row) → last_of_board rows ≡ Some row
  last_is rows row i of_board most one =
      let next : Row T → ℕ = λ (r : Row T). r.number + 1 in
      let of : Row T → Bool = λ (r : Row T). is_of_board r in
      let at : board_front rows ≡ row.number + 1
      = greatest_is (map next (filter of rows)) (row.number + 1) (maps next (filter of rows) (keeps of rows i of_board))
      (λ x j.
      let m = mapped next (filter of rows) j in
      let f = filtered of rows m.is_in in
      let low = most m.from f.0 f.1 in
      let is : m.from.number + 1 ≡ x = m.makes in
      omega (arith, low, is)) in
      first_found (λ (r : Row T). is_of_board r && (r.number + 1 == board_front rows)) row rows i
      (and_true (is_of_board row) (row.number + 1 == board_front rows) of_board (equal (row.number + 1) (board_front rows) (sym at)))
      (λ r j t.
      let c = both (is_of_board r) (r.number + 1 == board_front rows) t in
      let is = equal_if (r.number + 1) (board_front rows) c.1 in
      one r j c.0 (omega (arith, is, at)))

  -- rows that aren't the board's leave its last row as it was
  pub others_last : (rows more : List (Row T)) → ((r : Row T) → In r more → is_of_board r ≡ false) → last_of_board (rows ++ more) ≡ last_of_board rows
  others_last rows more none =
      let of : Row T → Bool = λ (r : Row T). is_of_board r in
      let at : ℕ → Row T → Bool = λ (n : ℕ) (r : Row T). is_of_board r && (r.number + 1 == n) in
      let same : board_front (rows ++ more) ≡ board_front rows
      = ap (λ (xs : List (Row T)). greatest (map (λ (r : Row T). r.number + 1) xs))
      (filter_append of rows more ∙ ap (λ (xs : List (Row T)). filter of rows ++ xs) (filter_none of more none) ∙ nothing_more (filter of rows)) in
      let few : filter (at (board_front rows)) more ≡ []
      = filter_none (at (board_front rows)) more (λ r i. ap (λ (b : Bool). b && (r.number + 1 == board_front rows)) (none r i)) in
      ap (λ (n : ℕ). first (filter (at n) (rows ++ more))) same
      ∙ ap (λ (xs : List (Row T)). first xs)
      (filter_append (at (board_front rows)) rows more
      ∙ ap (λ (xs : List (Row T)). filter (at (board_front rows)) rows ++ xs) few
      ∙ nothing_more (filter (at (board_front rows)) rows))

  pub none_last : (rows : List (Row T)) → ((r : Row T) → In r rows → is_of_board r ≡ false) → last_of_board rows ≡ None
  none_last rows none = others_last [] rows none

  pub not_at_board : (r : Row T) → (r.place ≡ 0 → ⊥) → is_of_board r ≡ false
  not_at_board r apart = ap (λ (b : Bool). b && is_boards r.event.event) (unequal r.place 0 apart)

  pub at_board : (r : Row T) → is_of_board r ≡ true → r.place ≡ 0
  at_board r t = equal_if r.place 0 (both (r.place == 0) (is_boards r.event.event) t).0

  pub of_board : (r : Row T) → r.place ≡ 0 → is_boards r.event.event ≡ true → is_of_board r ≡ true
  of_board r at boards = and_true (r.place == 0) (is_boards r.event.event) (equal r.place 0 at) boards

  -- a row of the board above all that the board had is its last one
  row_case : (rows : List (Row T)) (row : Row T) → IsAbove (list_of rows) 0 row.number → (r : Row T) → is_of_board r ≡ true → In r rows ⊎ In r (row ∷ [])
      → (r.number < row.number) ⊎ (r ≡ row)
  row_case rows row above r t (inl i) = inl (above (entry_of r) (maps (λ (x : Row T). entry_of x) rows i) (at_board r t))
  row_case rows row above r t (inr (here q)) = inr q
  row_case rows row above r t (inr (there i)) = elim i [ ]

  at_most : (r row : Row T) → (r.number < row.number) ⊎ (r ≡ row) → r.number ≤ row.number
  at_most r row (inl low) = omega (arith, low)
  at_most r row (inr same) = let is = ap (λ (x : Row T). x.number) same in omega (arith, is)

  same_row : (r row : Row T) → r.number ≡ row.number → (r.number < row.number) ⊎ (r ≡ row) → r ≡ row
  same_row r row is (inl low) = absurd (omega (arith, is, low))
  same_row r row is (inr same) = same

  row_last : (rows : List (Row T)) (row : Row T) → is_of_board row ≡ true → IsAbove (list_of rows) 0 row.number → last_of_board (rows ++ row ∷ []) ≡ Some row
  row_last rows row of above =
      last_is (rows ++ row ∷ []) row (last_in rows row) of
      (λ r i t. at_most r row (row_case rows row above r t (in_append rows (row ∷ []) i)))
      (λ r i t is. same_row r row is (row_case rows row above r t (in_append rows (row ∷ []) i)))

module _ {I O T : Type 0} (parts : List (Part I O)) where
  -- what the board keeps, by its last row
  abbrev pub kept_by : Option (Row T) → Option BoardShape
  kept_by o = elim o [ None ↦ elim (slice_get parts 0) [ None ↦ None | Some x ↦ board_shape_in x ] | Some row ↦ row.event.kept ]

  pub kept_last : (rows : List (Row T)) (o : Option (Row T)) → last_of_board rows ≡ o → board_shape_after parts rows ≡ kept_by o
  kept_last rows o is = ap (λ (last : Option (Row T)). kept_by last) is

  pub others_keep_board : (rows more : List (Row T)) → ((r : Row T) → In r more → is_of_board r ≡ false)
      → board_shape_after parts (rows ++ more) ≡ board_shape_after parts rows
  others_keep_board rows more none = ap (λ (last : Option (Row T)). kept_by last) (others_last rows more none)

  -- rows at other places leave it as it was
  pub nested_keeps_board : (rows more : List (Row T)) → ((row : Row T) → table_lists.IsMemberOf row more → row.place ≡ 0 → ⊥)
      → board_shape_after parts (rows ++ more) ≡ board_shape_after parts rows
  nested_keeps_board rows more apart = others_keep_board rows more (λ r i. not_at_board r (apart r (in_member more i)))

  -- so do takes and relays
  pub lanes_keep_board : (rows more : List (Row T)) → ((row : Row T) → table_lists.IsMemberOf row more → IsOfLane row.event.event)
      → board_shape_after parts (rows ++ more) ≡ board_shape_after parts rows
  lanes_keep_board rows more lanes =
      others_keep_board rows more
      (λ r i. and_false (r.place == 0) (is_boards r.event.event) (lane_not_boards r.event.event (lanes r (in_member more i))))

  -- and a row of the board, above all that the board had, records what it keeps then
  pub board_row_kept : (rows : List (Row T)) (row : Row T) → row.place ≡ 0 → is_boards row.event.event ≡ true
      → IsAbove (list_of rows) 0 row.number → board_shape_after parts (rows ++ row ∷ []) ≡ row.event.kept
  board_row_kept rows row at boards above =
      ap (λ (last : Option (Row T)). kept_by last) (row_last rows row (of_board row at boards) above)

-- Of hands.

module _ {M I O T : Type 0} {g : _} (number moment : ℕ) (events : List Owed) (old new : Hand M (Part I O) Made T g) where
  -- where none of the events is at the board's place
  pub hand_keeps_board : starts new ≡ starts old → GainsNested number moment events old new → ((w : Owed) → In w events → w.place ≡ 0 → ⊥)
      → board_shape_after (starts new) (entries new) ≡ board_shape_after (starts old) (entries old)
  hand_keeps_board same gains apart =
      ap (λ (parts : List (Part I O)). board_shape_after parts (entries new)) same
      ∙ ap (λ (rows : List (Row T)). board_shape_after (starts old) rows) gains.list_is
      ∙ nested_keeps_board (starts old) (entries old) gains.rows (λ row i p.
      apart (owed_by (entry_of row))
      (subst (λ (ws : List Owed). In (owed_by (entry_of row)) ws) gains.gained.owes
      (maps owed_by (list_of gains.rows) (maps (λ (x : Row T). entry_of x) gains.rows (member_in gains.rows i)))) p)
