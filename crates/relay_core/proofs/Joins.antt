-- A hand's list followed by that of a lane.
use Rattle.std.proofs.Common.{◌≡◌, ◌∙◌, sym, ap, subst, refl, ℕ, ◌+◌, ◌≤◌, ◌⊎◌, inl, inr, List, [], ◌∷◌, ◌++◌, true, false, length, filter, length-append, arith}
use Rattle.std.proofs.lemmas.List.{map-append}
use Rattle.relay_outside.specs.declared.settings.Config.{Config}
use Rattle.turn_table.specs.declared.machine.Entry as table
use Rattle.turn_table.specs.Histories as table_lists
use Rattle.histories.specs.Words.{In, here, there, Before, begins, goes_on}
use Rattle.histories.proofs.Lists.{in_append, in_left, in_right, keeps}
use Rattle.call_cell.specs.Cells.{Prepare, Commit, Relay, Expire, Read, End, Relayed}
use Rattle.port_pool.specs.Boxes.{Open, Take, Close}
use Rattle.relay_core.specs.Entries.{Event, Board, Cell, Box, Entry, is_nested, is_at, box_of}
use Rattle.relay_core.specs.Legal.{IsReceived, is_handed_boards, Orderly}
use Rattle.relay_core.specs.Records.{Made, entry_of, list_of}
use Rattle.relay_core.specs.Turns.{Numbered, IsOfLane, IsReceiving}
use Rattle.relay_core.specs.NestedMoments.{IsHanded}
use Rattle.relay_core.specs.Joins.{TakesOwnPairs, IsLaneRows, IsSound}
use Rattle.relay_core.proofs.Histories.{same_at, is_there}
use Rattle.relay_core.proofs.Turns.{filter_append, before_left, before_right, lanes_keep}
use Rattle.relay_core.proofs.Own.{rows_in}
use Rattle.relay_core.proofs.Recording.{returned_behind}

-- The parts of a numbered list.

some_in : {A : Type 0} {x : A} (xs : List A) → In x xs → 1 ≤ length xs
some_in [] i = elim i [ ]
some_in (y ∷ ys) i = omega arith

-- how often a place and number stand in a list
abbrev count_at : Entry → List Entry → ℕ
count_at e l = length (filter (is_at e.place e.number) l)

there_once : (l : List Entry) (e : Entry) → In e l → 1 ≤ count_at e l
there_once l e i = some_in (filter (is_at e.place e.number) l) (keeps (is_at e.place e.number) l i (is_there e.place e.number e refl refl))

count_both : (l ls : List Entry) (e : Entry) → count_at e (l ++ ls) ≡ count_at e l + count_at e ls
count_both l ls e =
    ap (λ (xs : List Entry). length xs) (filter_append (is_at e.place e.number) l ls)
    ∙ length-append (filter (is_at e.place e.number) l) (filter (is_at e.place e.number) ls)

pub numbered_left : (l ls : List Entry) → Numbered (l ++ ls) → Numbered l
numbered_left l ls numbered e i =
    let one : count_at e (l ++ ls) ≡ 1 = numbered e (in_left l ls i) in
    let both = count_both l ls e in
    let some = there_once l e i in
    omega (arith, one, both, some)

-- an entry stands in one of the two parts
pub not_in_both : (l ls : List Entry) → Numbered (l ++ ls) → (e f : Entry) → In e l → In f ls → e.place ≡ f.place → e.number ≡ f.number → ⊥
not_in_both l ls numbered e f i j p q =
    let same : e ≡ f = same_at (l ++ ls) numbered e f (in_left l ls i) (in_right l ls j) p q in
    let one : count_at e (l ++ ls) ≡ 1 = numbered e (in_left l ls i) in
    let both = count_both l ls e in
    let left = there_once l e i in
    let right = there_once ls e (subst (λ (x : Entry). In x ls) (sym same) j) in
    omega (arith, one, both, left, right)

-- What was received.

before_in : {A : Type 0} {x y : A} (xs : List A) → Before x y xs → In x xs
before_in [] b = elim b [ ]
before_in (z ∷ xs) (begins q i) = here q
before_in (z ∷ xs) (goes_on b) = there (before_in xs b)

received_in : (config : Config) (l k : List Entry) (e : Entry) (x : Relayed) → IsReceived config l e x.packet
    → ((t : Entry) → Before t e l → Before t e k) → IsReceived config k e x.packet
received_in config l k e x r longer = record {
  taking = r.taking;
  is_there = longer r.taking r.is_there;
  at_box = r.at_box;
  with_number = r.with_number;
  gave = r.gave;
  in_its_cell = r.in_its_cell;
}

received_case : (config : Config) (l ls : List Entry) → IsReceiving config l → IsReceiving config ls → (e : Entry) (x : Relayed) → e.event ≡ Cell (Relay x)
    → In e l ⊎ In e ls → IsReceived config (l ++ ls) e x.packet
received_case config l ls first second e x q (inl i) = received_in config l (l ++ ls) e x (first.received e x i q) (λ t b. before_left l ls b)
received_case config l ls first second e x q (inr i) = received_in config ls (l ++ ls) e x (second.received e x i q) (λ t b. before_right l ls b)

-- a relay of the one part and one of the other are of two takes
apart : (config : Config) (l ls : List Entry) → Numbered (l ++ ls) → (e f : Entry) (x y : Relayed) → IsReceived config l e x.packet
    → IsReceived config ls f y.packet → x.packet.holder.pair ≡ y.packet.holder.pair → x.packet.take ≡ y.packet.take → ⊥
apart config l ls numbered e f x y r s pair take =
    not_in_both l ls numbered r.taking s.taking (before_in l r.is_there) (before_in ls s.is_there)
    (r.at_box ∙ ap (λ (p : ℕ). box_of config p) pair ∙ sym s.at_box)
    (r.with_number ∙ take ∙ sym s.with_number)

once_case : (config : Config) (l ls : List Entry) → Numbered (l ++ ls) → IsReceiving config l → IsReceiving config ls → (e f : Entry) (x y : Relayed)
    → e.event ≡ Cell (Relay x) → f.event ≡ Cell (Relay y) → x.packet.holder.pair ≡ y.packet.holder.pair → x.packet.take ≡ y.packet.take
    → In e l ⊎ In e ls → In f l ⊎ In f ls → e ≡ f
once_case config l ls numbered first second e f x y q r pair take (inl i) (inl j) = first.once e f x y i j q r pair take
once_case config l ls numbered first second e f x y q r pair take (inr i) (inr j) = second.once e f x y i j q r pair take
once_case config l ls numbered first second e f x y q r pair take (inl i) (inr j) =
    absurd (apart config l ls numbered e f x y (first.received e x i q) (second.received f y j r) pair take)
once_case config l ls numbered first second e f x y q r pair take (inr i) (inl j) =
    absurd (apart config l ls numbered f e y x (first.received f y j r) (second.received e x i q) (sym pair) (sym take))

-- two lists of relays with their takes make one, where each entry still has its place and number alone
pub receiving_joined : (config : Config) (l ls : List Entry) → Numbered (l ++ ls) → IsReceiving config l → IsReceiving config ls → IsReceiving config (l ++ ls)
receiving_joined config l ls numbered first second = record {
  received = λ e x i q. received_case config l ls first second e x q (in_append l ls i);
  once = λ e f x y i j q r pair take. once_case config l ls numbered first second e f x y q r pair take (in_append l ls i) (in_append l ls j);
}

-- The rows of hands.

pub row_append : {A : Type 0} {x : A} (xs ys : List A) → table_lists.IsMemberOf x (xs ++ ys) → table_lists.IsMemberOf x xs ⊎ table_lists.IsMemberOf x ys
row_append [] ys i = inr i
row_append (z ∷ xs) ys (table_lists.here q) = inl (table_lists.here q)
row_append (z ∷ xs) ys (table_lists.there i) =
    elim (row_append xs ys i) [ inl j ↦ inl (table_lists.there j) | inr j ↦ inr j ]

pub lane_handed : (v : Event) → IsOfLane v → is_handed_boards v ≡ false
lane_handed (Board b) h = absurd h
lane_handed (Cell (Prepare call legs keys dropped)) h = absurd h
lane_handed (Cell (Commit signal)) h = absurd h
lane_handed (Cell (Relay r)) h = refl
lane_handed (Cell (Expire due)) h = absurd h
lane_handed (Cell (Read log)) h = absurd h
lane_handed (Cell End) h = absurd h
lane_handed (Box (Open leg)) h = absurd h
lane_handed (Box (Take half taken)) h = refl
lane_handed (Box Close) h = absurd h

pub boards_nested : (v : Event) → is_handed_boards v ≡ true → is_nested v ≡ true
boards_nested (Board b) t = absurd (let k = t in cc)
boards_nested (Cell (Prepare call legs keys dropped)) t = refl
boards_nested (Cell (Commit signal)) t = refl
boards_nested (Cell (Relay r)) t = absurd (let k = t in cc)
boards_nested (Cell (Expire due)) t = refl
boards_nested (Cell (Read log)) t = absurd (let k = t in cc)
boards_nested (Cell End) t = absurd (let k = t in cc)
boards_nested (Box b) t = absurd (let k = t in cc)

module _ {T : Type 0} where
  -- the rows are takes and relays
  abbrev AreOfLane : List (table.Entry Made T) → Type 0
  AreOfLane rows = (row : table.Entry Made T) → table_lists.IsMemberOf row rows → IsOfLane row.event.event

  handed_case : (config : Config) (rows others : List (table.Entry Made T)) → Orderly config (list_of rows) → AreOfLane others
      → Numbered (list_of rows ++ list_of others) → IsHanded rows → (row : table.Entry Made T) → is_handed_boards row.event.event ≡ true
      → (b : table.Entry Made T) → b.place ≡ 0 → b.number ≡ row.event.board
      → table_lists.IsMemberOf row rows ⊎ table_lists.IsMemberOf row others → table_lists.IsMemberOf b rows ⊎ table_lists.IsMemberOf b others → row.event.handed ≡ b.event.moment
  handed_case config rows others o lanes numbered handed row t b p q (inl i) (inl j) = handed row i t b j p q
  handed_case config rows others o lanes numbered handed row t b p q (inl i) (inr j) =
      let x = o.nested (entry_of row) (rows_in rows i) (boards_nested row.event.event t) in
      absurd (not_in_both (list_of rows) (list_of others) numbered x.0 (entry_of b) x.1 (rows_in others j) (x.2 ∙ sym p) (x.3 ∙ sym q))
  handed_case config rows others o lanes numbered handed row t b p q (inr i) s =
      absurd (let k = lane_handed row.event.event (lanes row i) in cc)

  -- takes and relays after them are handed no board entry's moment
  pub handed_joined : (config : Config) (rows others : List (table.Entry Made T)) → Orderly config (list_of rows)
      → ((row : table.Entry Made T) → table_lists.IsMemberOf row others → IsOfLane row.event.event)
      → Numbered (list_of rows ++ list_of others) → IsHanded rows → IsHanded (rows ++ others)
  handed_joined config rows others o lanes numbered handed row i t b j p q =
      handed_case config rows others o lanes numbered handed row t b p q (row_append rows others i) (row_append rows others j)

  pub lane_entries : (others : List (table.Entry Made T)) → AreOfLane others → (e : Entry) → In e (list_of others) → IsOfLane e.event
  lane_entries [] lanes e i = elim i [ ]
  lane_entries (r ∷ others) lanes e (here q) = subst (λ (x : Entry). IsOfLane x.event) (sym q) (lanes r (table_lists.here refl))
  lane_entries (r ∷ others) lanes e (there i) = lane_entries others (λ row j. lanes row (table_lists.there j)) e i

  -- what is known of the main hand's rows is known of them followed by a lane's
  pub joined : (config : Config) (rows others : List (table.Entry Made T)) → IsSound config rows → IsLaneRows config others → IsSound config (rows ++ others)
  joined config rows others sound lane = record {
    orderly = λ numbered.
        let once = subst Numbered same numbered in
        subst (λ (l : List Entry). Orderly config l) (sym same)
        (lanes_keep config (list_of rows) (list_of others) (sound.orderly (numbered_left (list_of rows) (list_of others) once))
        (lane_entries others lane.of_lane) once);
    handed = λ numbered.
        let once = subst Numbered same numbered in
        let left = numbered_left (list_of rows) (list_of others) once in
        handed_joined config rows others (sound.orderly left) lane.of_lane once (sound.handed left);
    returned = λ numbered.
        let once = subst Numbered same numbered in
        returned_behind config rows others lane.of_lane (sound.returned (numbered_left (list_of rows) (list_of others) once));
    receiving = λ numbered own.
        let once = subst Numbered same numbered in
        let owns = subst (λ (l : List Entry). TakesOwnPairs config l) same own in
        subst (λ (l : List Entry). IsReceiving config l) (sym same)
        (receiving_joined config (list_of rows) (list_of others) once
        (sound.receiving (numbered_left (list_of rows) (list_of others) once) (λ e half leg source bytes i. owns e half leg source bytes (in_left (list_of rows) (list_of others) i)))
        (lane.receiving (λ e half leg source bytes i. owns e half leg source bytes (in_right (list_of rows) (list_of others) i))));
  }
    where
      same : list_of (rows ++ others) ≡ list_of rows ++ list_of others
      same = map-append entry_of rows others

  -- so is what is known of two lanes' rows
  pub lanes_joined : (config : Config) (rows others : List (table.Entry Made T)) → Numbered (list_of rows ++ list_of others)
      → IsLaneRows config rows → IsLaneRows config others → IsLaneRows config (rows ++ others)
  lanes_joined config rows others once first second = record {
    of_lane = λ row i. either row (row_append rows others i);
    receiving = λ own.
        let owns = subst (λ (l : List Entry). TakesOwnPairs config l) same own in
        subst (λ (l : List Entry). IsReceiving config l) (sym same)
        (receiving_joined config (list_of rows) (list_of others) once
        (first.receiving (λ e half leg source bytes i. owns e half leg source bytes (in_left (list_of rows) (list_of others) i)))
        (second.receiving (λ e half leg source bytes i. owns e half leg source bytes (in_right (list_of rows) (list_of others) i))));
  }
    where
      same : list_of (rows ++ others) ≡ list_of rows ++ list_of others
      same = map-append entry_of rows others

      either : (row : table.Entry Made T) → table_lists.IsMemberOf row rows ⊎ table_lists.IsMemberOf row others → IsOfLane row.event.event
      either row (inl i) = first.of_lane row i
      either row (inr i) = second.of_lane row i
