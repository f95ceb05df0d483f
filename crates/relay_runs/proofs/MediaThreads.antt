-- What the lanes of all threads of media made, one after the other.
use Rattle.std.proofs.Common.{◌≡◌, ◌∙◌, refl, sym, ap, subst, ℕ, suc, ◌+◌, ◌<◌, inl, inr, List, [], ◌∷◌, ◌++◌, Option, Some, All, length, length-append, reverse, append-nil, append_assoc, arith}
use Rattle.std.specs.Prelude.{slice_index_or, count_by, ◌==◌}
use Rattle.std.specs.List.{AllZip}
use Rattle.std.proofs.lemmas.List.{get_or-map, length-map, map-append, reverse-append}
use Rattle.std.proofs.lemmas.List.Elements.{All-pop, All-nil, All-cons, All-head, All-tail, All-append}
use Rattle.relay_outside.specs.declared.settings.Config.{Config}
use Rattle.turn_table.specs.declared.hands.Turns.{Turns}
use Rattle.turn_table.specs.declared.hands.Hand.{Hand}
use Rattle.turn_table.specs.declared.machine.Entry as table
use Rattle.turn_table.specs.Histories as table_lists
use Rattle.turn_table.specs.Hands.{IsLeft}
use Rattle.relay_core.specs.declared.part.Part.{Part}
use Rattle.relay_core.specs.declared.machine.Relay.{Relay}
use Rattle.relay_core.specs.Entries.{Entry}
use Rattle.relay_core.specs.FirstPlaces.{AreParts}
use Rattle.relay_core.specs.WholeParts.{AreWholeParts}
use Rattle.board_turns.proofs.Wholeness.{same_now}
use Rattle.relay_core.specs.NestedMoments.{IsHanded}
use Rattle.relay_core.specs.Joins.{TakesOwnPairs, IsLaneRows as IsLaneRows, IsSound}
use Rattle.relay_core.specs.Legal.{Orderly}
use Rattle.relay_core.specs.ReturnedPairs.{AreReturned}
use Rattle.relay_core.specs.Records.{Made, entry_of, list_of}
use Rattle.relay_core.specs.Turns.{Numbered, IsOfLane, IsReceiving}
use Rattle.relay_core.proofs.Joins.{joined, row_append}
use Rattle.media_lane.specs.declared.answers.Totals.{Totals}
use Rattle.media_lane.specs.Lanes.{config_in, index_in, lanes_in, lane_list}
use Rattle.media_lane.specs.SweepLoops.{AddsTotals, AreSweeps, visits_of}
use Rattle.media_lane.specs.Receipts.{KeepsList}
use Rattle.media_lane.specs.Visits.{Row, Visit, ArePassed, all_rows}
use Rattle.media_lane.specs.Gates.{AreGated}
use Rattle.media_lane.proofs.Gates.{gated_none, gated_more, gated_both}
use Rattle.board_turns.specs.Between.{IsBetween}
use Rattle.media_lane.specs.Totals.{HasTotals}
use Rattle.media_lane.proofs.Sweeps.{rows_in, visits_totals}
use Rattle.relay_runs.specs.declared.lanes.OwnLane.{OwnLane}
use Rattle.relay_runs.specs.declared.media_thread.MediaThread.{MediaThread}
use Rattle.relay_runs.specs.Rounds.{IsLane, AreLanes, all_of}
use Rattle.relay_runs.specs.Threads.{AreNumbers, AreInOrder, lane_rows, all_lanes, numbers_of, rows_each, AreOfTable, MayJoin, AddsEach, IsFreshLane, Swept, IsDone, Each}

-- Visits of several sweeps.

passed_both : (range : Option (ℕ × ℕ)) (vs ws : List Visit) → ArePassed range vs → ArePassed range ws → ArePassed range (vs ++ ws)
passed_both range [] ws first second = second
passed_both range (v ∷ vs) ws first second = (first.0, passed_both range vs ws first.1 second)

all_passed : (config : Config) (index lanes : ℕ) (range : Option (ℕ × ℕ)) (sweeps : List (List Visit)) → AreSweeps config index lanes range sweeps → ArePassed range (visits_of sweeps)
all_passed config index lanes range [] are = tt
all_passed config index lanes range (visits ∷ before) are =
    passed_both range (visits_of before) visits (all_passed config index lanes range before are.0) are.1.passed

nothing_received : (config : Config) → IsReceiving config []
nothing_received config = record { received = λ e x i q. elim i [ ]; once = λ e f x y i j q r p s. elim i [ ] }

-- From threads to lanes.

module _ {X Y : Type 0} (R : X → Y → Type 0) where
  zip_append : (ws xs : List X) (ys zs : List Y) → AllZip R ws ys → AllZip R xs zs → AllZip R (ws ++ xs) (ys ++ zs)
  zip_append [] xs [] zs first second = second
  zip_append [] xs (y ∷ ys) zs first second = absurd first
  zip_append (w ∷ ws) xs [] zs first second = absurd first
  zip_append (w ∷ ws) xs (y ∷ ys) zs first second = (first.0, zip_append ws xs ys zs first.1 second)

pub zip_each : {X : Type 0} (R : X → X → Type 0) (xs ys : List X) → length ys ≡ length xs → ((i : ℕ) (d : X) → i < length xs → R (slice_index_or xs i d) (slice_index_or ys i d)) → AllZip R xs ys
zip_each {X} R [] [] many at = tt
zip_each {X} R [] (y ∷ ys) many at = absurd (omega (arith, many))
zip_each {X} R (x ∷ xs) [] many at = absurd (omega (arith, many))
zip_each {X} R (x ∷ xs) (y ∷ ys) many at = (at 0 x (omega arith), zip_each R xs ys (omega (arith, many)) (λ i d lt. at (suc i) d (omega (arith, lt))))

module _ {I O : Type 0} {gi : _} {go : _} {gm : _} where
  -- a fact of each lane of each thread
  abbrev pub AllOwn : (OwnLane I O gi go gm → Type 0) → List (MediaThread I O gi go gm) → Type 0
  AllOwn P threads = All (λ (thread : MediaThread I O gi go gm). All P thread.lanes.items) threads

  pub all_flat : (P : OwnLane I O gi go gm → Type 0) (xs : List (MediaThread I O gi go gm)) → AllOwn P xs → All P (all_lanes xs)
  all_flat P [] all = All-nil P
  all_flat P (x ∷ xs) all =
      All-append P x.lanes.items (all_lanes xs) (All-head (λ (thread : MediaThread I O gi go gm). All P thread.lanes.items) x xs all)
      (all_flat P xs (All-tail (λ (thread : MediaThread I O gi go gm). All P thread.lanes.items) x xs all))

  -- a relation of each lane of each thread is one of each of all lanes
  zip_lanes : (R : OwnLane I O gi go gm → OwnLane I O gi go gm → Type 0) (xs ys : List (MediaThread I O gi go gm)) → AllZip (λ (x y : MediaThread I O gi go gm). Each R x.lanes.items y.lanes.items) xs ys → AllZip R (all_lanes xs) (all_lanes ys)
  zip_lanes R [] [] each = tt
  zip_lanes R [] (y ∷ ys) each = absurd each
  zip_lanes R (x ∷ xs) [] each = absurd each
  zip_lanes R (x ∷ xs) (y ∷ ys) each =
      zip_append R x.lanes.items (all_lanes xs) y.lanes.items (all_lanes ys) (zip_each R x.lanes.items y.lanes.items each.0.as_many each.0.at) (zip_lanes R xs ys each.1)

  numbers_same : (range : Option (ℕ × ℕ)) (gate : ℕ → Type 0) (xs ys : List (OwnLane I O gi go gm)) → AllZip (Swept 1 range gate) xs ys → numbers_of ys ≡ numbers_of xs
  numbers_same range gate [] [] swept = refl
  numbers_same range gate [] (y ∷ ys) swept = absurd swept
  numbers_same range gate (x ∷ xs) [] swept = absurd swept
  numbers_same range gate (x ∷ xs) (y ∷ ys) swept =
      ap (λ (n : ℕ). n ∷ numbers_of ys) swept.0.same.index_is ∙ ap (λ (ns : List ℕ). index_in x.lane ∷ ns) (numbers_same range gate xs ys swept.1)

  pub own_of_table : (turns : Turns (Relay I O) (Part I O) Made (Unit {0})) (config : Config) (lanes : ℕ) (xs : List (MediaThread I O gi go gm)) → AllOwn (λ (own : OwnLane I O gi go gm). IsFreshLane config turns lanes own) xs
      → All (λ (thread : MediaThread I O gi go gm). AreOfTable turns thread.lanes.items) xs
  own_of_table turns config lanes xs fresh i d lt j e le = (fresh i d lt j e le).of_table

-- One lane.

module _ {I O : Type 0} {gi : _} {go : _} {gm : _} (config : Config) (turns : Turns (Relay I O) (Part I O) Made (Unit {0})) (lanes : ℕ) (range : Option (ℕ × ℕ)) (gate : ℕ → Type 0) where
  abbrev pub IsOneDone : OwnLane I O gi go gm → Type 0
  IsOneDone own = IsDone config turns lanes range gate own

  lane_done : (old new : OwnLane I O gi go gm) → IsFreshLane config turns lanes old → Swept 1 range gate old new → IsOneDone new
  lane_done old new fresh swept = record {
    of_table = swept.same.hand.0 ∙ fresh.of_table;
    one_part = swept.same.hand.2 ∙ fresh.one_part;
    not_main = swept.same.hand.3 ∙ fresh.not_main;
    is_lane = record {
      sweeps = swept.sweeps;
      some = (let some = swept.enough in omega (arith, some));
      are_sweeps =
          subst (λ (n : ℕ). AreSweeps config (index_in new.lane) n range swept.sweeps) fresh.lanes_are
          (subst (λ (n : ℕ). AreSweeps config n (lanes_in old.lane) range swept.sweeps) (sym swept.same.index_is)
          (subst (λ (k : Config). AreSweeps k (index_in old.lane) (lanes_in old.lane) range swept.sweeps) fresh.config_is swept.are_sweeps));
      rows_are =
          swept.list_is
          ∙ ap (λ (rows : List Row). rows ++ all_rows (config_in old.lane) (visits_of swept.sweeps)) fresh.nothing
          ∙ ap (λ (k : Config). all_rows k (visits_of swept.sweeps)) fresh.config_is;
    };
    totals_are = swept.totals_are [] fresh.no_totals;
    keeps =
        subst (λ (k : Config). KeepsList k [] (lane_list new.lane)) fresh.config_is
        (subst (λ (rows : List Row). KeepsList (config_in old.lane) (list_of rows) (lane_list new.lane)) fresh.nothing swept.keeps);
    gated = gated_more gate (lane_list old.lane) (lane_list new.lane) (gated_none gate (lane_list old.lane) (ap (λ (rows : List Row). list_of rows) fresh.nothing)) swept.gated;
  }

  done_of_lane : (x : OwnLane I O gi go gm) → IsOneDone x → (row : Row) → table_lists.IsMemberOf row (lane_rows x) → IsOfLane row.event.event
  done_of_lane x done row is_in =
      rows_in config (visits_of done.is_lane.sweeps) row (subst (λ (rows : List Row). table_lists.IsMemberOf row rows) done.is_lane.rows_are is_in)

  done_lane : (x : OwnLane I O gi go gm) → IsOneDone x → IsLaneRows config (lane_rows x)
  done_lane x done = record {
    of_lane = done_of_lane x done;
    receiving = λ own. done.keeps.receiving own (nothing_received config);
  }

  done_totals : (x : OwnLane I O gi go gm) → IsOneDone x → (l : List Entry) (was is : Totals) → AddsTotals was x.totals is → HasTotals l was
      → HasTotals (l ++ list_of (lane_rows x)) is
  done_totals x done l was is adds has =
      subst (λ (rows : List Row). HasTotals (l ++ list_of rows) is) (sym done.is_lane.rows_are)
      (visits_totals config range l (visits_of done.is_lane.sweeps) (all_passed config (index_in x.lane) lanes range done.is_lane.sweeps done.is_lane.are_sweeps) was x.totals is
      done.totals_are adds has)

  -- All of them.

  abbrev pub AreDone : List (OwnLane I O gi go gm) → Type 0
  AreDone xs = All IsOneDone xs

  head_done : (x : OwnLane I O gi go gm) (xs : List (OwnLane I O gi go gm)) → AreDone (x ∷ xs) → IsOneDone x
  head_done x xs done = All-head IsOneDone x xs done

  tail_done : (x : OwnLane I O gi go gm) (xs : List (OwnLane I O gi go gm)) → AreDone (x ∷ xs) → AreDone xs
  tail_done x xs done = All-tail IsOneDone x xs done

  -- where each stands at its number's place, their rows are those of all lanes, in order
  pub all_made : (xs : List (OwnLane I O gi go gm)) → AreDone xs → AreInOrder xs → length xs ≡ lanes → AreLanes config lanes range (rows_each xs)
  all_made xs done in_order long = record {
    as_many = length-map xs (λ (own : OwnLane I O gi go gm). lane_rows own) ∙ long;
    are_lanes = λ i d lt. made_at i d (omega (arith, lt, long));
  }
    where
      first_of : (zs : List (OwnLane I O gi go gm)) (i : ℕ) → i < length zs → OwnLane I O gi go gm
      first_of [] i lt = absurd (omega (arith, lt))
      first_of (z ∷ zs) i lt = z

      made_by_lane : (i : ℕ) (d : List Row) → i < length xs → OwnLane I O gi go gm → IsLane config lanes range i (slice_index_or (rows_each xs) i d)
      made_by_lane i d lt e =
          subst (λ (rows : List Row). IsLane config lanes range i rows) (sym (get_or-map (λ (own : OwnLane I O gi go gm). lane_rows own) xs i e d lt))
          (subst (λ (n : ℕ). IsLane config lanes range n (lane_rows (slice_index_or xs i e))) (in_order i e lt) (done i e lt).is_lane)

      made_at : (i : ℕ) (d : List Row) → i < length xs → IsLane config lanes range i (slice_index_or (rows_each xs) i d)
      made_at i d lt = made_by_lane i d lt (first_of xs i lt)

  pub all_of_lane : (xs : List (OwnLane I O gi go gm)) → AreDone xs → (row : Row) → table_lists.IsMemberOf row (all_of (rows_each xs)) → IsOfLane row.event.event
  all_of_lane [] done row i = elim i [ ]
  all_of_lane (x ∷ xs) done row i =
      elim (row_append (lane_rows x) (all_of (rows_each xs)) i) [
        | inl j ↦ done_of_lane x (head_done x xs done) row j
        | inr j ↦ all_of_lane xs (tail_done x xs done) row j
      ]

  -- the main hand's rows followed by theirs are sound
  pub all_sound : (xs : List (OwnLane I O gi go gm)) → AreDone xs → (rows : List Row) → IsSound config rows → IsSound config (rows ++ all_of (rows_each xs))
  all_sound [] done rows sound = subst (λ (all : List Row). IsSound config all) (sym (append-nil rows)) sound
  all_sound (x ∷ xs) done rows sound =
      subst (λ (all : List Row). IsSound config all) (append_assoc rows (lane_rows x) (all_of (rows_each xs)))
      (all_sound xs (tail_done x xs done) (rows ++ lane_rows x) (joined config rows (lane_rows x) sound (done_lane x (head_done x xs done))))

  -- and their counts are those of all
  pub all_totals : (xs : List (OwnLane I O gi go gm)) → AreDone xs → (rows : List Row) (was is : Totals) → AddsEach xs was is → HasTotals (list_of rows) was
      → HasTotals (list_of (rows ++ all_of (rows_each xs))) is
  all_totals [] done rows was is adds has =
      subst (λ (all : List Row). HasTotals (list_of all) is) (sym (append-nil rows)) (subst (λ (t : Totals). HasTotals (list_of rows) t) (sym adds) has)
  all_totals (x ∷ xs) done rows was is adds has =
      subst (λ (all : List Row). HasTotals (list_of all) is) (append_assoc rows (lane_rows x) (all_of (rows_each xs)))
      (all_totals xs (tail_done x xs done) (rows ++ lane_rows x) adds.0 is adds.2
      (subst (λ (l : List Entry). HasTotals l adds.0) (sym (map-append entry_of rows (lane_rows x))) (done_totals x (head_done x xs done) (list_of rows) was adds.0 adds.1 has)))

  -- and the gate was passed at the cell of each relay
  pub all_gated : (xs : List (OwnLane I O gi go gm)) → AreDone xs → AreGated gate (list_of (all_of (rows_each xs)))
  all_gated [] done = gated_none gate [] refl
  all_gated (x ∷ xs) done =
      subst (λ (l : List Entry). AreGated gate l) (sym (map-append entry_of (lane_rows x) (all_of (rows_each xs))))
      (gated_both gate (list_of (lane_rows x)) (list_of (all_of (rows_each xs))) (head_done x xs done).gated (all_gated xs (tail_done x xs done)))

-- Each lane that was made and did its work is done: xs are the threads before their work, and ys after it.

module _ {I O : Type 0} {gi : _} {go : _} {gm : _} (config : Config) (turns : Turns (Relay I O) (Part I O) Made (Unit {0})) (lanes : ℕ) (range : Option (ℕ × ℕ))
    (gate : ℕ → Type 0) (xs ys : List (MediaThread I O gi go gm)) (long : length ys ≡ length xs)
    (fresh : All (λ (thread : MediaThread I O gi go gm). All (λ (own : OwnLane I O gi go gm). IsFreshLane config turns lanes own) thread.lanes.items) xs)
    (worked : (i : ℕ) (d : MediaThread I O gi go gm) → i < length xs → Each (Swept 1 range gate) (slice_index_or xs i d).lanes.items (slice_index_or ys i d).lanes.items) where
  swept : AllZip (Swept 1 range gate) (all_lanes xs) (all_lanes ys)
  swept = zip_lanes (Swept 1 range gate) xs ys (zip_each (λ (x y : MediaThread I O gi go gm). Each (Swept 1 range gate) x.lanes.items y.lanes.items) xs ys long worked)

  own_done : AllOwn (IsOneDone config turns lanes range gate) ys
  own_done i d lt j e le =
      let each = worked i d (omega (arith, lt, long)) in
      let many = each.as_many in
      lane_done config turns lanes range gate (slice_index_or (slice_index_or xs i d).lanes.items j e) (slice_index_or (slice_index_or ys i d).lanes.items j e)
      (fresh i d (omega (arith, lt, long)) j e (omega (arith, le, many))) (each.at j e (omega (arith, le, many)))

  are_done : AreDone config turns lanes range gate (all_lanes ys)
  are_done = all_flat (IsOneDone config turns lanes range gate) ys own_done

  may_join : All (λ (own : OwnLane I O gi go gm). MayJoin turns own) (all_lanes ys)
  may_join i d lt =
      let x = are_done i d lt in
      record { of_table = x.of_table; one_part = x.one_part; not_main = x.not_main }

  as_many : length (all_lanes ys) ≡ length (all_lanes xs)
  as_many =
      sym (length-map (all_lanes ys) (λ (own : OwnLane I O gi go gm). index_in own.lane))
      ∙ ap (λ (ns : List ℕ). length ns) (numbers_same range gate (all_lanes xs) (all_lanes ys) swept)
      ∙ length-map (all_lanes xs) (λ (own : OwnLane I O gi go gm). index_in own.lane)

  each_once : AreNumbers lanes (numbers_of (all_lanes xs)) → AreNumbers lanes (numbers_of (all_lanes ys))
  each_once once i = ap (λ (ns : List ℕ). count_by (λ (j : ℕ). j == i) ns) (numbers_same range gate (all_lanes xs) (all_lanes ys) swept) ∙ once i

-- What is known of the lanes of these threads after their work, where xs are the threads before it.
pub record HaveWorked {I O : Type 0} {gi : _} {go : _} {gm : _} (config : Config) (turns : Turns (Relay I O) (Part I O) Made (Unit {0})) (lanes : ℕ) (range : Option (ℕ × ℕ)) (gate : ℕ → Type 0)
    (xs ys : List (MediaThread I O gi go gm)) : Type 0 where
  pub done : AreDone config turns lanes range gate (all_lanes ys)
  pub once : AreNumbers (length (all_lanes ys)) (numbers_of (all_lanes ys))
  pub long : length (all_lanes ys) ≡ lanes
  pub many : length (all_lanes ys) ≡ length (all_lanes xs)
  pub join : All (λ (own : OwnLane I O gi go gm). MayJoin turns own) (all_lanes ys)

-- by what was known of them before it, under other names of configuration, table and number
pub have_worked : {I O : Type 0} {gi : _} {go : _} {gm : _} (config config' : Config) (turns turns' : Turns (Relay I O) (Part I O) Made (Unit {0})) (lanes lanes' : ℕ) (range : Option (ℕ × ℕ))
    (gate : ℕ → Type 0) (xs ys : List (MediaThread I O gi go gm)) → config' ≡ config → turns' ≡ turns → lanes' ≡ lanes → length ys ≡ length xs
    → AllOwn (λ (own : OwnLane I O gi go gm). IsFreshLane config' turns' lanes' own) xs → AreNumbers lanes' (numbers_of (all_lanes xs)) → length (all_lanes xs) ≡ lanes'
    → ((i : ℕ) (d : MediaThread I O gi go gm) → i < length xs → Each (Swept 1 range gate) (slice_index_or xs i d).lanes.items (slice_index_or ys i d).lanes.items)
    → HaveWorked config turns lanes range gate xs ys
have_worked {I} {O} {gi} {go} {gm} config config' turns turns' lanes lanes' range gate xs ys config_is turns_are lanes_are long before once count worked =
    let fresh : AllOwn (λ (own : OwnLane I O gi go gm). IsFreshLane config turns lanes own) xs =
    subst (λ (n : ℕ). AllOwn (λ (own : OwnLane I O gi go gm). IsFreshLane config turns n own) xs) lanes_are
    (subst (λ (t : Turns (Relay I O) (Part I O) Made (Unit {0})). AllOwn (λ (own : OwnLane I O gi go gm). IsFreshLane config t lanes' own) xs) turns_are
    (subst (λ (k : Config). AllOwn (λ (own : OwnLane I O gi go gm). IsFreshLane k turns' lanes' own) xs) config_is before)) in
    let many : length (all_lanes ys) ≡ length (all_lanes xs) = as_many config turns lanes range gate xs ys long fresh worked in
    let all : length (all_lanes ys) ≡ lanes = many ∙ count ∙ lanes_are in
    record {
      done = are_done config turns lanes range gate xs ys long fresh worked;
      once = subst (λ (n : ℕ). AreNumbers n (numbers_of (all_lanes ys))) (sym all)
          (each_once config turns lanes range gate xs ys long fresh worked (subst (λ (n : ℕ). AreNumbers n (numbers_of (all_lanes xs))) lanes_are once));
      long = all;
      many = many;
      join = may_join config turns lanes range gate xs ys long fresh worked;
    }

-- the main hand stays what it is when a part of it is split
pub left_between : {M I O T : Type 0} {g : _} (config : Config) (turns : Turns M (Part I O) Made T) (old new : Hand M (Part I O) Made T g) → IsLeft old new
    → IsBetween config turns old → IsBetween config turns new
left_between {M} {I} {O} {T} {g} config turns old new left b = record {
  of_table = left.0 ∙ b.of_table;
  main = left.4 ∙ b.main;
  idle = left.5;
  parts = subst (λ (l : List (Part I O)). AreParts config l) (sym left.1) b.parts;
  whole_parts = subst (λ (l : List (Part I O)). AreWholeParts config l) (sym left.1) b.whole_parts;
  whole = same_now config old new left.1 left.2 b.whole;
  numbered = subst (λ (rows : List (table.Entry Made T)). Numbered (list_of rows)) (sym left.2) b.numbered;
  orderly = subst (λ (rows : List (table.Entry Made T)). Orderly config (list_of rows)) (sym left.2) b.orderly;
  handed = subst (λ (rows : List (table.Entry Made T)). IsHanded rows) (sym left.2) b.handed;
  returned = subst (λ (rows : List (table.Entry Made T)). AreReturned config rows) (sym left.2) b.returned;
  receiving = subst (λ (rows : List (table.Entry Made T)). TakesOwnPairs config (list_of rows) → IsReceiving config (list_of rows)) (sym left.2) b.receiving;
}

-- Their hands are joined, one after the other: the last of the reversed list is the next one.

next_reversed : {X : Type 0} (xs ys : List X) (x : X) → xs ≡ ys ++ x ∷ [] → reverse xs ≡ x ∷ reverse ys
next_reversed {X} xs ys x is = ap (λ (zs : List X). reverse zs) is ∙ reverse-append ys (x ∷ [])

all_reverse : {X : Type 0} (P : X → Type 0) (xs : List X) → All P xs → All P (reverse xs)
all_reverse {X} P [] all = all
all_reverse {X} P (x ∷ xs) all =
    subst (λ (zs : List X). All P zs) (sym (reverse-append (x ∷ []) xs))
    (All-append P (reverse xs) (x ∷ []) (all_reverse P xs (All-tail P x xs all)) (All-cons P x [] (All-head P x xs all) (All-nil P)))

pub all_reversed : {X : Type 0} (P : X → Type 0) (xs zs : List X) → zs ≡ reverse xs → All P xs → All P zs
all_reversed {X} P xs zs is all = subst (λ (ys : List X). All P ys) (sym is) (all_reverse P xs all)

module _ {I O : Type 0} {gi : _} {go : _} {gm : _} where
  rows_both : (xs ys : List (OwnLane I O gi go gm)) → all_of (rows_each (xs ++ ys)) ≡ all_of (rows_each xs) ++ all_of (rows_each ys)
  rows_both [] ys = refl
  rows_both (x ∷ xs) ys = ap (λ (rows : List Row). lane_rows x ++ rows) (rows_both xs ys) ∙ sym (append_assoc (lane_rows x) (all_of (rows_each xs)) (all_of (rows_each ys)))

  adds_both : (xs ys : List (OwnLane I O gi go gm)) (a b c : Totals) → AddsEach xs a b → AddsEach ys b c → AddsEach (xs ++ ys) a c
  adds_both [] ys a b c first second = subst (λ (t : Totals). AddsEach ys t c) first second
  adds_both (x ∷ xs) ys a b c first second = (first.0, first.1, adds_both xs ys first.0 b c first.2 second)

-- A lane is popped.
module _ {I O : Type 0} {gi : _} {go : _} {gm : _} (xs ys : List (OwnLane I O gi go gm)) (x : OwnLane I O gi go gm) (is : xs ≡ ys ++ x ∷ []) where
  -- what is known of all is known of those that are left, and of this one
  pub all_left : (P : OwnLane I O gi go gm → Type 0) → All P xs → All P ys × P x
  all_left P all = All-pop P xs ys (Some x) is all

  pub next_list : (before after all : List Row) → after ≡ before ++ lane_rows x → before ++ all_of (rows_each (reverse xs)) ≡ all → after ++ all_of (rows_each (reverse ys)) ≡ all
  next_list before after all gains so_far =
      ap (λ (rows : List Row). rows ++ all_of (rows_each (reverse ys))) gains
      ∙ append_assoc before (lane_rows x) (all_of (rows_each (reverse ys)))
      ∙ ap (λ (zs : List (OwnLane I O gi go gm)). before ++ all_of (rows_each zs)) (sym (next_reversed xs ys x is))
      ∙ so_far

  pub next_totals : (was now : Totals) (R : Totals → Type 0) → AddsTotals was x.totals now → ((t : Totals) → AddsEach (reverse xs) was t → R t)
      → (t : Totals) → AddsEach (reverse ys) now t → R t
  next_totals was now R adds so_far t more =
      so_far t (subst (λ (zs : List (OwnLane I O gi go gm)). AddsEach zs was t) (sym (next_reversed xs ys x is)) (now, adds, more))

-- A thread is popped: all its lanes are.
module _ {I O : Type 0} {gi : _} {go : _} {gm : _} (xs ys : List (MediaThread I O gi go gm)) (x : MediaThread I O gi go gm) (is : xs ≡ ys ++ x ∷ []) where
  pub threads_left : (P : MediaThread I O gi go gm → Type 0) → All P xs → All P ys × P x
  threads_left P all = All-pop P xs ys (Some x) is all

  pub next_rows : (before after all : List Row) → after ≡ before ++ all_of (rows_each x.lanes.items) → before ++ all_of (rows_each (all_lanes (reverse xs))) ≡ all
      → after ++ all_of (rows_each (all_lanes (reverse ys))) ≡ all
  next_rows before after all gains so_far =
      ap (λ (rows : List Row). rows ++ all_of (rows_each (all_lanes (reverse ys)))) gains
      ∙ append_assoc before (all_of (rows_each x.lanes.items)) (all_of (rows_each (all_lanes (reverse ys))))
      ∙ ap (λ (rows : List Row). before ++ rows) (sym (rows_both x.lanes.items (all_lanes (reverse ys))))
      ∙ ap (λ (zs : List (MediaThread I O gi go gm)). before ++ all_of (rows_each (all_lanes zs))) (sym (next_reversed xs ys x is))
      ∙ so_far

  pub next_adds : (was now : Totals) (R : Totals → Type 0) → AddsEach x.lanes.items was now → ((t : Totals) → AddsEach (all_lanes (reverse xs)) was t → R t)
      → (t : Totals) → AddsEach (all_lanes (reverse ys)) now t → R t
  next_adds was now R adds so_far t more =
      so_far t
      (subst (λ (zs : List (MediaThread I O gi go gm)). AddsEach (all_lanes zs) was t) (sym (next_reversed xs ys x is))
      (adds_both x.lanes.items (all_lanes (reverse ys)) was now t adds more))

  pub next_length : length (all_lanes (reverse xs)) ≡ length x.lanes.items + length (all_lanes (reverse ys))
  next_length =
      ap (λ (zs : List (MediaThread I O gi go gm)). length (all_lanes zs)) (next_reversed xs ys x is) ∙ length-append x.lanes.items (all_lanes (reverse ys))
