-- What is known of a list that goes on from another's is known of it with that of a lane behind it.
use Rattle.std.proofs.Common.{◌≡◌, ◌∙◌, sym, ap, subst, refl, ℕ, ◌+◌, ◌⊎◌, inl, inr, List, ◌++◌, true, map, length, filter, append-nil, arith}
use Rattle.std.proofs.lemmas.List.{map-append, length-map}
use Rattle.relay_outside.specs.declared.settings.Config.{Config}
use Rattle.turn_table.specs.declared.machine.Entry as table
use Rattle.turn_table.specs.Histories as table_lists
use Rattle.histories.specs.Words.{In}
use Rattle.histories.proofs.Lists.{in_append, in_left, in_right, mapped, maps}
use Rattle.call_cell.specs.Cells.{Prepare, Commit, Relay, Expire, Read, End}
use Rattle.port_pool.specs.Boxes.{Open, Take, Close}
use Rattle.relay_core.specs.Entries.{Event, Board, Cell, Box, Entry, is_nested, is_at, front}
use Rattle.relay_core.specs.Legal.{Orderly}
use Rattle.relay_core.specs.Records.{Made, entry_of, list_of}
use Rattle.relay_core.specs.Turns.{Numbered, IsOfLane, IsReceiving}
use Rattle.relay_core.specs.NestedMoments.{IsHanded}
use Rattle.relay_core.specs.Joins.{TakesOwnPairs, IsLaneRows}
use Rattle.relay_core.specs.Continued.{later_event, later, continued, IsSoundAfter}
use Rattle.relay_core.proofs.Histories.{at_place}
use Rattle.relay_core.proofs.Boxes.{below_front}
use Rattle.relay_core.proofs.Turns.{filter_append, filter_none, false_if, lanes_keep}
use Rattle.relay_core.proofs.Own.{rows_in}
use Rattle.relay_core.proofs.Recording.{returned_behind}
use Rattle.relay_core.proofs.Joins.{numbered_left, not_in_both, receiving_joined, row_append, lane_handed, boards_nested, lane_entries}
use Rattle.relay_core.proofs.Later.{later_by, at_behind}
use Rattle.relay_core.proofs.LaterHistories.{longer_continued}

-- Each entry of both lists keeps its place and number alone.

module _ (config : Config) (before l : List Entry) where
  early_once : Numbered before → (e : Entry) → In e before → length (filter (is_at e.place e.number) (continued config before l)) ≡ 1
  early_once numbered e i =
      let low = below_front before e e.place i refl in
      ap length
      (filter_append (is_at e.place e.number) before (map (later config before) l)
      ∙ ap (λ (xs : List Entry). filter (is_at e.place e.number) before ++ xs)
      (filter_none (is_at e.place e.number) (map (later config before) l) (λ f j. false_if (is_at e.place e.number f) (λ t.
      let m = mapped (later config before) l j in
      let a = at_place e.place e.number f t in
      let place : m.from.place ≡ e.place = ap (λ (x : Entry). x.place) m.makes ∙ a.0 in
      let number : m.from.number + front before m.from.place ≡ e.number = ap (λ (x : Entry). x.number) m.makes ∙ a.1 in
      let fronts = ap (λ (k : ℕ). front before k) place in
      omega (arith, low, number, fronts))))
      ∙ append-nil (filter (is_at e.place e.number) before))
      ∙ numbered e i

  late_once : Numbered l → (e : Entry) → In e l → length (filter (is_at e.place (e.number + front before e.place)) (continued config before l)) ≡ 1
  late_once numbered e i =
      ap length (at_behind config before before l (λ f j. below_front before f f.place j refl) e.place e.number)
      ∙ length-map (filter (is_at e.place e.number) l) (later config before)
      ∙ numbered e i

  pub numbered_both : Numbered before → Numbered l → Numbered (continued config before l)
  numbered_both early late e i = by_part (in_append before (map (later config before) l) i)
    where
      by_part : In e before ⊎ In e (map (later config before) l) → length (filter (is_at e.place e.number) (continued config before l)) ≡ 1
      by_part (inl j) = early_once early e j
      by_part (inr j) =
          let m = mapped (later config before) l j in
          subst (λ (x : Entry). length (filter (is_at x.place x.number) (continued config before l)) ≡ 1) m.makes (late_once late m.from m.is_in)

later_lane : (config : Config) (before : List Entry) (v : Event) → IsOfLane v → IsOfLane (later_event config before v)
later_lane config before (Cell (Relay x)) is = tt
later_lane config before (Box (Take half taken)) is = tt
later_lane config before (Board b) is = absurd is
later_lane config before (Cell (Prepare call legs keys dropped)) is = absurd is
later_lane config before (Cell (Commit signal)) is = absurd is
later_lane config before (Cell (Expire due)) is = absurd is
later_lane config before (Cell (Read reports)) is = absurd is
later_lane config before (Cell End) is = absurd is
later_lane config before (Box (Open leg)) is = absurd is
later_lane config before (Box Close) is = absurd is

module _ {T : Type 0} where
  -- a nested row's board entry is among the rows
  record IsNestedIn (rows : List (table.Entry Made T)) (row : table.Entry Made T) : Type 0 where
    board : Entry
    is_in : In board (list_of rows)
    at_board : board.place ≡ 0
    number_is : board.number ≡ row.event.board

  nested_in : (config : Config) (before : List Entry) (rows : List (table.Entry Made T)) → Orderly config (continued config before (list_of rows))
      → (row : table.Entry Made T) → table_lists.IsMemberOf row rows → is_nested row.event.event ≡ true → IsNestedIn rows row
  nested_in config before rows o row i t =
      let b = o.nested (later config before (entry_of row)) (in_right before (map (later config before) (list_of rows)) (maps (later config before) (list_of rows) (rows_in rows i)))
      (later_by is_nested (λ x y. refl) config before row.event.event ∙ t) in
      by_part b.0 b.2 b.3 (in_append before (map (later config before) (list_of rows)) b.1)
    where
      by_part : (b : Entry) → b.place ≡ 0 → b.number ≡ row.event.board + front before 0 → In b before ⊎ In b (map (later config before) (list_of rows)) → IsNestedIn rows row
      by_part b p q (inl j) = let low = below_front before b 0 j p in absurd (omega (arith, low, q))
      by_part b p q (inr j) =
          let m = mapped (later config before) (list_of rows) j in
          let place : m.from.place ≡ 0 = ap (λ (x : Entry). x.place) m.makes ∙ p in
          let number = ap (λ (x : Entry). x.number) m.makes in
          let fronts = ap (λ (k : ℕ). front before k) place in
          record { board = m.from; is_in = m.is_in; at_board = place; number_is = omega (arith, number, fronts, q) }

  handed_both : (config : Config) (before : List Entry) (rows others : List (table.Entry Made T)) → Orderly config (continued config before (list_of rows))
      → ((row : table.Entry Made T) → table_lists.IsMemberOf row others → IsOfLane row.event.event) → Numbered (list_of rows ++ list_of others)
      → IsHanded rows → IsHanded (rows ++ others)
  handed_both config before rows others o lanes numbered handed row i t b j p q = by_parts (row_append rows others i) (row_append rows others j)
    where
      by_parts : table_lists.IsMemberOf row rows ⊎ table_lists.IsMemberOf row others → table_lists.IsMemberOf b rows ⊎ table_lists.IsMemberOf b others
          → row.event.handed ≡ b.event.moment
      by_parts (inl x) (inl y) = handed row x t b y p q
      by_parts (inl x) (inr y) =
          let n = nested_in config before rows o row x (boards_nested row.event.event t) in
          absurd (not_in_both (list_of rows) (list_of others) numbered n.board (entry_of b) n.is_in (rows_in others y) (n.at_board ∙ sym p) (n.number_is ∙ sym q))
      by_parts (inr x) y = absurd (let k = lane_handed row.event.event (lanes row x) in cc)

  pub joined_after : (config : Config) (before : List Entry) (rows others : List (table.Entry Made T)) → IsSoundAfter config before rows → IsLaneRows config others
      → IsSoundAfter config before (rows ++ others)
  joined_after config before rows others sound lane = record {
    orderly = λ numbered.
        let once = subst Numbered same numbered in
        let left = sound.orderly (numbered_left (list_of rows) (list_of others) once) in
        let early = numbered_left before (map (later config before) (list_of rows)) left.numbered in
        let both = longer_continued config before (list_of rows) (list_of others) in
        subst (λ (l : List Entry). Orderly config (continued config before l)) (sym same)
        (subst (λ (l : List Entry). Orderly config l) (sym both)
        (lanes_keep config (continued config before (list_of rows)) (map (later config before) (list_of others)) left
        (λ e i. let m = mapped (later config before) (list_of others) i in
        subst (λ (x : Entry). IsOfLane x.event) m.makes (later_lane config before m.from.event (lane_entries others lane.of_lane m.from m.is_in)))
        (subst Numbered both (numbered_both config before (list_of rows ++ list_of others) early once))));
    handed = λ numbered.
        let once = subst Numbered same numbered in
        let left = numbered_left (list_of rows) (list_of others) once in
        handed_both config before rows others (sound.orderly left) lane.of_lane once (sound.handed left);
    returned = λ numbered.
        let once = subst Numbered same numbered in
        returned_behind config rows others lane.of_lane (sound.returned (numbered_left (list_of rows) (list_of others) once));
    receiving = λ numbered own.
        let once = subst Numbered same numbered in
        let owns = subst (λ (l : List Entry). TakesOwnPairs config l) same own in
        subst (λ (l : List Entry). IsReceiving config l) (sym same)
        (receiving_joined config (list_of rows) (list_of others) once
        (sound.receiving (numbered_left (list_of rows) (list_of others) once) (λ e half leg source bytes i. owns e half leg source bytes (in_left (list_of rows) (list_of others) i)))
        (lane.receiving (λ e half leg source bytes i. owns e half leg source bytes (in_right (list_of rows) (list_of others) i))));
  }
    where
      same : list_of (rows ++ others) ≡ list_of rows ++ list_of others
      same = map-append entry_of rows others
