-- The main hand, when hands are split from it and taken in.
use Rattle.std.proofs.Common.{◌≡◌, ◌∙◌, sym, ap, subst, ℕ, ◌+◌, ◌<◌, false, List, [], ◌∷◌, ◌++◌, arith}
use Rattle.std.proofs.lemmas.List.{map-append}
use Rattle.relay_outside.specs.declared.settings.Config.{Config}
use Rattle.turn_table.specs.declared.machine.Entry as table
use Rattle.turn_table.specs.declared.hands.Turns.{Turns}
use Rattle.turn_table.specs.declared.hands.Hand.{Hand}
use Rattle.turn_table.specs.declared.view.View.{View}
use Rattle.turn_table.specs.Histories as table_lists
use Rattle.turn_table.specs.Histories.{phase_at}
use Rattle.turn_table.specs.Hands.{IsLeft, IsJoined, IsUnchanged, KnowsAll, view, entries}
use Rattle.histories.specs.Words.{In, here, there}
use Rattle.histories.proofs.Lists.{in_left}
use Rattle.relay_core.specs.declared.part.Part.{Part}
use Rattle.relay_core.specs.Entries.{Entry}
use Rattle.relay_core.specs.FirstPlaces.{AreParts}
use Rattle.relay_core.specs.WholeParts.{AreWholeParts}
use Rattle.relay_core.specs.NestedMoments.{IsHanded}
use Rattle.relay_core.specs.Joins.{TakesOwnPairs, IsLaneRows, IsSound}
use Rattle.relay_core.specs.Legal.{Orderly}
use Rattle.relay_core.specs.Records.{Made, entry_of, list_of}
use Rattle.relay_core.specs.ReturnedPairs.{AreReturned, is_boards}
use Rattle.relay_core.specs.Turns.{Numbered, IsAbove, IsReceiving, made_by}
use Rattle.relay_core.proofs.Joins.{joined, numbered_left}
use Rattle.relay_core.proofs.KeptWhole.{lanes_whole}
use Rattle.relay_core.proofs.Recording.{lane_no_boards, unseen_rows}
use Rattle.relay_core.proofs.Whole.{known_numbered}
use Rattle.board_turns.specs.Between.{board_of, IsBetween}
use Rattle.board_turns.specs.Joins.{IsBetweenJoins}
use Rattle.board_turns.proofs.Betweens.{between_sound, whole_board}
use Rattle.board_turns.proofs.Wholeness.{same_now}

-- A number above all.

top : List Entry → ℕ
top [] = 0
top (e ∷ l) = (e.number + 1) + top l

below_top : (l : List Entry) (e : Entry) → In e l → e.number < top l
unfolding top
below_top [] e i = elim i [ ]
below_top (x ∷ l) e (here q) = let same = ap (λ (y : Entry). y.number) q in omega (arith, same)
below_top (x ∷ l) e (there i) = let low = below_top l e i in omega (arith, low)

-- the board's whole history is the same with rows after it that are none of its own
pub history_stays : {T : Type 0} (rows others : List (table.Entry Made T)) → ((row : table.Entry Made T) → table_lists.IsMemberOf row others → is_boards row.event.event ≡ false)
    → board_of (list_of (rows ++ others)) ≡ board_of (list_of rows)
history_stays {T} rows others none =
    let all = list_of (rows ++ others) in
    let n = top all in
    let longer : (e : Entry) → In e (list_of rows) → In e all =
    λ e i. subst (λ (l : List Entry). In e l) (sym (map-append entry_of rows others)) (in_left (list_of rows) (list_of others) i) in
    let after : IsAbove all 0 n = λ e i p. below_top all e i in
    let before : IsAbove (list_of rows) 0 n = λ e i p. below_top all e (longer e i) in
    sym (whole_board all n after) ∙ unseen_rows rows others none n ∙ whole_board (list_of rows) n before

module _ {M I O T : Type 0} {g : _} (config : Config) (turns : Turns M (Part I O) Made T) where
  pub split_between : (old new : Hand M (Part I O) Made T g) → IsBetween config turns old → IsLeft old new → IsBetween config turns new
  split_between old new b left = record {
    of_table = left.0 ∙ b.of_table;
    main = left.4 ∙ b.main;
    idle = left.5;
    parts = subst (λ (l : List (Part I O)). AreParts config l) (sym left.1) b.parts;
    whole_parts = subst (λ (l : List (Part I O)). AreWholeParts config l) (sym left.1) b.whole_parts;
    whole = same_now config old new left.1 left.2 b.whole;
    numbered = subst (λ (rows : List (table.Entry Made T)). Numbered (list_of rows)) (sym left.2) b.numbered;
    orderly = subst (λ (rows : List (table.Entry Made T)). Orderly config (list_of rows)) (sym left.2) b.orderly;
    handed = subst (λ (rows : List (table.Entry Made T)). IsHanded rows) (sym left.2) b.handed;
    returned = subst (λ (rows : List (table.Entry Made T)). AreReturned config rows) (sym left.2) b.returned;
    receiving = subst (λ (rows : List (table.Entry Made T)). TakesOwnPairs config (list_of rows) → IsReceiving config (list_of rows)) (sym left.2) b.receiving;
  }

  pub begun_joins : (hand : Hand M (Part I O) Made T g) → IsBetween config turns hand → IsBetweenJoins config turns hand
  begun_joins hand b = record {
    of_table = b.of_table;
    main = b.main;
    idle = b.idle;
    parts = b.parts;
    whole_parts = b.whole_parts;
    sound = between_sound config turns hand b;
    whole = λ numbered. b.whole;
  }

  pub joined_joins : (old other new : Hand M (Part I O) Made T g) → IsBetweenJoins config turns old → IsLaneRows config (entries other) → IsJoined old other new
      → IsBetweenJoins config turns new
  joined_joins old other new b lane is = record {
    of_table = is.0 ∙ b.of_table;
    main = is.4 ∙ b.main;
    idle = is.5;
    parts = subst (λ (l : List (Part I O)). AreParts config l) (sym is.1) b.parts;
    whole_parts = subst (λ (l : List (Part I O)). AreWholeParts config l) (sym is.1) b.whole_parts;
    sound = subst (λ (rows : List (table.Entry Made T)). IsSound config rows) (sym is.2) (joined config (entries old) (entries other) b.sound lane);
    whole = λ numbered.
        let both = ap (λ (rows : List (table.Entry Made T)). list_of rows) is.2 ∙ map-append entry_of (entries old) (entries other) in
        let once = numbered_left (made_by old) (list_of (entries other)) (subst Numbered both numbered) in
        lanes_whole config old new is.1 (entries other) is.2 lane.of_lane (b.whole once);
  }

  pub surveyed_between : (old new : Hand M (Part I O) Made T g) → IsBetweenJoins config turns old → IsUnchanged old new → KnowsAll new → IsBetween config turns new
  surveyed_between old new b same knows =
      let numbered : Numbered (made_by new) = known_numbered (view new) knows in
      let sound = subst (λ (v : View (Part I O) Made T). IsSound config v.entries) (sym same.1) b.sound in
      record {
        of_table = same.0 ∙ b.of_table;
        main = ap (λ (v : View (Part I O) Made T). v.main) same.1 ∙ b.main;
        idle = λ k. ap (λ (v : View (Part I O) Made T). phase_at v.turns k) same.1 ∙ b.idle k;
        parts = subst (λ (v : View (Part I O) Made T). AreParts config v.starts) (sym same.1) b.parts;
        whole_parts = subst (λ (v : View (Part I O) Made T). AreWholeParts config v.starts) (sym same.1) b.whole_parts;
        whole = same_now config old new (ap (λ (v : View (Part I O) Made T). v.starts) same.1) (ap (λ (v : View (Part I O) Made T). v.entries) same.1)
            (b.whole (subst (λ (v : View (Part I O) Made T). Numbered (list_of v.entries)) same.1 numbered));
        numbered = numbered;
        orderly = sound.orderly numbered;
        handed = sound.handed numbered;
        returned = sound.returned numbered;
        receiving = sound.receiving numbered;
      }

  pub joined_history : (old other new : Hand M (Part I O) Made T g) → IsLaneRows config (entries other) → IsJoined old other new → board_of (made_by new) ≡ board_of (made_by old)
  joined_history old other new lane is =
      ap (λ (rows : List (table.Entry Made T)). board_of (list_of rows)) is.2
      ∙ history_stays (entries old) (entries other) (λ row i. lane_no_boards row.event.event (lane.of_lane row i))
