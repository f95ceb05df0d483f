-- The main hand after it took in the hands of all lanes and surveyed the table.
use Rattle.std.proofs.Common.{◌≡◌, ◌∙◌, sym, ap, subst, ℕ, List, ◌++◌, Option, length}
use Rattle.std.proofs.lemmas.List.Sorted.{All-permutation, length_permutation}
use Rattle.relay_outside.specs.declared.settings.Config.{Config}
use Rattle.turn_table.specs.declared.hands.Turns.{Turns}
use Rattle.turn_table.specs.declared.hands.Hand.{Hand}
use Rattle.turn_table.specs.declared.view.View.{View}
use Rattle.turn_table.specs.Histories.{phase_at}
use Rattle.turn_table.specs.Hands.{IsHandOf, HasNoTurn, IsUnchanged, KnowsAll, view, starts, entries}
use Rattle.relay_core.specs.declared.part.Part.{Part}
use Rattle.relay_core.specs.declared.machine.Relay.{Relay}
use Rattle.relay_core.specs.FirstPlaces.{AreParts}
use Rattle.relay_core.specs.WholeParts.{AreWholeParts}
use Rattle.relay_core.specs.KeptAfter.{IsWholeNow}
use Rattle.relay_core.specs.NestedMoments.{IsHanded}
use Rattle.relay_core.specs.Joins.{TakesOwnPairs, IsSound}
use Rattle.relay_core.specs.Legal.{Orderly}
use Rattle.relay_core.specs.Records.{Made, list_of}
use Rattle.relay_core.specs.ReturnedPairs.{AreReturned}
use Rattle.relay_core.specs.Turns.{Numbered, IsReceiving, made_by}
use Rattle.relay_core.proofs.Recording.{lane_no_boards}
use Rattle.media_lane.specs.declared.answers.Totals.{Totals}
use Rattle.media_lane.specs.Gates.{AreGated}
use Rattle.media_lane.specs.Totals.{HasTotals}
use Rattle.media_lane.specs.Visits.{Row}
use Rattle.media_lane.proofs.Between.{lanes_board}
use Rattle.board_turns.specs.Between.{board_of, IsBetween}
use Rattle.board_turns.proofs.Betweens.{between_sound}
use Rattle.board_turns.proofs.Wholeness.{same_now}
use Rattle.relay_core.proofs.KeptWhole.{lanes_whole}
use Rattle.relay_runs.specs.declared.media_thread.MediaThread.{MediaThread}
use Rattle.relay_runs.specs.Rounds.{AreLanes, all_of}
use Rattle.relay_runs.specs.Threads.{all_lanes, rows_each, CountsUp, JoinsInOrder}
use Rattle.relay_runs.proofs.Between.{known_numbered, known_counted}
use Rattle.relay_runs.proofs.Gates.{joined_gated}
use Rattle.relay_runs.proofs.MediaThreads.{AreDone, IsOneDone, all_gated, all_made, all_of_lane, all_sound, all_totals}
use Rattle.relay_runs.proofs.Orders.{AreOfLane}

-- A hand after a survey.

module _ {M I O T : Type 0} {g : _} (config : Config) (turns : Turns M (Part I O) Made T) (old new : Hand M (Part I O) Made T g) (same : IsUnchanged old new) where
  pub surveyed_between : IsBetween config turns old → IsBetween config turns new
  surveyed_between b = record {
    of_table = same.0 ∙ b.of_table;
    main = ap (λ (v : View (Part I O) Made T). v.main) same.1 ∙ b.main;
    idle = λ k. ap (λ (v : View (Part I O) Made T). phase_at v.turns k) same.1 ∙ b.idle k;
    parts = subst (λ (v : View (Part I O) Made T). AreParts config v.starts) (sym same.1) b.parts;
    whole_parts = subst (λ (v : View (Part I O) Made T). AreWholeParts config v.starts) (sym same.1) b.whole_parts;
    whole = same_now config old new (ap (λ (v : View (Part I O) Made T). v.starts) same.1) (ap (λ (v : View (Part I O) Made T). v.entries) same.1) b.whole;
    numbered = subst (λ (v : View (Part I O) Made T). Numbered (list_of v.entries)) (sym same.1) b.numbered;
    orderly = subst (λ (v : View (Part I O) Made T). Orderly config (list_of v.entries)) (sym same.1) b.orderly;
    handed = subst (λ (v : View (Part I O) Made T). IsHanded v.entries) (sym same.1) b.handed;
    returned = subst (λ (v : View (Part I O) Made T). AreReturned config v.entries) (sym same.1) b.returned;
    receiving = subst (λ (v : View (Part I O) Made T). TakesOwnPairs config (list_of v.entries) → IsReceiving config (list_of v.entries)) (sym same.1) b.receiving;
  }

-- The main hand after it took in hands of threads, by what it then knows of its list.
module _ {M I O T : Type 0} {g : _} (config : Config) (turns : Turns M (Part I O) Made T) (old new : Hand M (Part I O) Made T g) where
  pub joined_between : IsBetween config turns old → IsHandOf turns new → (view new).main ≡ (view old).main → HasNoTurn new → starts new ≡ starts old
      → IsSound config (entries new) → Numbered (made_by new) → IsWholeNow config new → IsBetween config turns new
  joined_between b of_table main idle same sound numbered whole = record {
    of_table = of_table;
    main = main ∙ b.main;
    idle = idle;
    parts = subst (λ (l : List (Part I O)). AreParts config l) (sym same) b.parts;
    whole_parts = subst (λ (l : List (Part I O)). AreWholeParts config l) (sym same) b.whole_parts;
    whole = whole;
    numbered = numbered;
    orderly = sound.orderly numbered;
    handed = sound.handed numbered;
    returned = sound.returned numbered;
    receiving = λ own. sound.receiving numbered own;
  }

-- What is known of the main hand with the rows of all lanes: of old it is when they are done, and of new after it took in their hands and a survey.
pub record HasTaken {M I O : Type 0} {g : _} (config : Config) (turns : Turns M (Part I O) Made (Unit {0})) (lanes : ℕ) (range : Option (ℕ × ℕ)) (gate : ℕ → Type 0)
    (old new : Hand M (Part I O) Made (Unit {0}) g) (beside : List (List Row)) (was is : Totals) : Type 0 where
  pub made : AreLanes config lanes range beside
  pub list_is : entries new ≡ entries old ++ all_of beside
  pub counted : CountsUp (made_by new)
  pub between : IsBetween config turns new
  pub history : board_of (made_by new) ≡ board_of (made_by old)
  pub gated : AreGated gate (made_by old) → AreGated gate (made_by new)
  pub totals : HasTotals (made_by old) was → HasTotals (made_by new) is

-- h0 is the main hand when the lanes are done, h1 after it took in theirs, and h2 after the survey; ys are their threads.
module _ {I O : Type 0} {gi : _} {go : _} {gm : _} (config : Config) (turns : Turns (Relay I O) (Part I O) Made (Unit {0})) (lanes : ℕ) (range : Option (ℕ × ℕ))
    (gate : ℕ → Type 0) (h0 h1 h2 : Hand (Relay I O) (Part I O) Made (Unit {0}) gm) (ys : List (MediaThread I O gi go gm)) (was is : Totals)
    (between : IsBetween config turns h0) (done : AreDone config turns lanes range gate (all_lanes ys))
    (of_table : IsHandOf turns h1) (idle : HasNoTurn h1) (starts_are : starts h1 ≡ starts h0) (main_is : (view h1).main ≡ (view h0).main)
    (long : length (all_lanes ys) ≡ lanes) (joins : JoinsInOrder ys h0 h1 was is)
    (surveyed : IsUnchanged h1 h2) (knows : KnowsAll h2) where
  abbrev beside : List (List Row)
  beside = rows_each joins.lanes

  done_in_order : AreDone config turns lanes range gate joins.lanes
  done_in_order = All-permutation (IsOneDone config turns lanes range gate) (all_lanes ys) joins.lanes joins.are done

  lane_rows_are : AreOfLane (all_of beside)
  lane_rows_are = all_of_lane config turns lanes range gate joins.lanes done_in_order

  taken_list : entries h2 ≡ entries h0 ++ all_of beside
  taken_list = ap (λ (v : View (Part I O) Made (Unit {0})). v.entries) surveyed.1 ∙ joins.list_is

  numbered : Numbered (made_by h1)
  numbered = subst (λ (v : View (Part I O) Made (Unit {0})). Numbered (list_of v.entries)) surveyed.1 (known_numbered (view h2) knows)

  taken_counted : CountsUp (made_by h2)
  taken_counted = known_counted (view h2) knows

  taken_between : IsBetween config turns h2
  taken_between =
      surveyed_between config turns h1 h2 surveyed
      (joined_between config turns h0 h1 between of_table main_is idle starts_are
      (subst (λ (rows : List Row). IsSound config rows) (sym joins.list_is)
      (all_sound config turns lanes range gate joins.lanes done_in_order (entries h0) (between_sound config turns h0 between)))
      numbered (lanes_whole config h0 h1 starts_are (all_of beside) joins.list_is lane_rows_are between.whole))

  taken_history : board_of (made_by h2) ≡ board_of (made_by h0)
  taken_history =
      ap (λ (rows : List Row). board_of (list_of rows)) taken_list ∙ lanes_board (entries h0) (all_of beside) (λ row i. lane_no_boards row.event.event (lane_rows_are row i))

  taken_gated : AreGated gate (made_by h0) → AreGated gate (made_by h2)
  taken_gated before = joined_gated gate config h0 h2 beside taken_list before (all_gated config turns lanes range gate joins.lanes done_in_order)

  taken_totals : HasTotals (made_by h0) was → HasTotals (made_by h2) is
  taken_totals before =
      subst (λ (rows : List Row). HasTotals (list_of rows) is) (sym taken_list) (all_totals config turns lanes range gate joins.lanes done_in_order (entries h0) was is joins.adds before)

  pub has_taken : HasTaken config turns lanes range gate h0 h2 (rows_each joins.lanes) was is
  has_taken = record {
    made = all_made config turns lanes range gate joins.lanes done_in_order joins.in_order (length_permutation (all_lanes ys) joins.lanes joins.are ∙ long);
    list_is = taken_list;
    counted = taken_counted;
    between = taken_between;
    history = taken_history;
    gated = taken_gated;
    totals = taken_totals;
  }
