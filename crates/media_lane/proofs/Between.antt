-- What the steps of a lane by the main hand leave of what is known between the board's turns.
use Rattle.std.proofs.Common.{◌≡◌, ◌∙◌, sym, ap, subst, false, List, [], ◌∷◌, ◌++◌}
use Rattle.std.proofs.lemmas.List.{map-append}
use Rattle.relay_outside.specs.declared.settings.Config.{Config}
use Rattle.turn_table.specs.declared.machine.Entry as table
use Rattle.turn_table.specs.declared.hands.Turns.{Turns}
use Rattle.turn_table.specs.declared.hands.Hand.{Hand}
use Rattle.turn_table.specs.Histories as table_lists
use Rattle.turn_table.specs.Hands.{IsSameHand, HasNoTurn, entries}
use Rattle.histories.specs.Words.{In}
use Rattle.histories.proofs.Lists.{in_left}
use Rattle.relay_core.specs.declared.part.Part.{Part}
use Rattle.relay_core.specs.Entries.{Entry}
use Rattle.relay_core.specs.Records.{Made, entry_of, list_of}
use Rattle.relay_core.specs.FirstPlaces.{AreParts}
use Rattle.relay_core.specs.WholeParts.{AreWholeParts}
use Rattle.relay_core.specs.NestedMoments.{IsHanded}
use Rattle.relay_core.specs.Joins.{TakesOwnPairs}
use Rattle.relay_core.specs.ReturnedPairs.{AreReturned, is_boards}
use Rattle.relay_core.specs.Turns.{Numbered, IsOfLane, made_by}
use Rattle.relay_core.proofs.Joins.{handed_joined}
use Rattle.relay_core.proofs.KeptWhole.{lanes_whole}
use Rattle.relay_core.proofs.Recording.{lane_no_boards, returned_behind}
use Rattle.media_lane.specs.Receipts.{KeepsList}
use Rattle.board_turns.specs.Between.{board_of, IsBetween}
use Rattle.board_turns.proofs.MainHands.{history_stays}

-- the board's whole history is the same with rows after it that are none of its own
pub lanes_board : {T : Type 0} (rows others : List (table.Entry Made T)) → ((row : table.Entry Made T) → table_lists.IsMemberOf row others → is_boards row.event.event ≡ false)
    → board_of (list_of (rows ++ others)) ≡ board_of (list_of rows)
lanes_board rows others none = history_stays rows others none

module _ {M I O T : Type 0} {g : _} where
  -- these rows were added by a lane
  pub record StepsBy (config : Config) (old new : Hand M (Part I O) Made T g) (rows : List (table.Entry Made T)) : Type 0 where
    pub same : IsSameHand old new
    pub idle : HasNoTurn new
    pub list : KeepsList config (made_by old) (made_by new)
    pub rows_are : entries new ≡ entries old ++ rows
    pub of_lane : (row : table.Entry Made T) → table_lists.IsMemberOf row rows → IsOfLane row.event.event

  module _ (config : Config) (turns : Turns M (Part I O) Made T) (old new : Hand M (Part I O) Made T g) (rows : List (table.Entry Made T))
      (b : IsBetween config turns old) (s : StepsBy config old new rows) where
    pub list_is : made_by new ≡ made_by old ++ list_of rows
    list_is = ap (λ (xs : List (table.Entry Made T)). list_of xs) s.rows_are ∙ map-append entry_of (entries old) rows

    no_boards : (row : table.Entry Made T) → table_lists.IsMemberOf row rows → is_boards row.event.event ≡ false
    no_boards row i = lane_no_boards row.event.event (s.of_lane row i)

    pub in_longer : (e : Entry) → In e (made_by old) → In e (made_by new)
    in_longer e i = subst (λ (l : List Entry). In e l) (sym list_is) (in_left (made_by old) (list_of rows) i)

    own_before : TakesOwnPairs config (made_by new) → TakesOwnPairs config (made_by old)
    own_before own e half leg source bytes i q = own e half leg source bytes (in_longer e i) q

    -- all that is known of the main hand between the board's turns
    pub stepped_between : IsBetween config turns new
    stepped_between =
        let numbered = s.list.numbered b.numbered in record {
          of_table = s.same.0 ∙ b.of_table;
          main = s.same.3 ∙ b.main;
          idle = s.idle;
          parts = subst (λ (l : List (Part I O)). AreParts config l) (sym s.same.1) b.parts;
          whole_parts = subst (λ (l : List (Part I O)). AreWholeParts config l) (sym s.same.1) b.whole_parts;
          whole = lanes_whole config old new s.same.1 rows s.rows_are s.of_lane b.whole;
          numbered = numbered;
          orderly = s.list.orderly b.orderly;
          handed = subst (λ (xs : List (table.Entry Made T)). IsHanded xs) (sym s.rows_are)
              (handed_joined config (entries old) rows b.orderly s.of_lane (subst Numbered list_is numbered) b.handed);
          returned = subst (λ (xs : List (table.Entry Made T)). AreReturned config xs) (sym s.rows_are) (returned_behind config (entries old) rows s.of_lane b.returned);
          receiving = λ own. s.list.receiving own (b.receiving (own_before own));
        }

    -- and the board's whole history
    pub stepped_board : board_of (made_by new) ≡ board_of (made_by old)
    stepped_board = ap (λ (xs : List (table.Entry Made T)). board_of (list_of xs)) s.rows_are ∙ lanes_board (entries old) rows no_boards

-- A lane on the main hand.

module _ {M I O T : Type 0} {g : _} where
  pub steps_at : (config config' : Config) (old first last new : Hand M (Part I O) Made T g) (rows : List (table.Entry Made T)) → first ≡ old → new ≡ last
      → config' ≡ config → IsSameHand first last → HasNoTurn new → KeepsList config' (made_by first) (made_by last) → entries last ≡ entries first ++ rows
      → ((row : table.Entry Made T) → table_lists.IsMemberOf row rows → IsOfLane row.event.event) → StepsBy config old new rows
  steps_at config config' old first last new rows begins ends config_is same idle list rows_are lanes = record {
    same = subst (λ h. IsSameHand h new) begins (subst (λ h. IsSameHand first h) (sym ends) same);
    idle = idle;
    list = subst (λ h. KeepsList config (made_by h) (made_by new)) begins
        (subst (λ h. KeepsList config (made_by first) (made_by h)) (sym ends) (subst (λ k. KeepsList k (made_by first) (made_by last)) config_is list));
    rows_are = subst (λ h. entries new ≡ entries h ++ rows) begins (subst (λ h. entries h ≡ entries first ++ rows) (sym ends) rows_are);
    of_lane = lanes;
  }

-- one row
pub one_row : {A : Type 0} (P : A → Type 0) (row : A) → P row → (x : A) → table_lists.IsMemberOf x (row ∷ []) → P x
one_row P row p x (table_lists.here q) = subst P (sym q) p
one_row P row p x (table_lists.there i) = elim i [ ]
