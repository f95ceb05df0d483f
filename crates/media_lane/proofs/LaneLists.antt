-- The lists of lanes' hands, call after call.
use Rattle.std.proofs.Common.{◌≡◌, sym, subst, ◌⊎◌, inl, inr, List, [], ◌++◌}
use Rattle.std.proofs.lemmas.List.{map-append}
use Rattle.relay_outside.specs.declared.settings.Config.{Config}
use Rattle.turn_table.specs.Histories as table_lists
use Rattle.histories.specs.Words.{In}
use Rattle.histories.proofs.Lists.{in_left}
use Rattle.relay_core.specs.Entries.{Entry}
use Rattle.relay_core.specs.Joins.{TakesOwnPairs, IsLaneRows}
use Rattle.relay_core.specs.Records.{entry_of, list_of}
use Rattle.relay_core.specs.Turns.{IsOfLane}
use Rattle.relay_core.proofs.Joins.{row_append}
use Rattle.media_lane.specs.Receipts.{KeepsList}
use Rattle.media_lane.specs.Visits.{Row, AreOfLane}

pub nothing_lane : (config : Config) (rows : List Row) → rows ≡ [] → IsLaneRows config rows
nothing_lane config rows none = subst (λ (l : List Row). IsLaneRows config l) (sym none) (record {
  of_lane = λ row i. elim i [ ];
  receiving = λ own. record { received = λ e x i q. elim i [ ]; once = λ e f x y i j p q. elim i [ ] };
})

own_before : (config : Config) (old rows : List Row) → TakesOwnPairs config (list_of (old ++ rows)) → TakesOwnPairs config (list_of old)
own_before config old rows own e half leg source bytes i =
    own e half leg source bytes (subst (λ (l : List Entry). In e l) (sym (map-append entry_of old rows)) (in_left (list_of old) (list_of rows) i))

pub more_lane : (config : Config) (old rows new : List Row) → IsLaneRows config old → new ≡ old ++ rows → AreOfLane rows → KeepsList config (list_of old) (list_of new)
    → IsLaneRows config new
more_lane config old rows new lane is of_lane keeps = record {
  of_lane = λ row i. either row (row_append old rows (subst (λ (l : List Row). table_lists.IsMemberOf row l) is i));
  receiving = λ own. keeps.receiving own (lane.receiving (own_before config old rows (subst (λ (l : List Row). TakesOwnPairs config (list_of l)) is own)));
}
  where
    either : (row : Row) → table_lists.IsMemberOf row old ⊎ table_lists.IsMemberOf row rows → IsOfLane row.event.event
    either row (inl i) = lane.of_lane row i
    either row (inr i) = of_lane row i
