-- What a sweep adds to the list of its hand.
use Rattle.std.specs.Prelude.{◌≡◌, ℕ, List, [], ◌∷◌, ◌++◌, Option}
use Rattle.relay_outside.specs.declared.settings.Config.{Config}
use Rattle.rtp_packet.specs.declared.head.Half.{Half}
use Rattle.turn_table.specs.declared.hands.Hand.{Hand}
use Rattle.turn_table.specs.Hands.{entries}
use Rattle.relay_core.specs.Records.{Made}
use Rattle.media_lane.specs.declared.answers.Totals.{Totals}
use Rattle.media_lane.specs.Visits.{Visit, rows_of, all_rows, IsPassed, packet_at, ArePassed, visit_times, is_own, one_where, AreTotals}

module _ {M S : Type 0} {g : _} where
  -- a half of a pair was visited once
  pub record VisitsOnce (config : Config) (range : Option (ℕ × ℕ)) (pair : ℕ) (half : Half) (old new : Hand M S Made (Unit {0}) g) (before after : Totals) : Type 0 where
    pub visit : Visit
    pub pair_is : visit.pair ≡ pair
    pub half_is : visit.half ≡ half
    pub list_is : entries new ≡ entries old ++ rows_of config visit
    pub passed : IsPassed range (packet_at visit) visit.passing
    pub counted : (visits : List Visit) → AreTotals visits before → AreTotals (visits ++ visit ∷ []) after

  -- Each half of each of the lane's own pairs was visited once, in any order, and nothing else was done. The totals are the
  -- counts over what was added.
  pub record Sweeps (config : Config) (index lanes : ℕ) (range : Option (ℕ × ℕ)) (old new : Hand M S Made (Unit {0}) g) (totals : Totals) : Type 0 where
    pub visits : List Visit
    pub list_is : entries new ≡ entries old ++ all_rows config visits
    pub passed : ArePassed range visits
    pub own_once : (pair : ℕ) (half : Half) → visit_times pair half visits ≡ one_where (is_own config index lanes pair)
    pub totals_are : AreTotals visits totals
