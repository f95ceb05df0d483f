-- How far a sweep has come, between two states of its lane's hand.
use Rattle.std.specs.Prelude.{◌≡◌, ℕ, ◌&&◌, nat_lt, List, ◌++◌, Option}
use Rattle.rtp_packet.specs.declared.head.Half.{Half}
use Rattle.turn_table.specs.Hands.{entries}
use Rattle.media_lane.specs.declared.answers.Totals.{Totals}
use Rattle.media_lane.specs.declared.lane.LaneHand.{LaneHand}
use Rattle.media_lane.specs.Lanes.{hand_in, lane_list, config_in, index_in, lanes_in, IsSameHandOf}
use Rattle.media_lane.specs.Receipts.{KeepsList}
use Rattle.media_lane.specs.Gates.{GainsGated}
use Rattle.media_lane.specs.Visits.{Visit, all_rows, ArePassed, visit_times, is_own, one_where, AreTotals}

module _ {I O : Type 0} {gi : _} {go : _} {gm : _} where
  -- Each half of each of the lane's own pairs below this one was visited once, and nothing else was done. The gate was passed at the cell of
  -- each relay. The totals went up by what came of the visits.
  pub record Covers (range : Option (ℕ × ℕ)) (gate : ℕ → Type 0) (upto : ℕ) (old new : LaneHand I O gi go gm) (before after : Totals) : Type 0 where
    pub same : IsSameHandOf old new
    pub keeps : KeepsList (config_in old) (lane_list old) (lane_list new)
    pub visits : List Visit
    pub list_is : entries (hand_in new) ≡ entries (hand_in old) ++ all_rows (config_in old) visits
    pub passed : ArePassed range visits
    pub gated : GainsGated gate (lane_list old) (lane_list new)
    pub own_once : (pair : ℕ) (half : Half) → visit_times pair half visits ≡ one_where (nat_lt pair upto && is_own (config_in old) (index_in old) (lanes_in old) pair)
    pub counted : (earlier : List Visit) → AreTotals earlier before → AreTotals (earlier ++ visits) after
