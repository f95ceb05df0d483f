-- What contracts see in a lane and in a receipt.
use Rattle.std.specs.Prelude.{◌≡◌, ℕ, List}
use Rattle.relay_outside.specs.declared.settings.Config.{Config}
use Rattle.turn_table.specs.declared.hands.Hand.{Hand}
use Rattle.turn_table.specs.Hands.{IsSameHand}
use Rattle.call_cell.specs.Cells as cells
use Rattle.call_cell.specs.LegHistories as standing
use Rattle.relay_core.specs.declared.part.Part.{Part}
use Rattle.relay_core.specs.declared.machine.Relay.{Relay}
use Rattle.relay_core.specs.Records.{Made}
use Rattle.relay_core.specs.Entries.{Entry}
use Rattle.relay_core.specs.Turns.{made_by}
use Rattle.media_lane.specs.declared.receipt.Receipt.{Receipt}
use Rattle.media_lane.specs.declared.lane.LaneHand.{LaneHand}
use Rattle.media_lane.specs.declared.lane.Lane.{Lane}
use Rattle.media_lane.specs.Rooms.{sent_room}

-- the packet of a receipt: what was taken, by which take, and for which leg
abbrev pub packet_of : Receipt → cells.Receipt
packet_of r = standing.receipt_of r.take r.packet r.bytes

-- the pair whose box it was taken from
abbrev pub pair_of : Receipt → ℕ
pair_of r = r.pair

module _ {I O : Type 0} {gi : _} {go : _} {gm : _} where
  -- Of a lane's hand: the hand of the table, and its list as entries of the relay.

  abbrev pub hand_in : LaneHand I O gi go gm → Hand (Relay I O) (Part I O) Made (Unit {0}) gm
  hand_in lane = lane.hand

  abbrev pub lane_list : LaneHand I O gi go gm → List Entry
  lane_list lane = made_by lane.hand

  abbrev pub config_in : LaneHand I O gi go gm → Config
  config_in lane = lane.config

  -- the lane's number, and how many lanes there are
  abbrev pub index_in : LaneHand I O gi go gm → ℕ
  index_in lane = lane.index

  abbrev pub lanes_in : LaneHand I O gi go gm → ℕ
  lanes_in lane = lane.lanes

  -- the hand of the same lane of the same table
  pub record IsSameHandOf (old new : LaneHand I O gi go gm) : Type 0 where
    pub hand : IsSameHand (hand_in old) (hand_in new)
    pub config_is : config_in new ≡ config_in old
    pub index_is : index_in new ≡ index_in old
    pub lanes_is : lanes_in new ≡ lanes_in old

  -- The same of a lane, which has rooms of its own.

  abbrev pub hand_of : Lane I O gi go gm → Hand (Relay I O) (Part I O) Made (Unit {0}) gm
  hand_of lane = hand_in lane.own

  abbrev pub list_of_lane : Lane I O gi go gm → List Entry
  list_of_lane lane = lane_list lane.own

  abbrev pub lane_config : Lane I O gi go gm → Config
  lane_config lane = config_in lane.own

  abbrev pub index_of : Lane I O gi go gm → ℕ
  index_of lane = index_in lane.own

  abbrev pub lanes_of : Lane I O gi go gm → ℕ
  lanes_of lane = lanes_in lane.own

  -- the bytes that its last relay sent
  abbrev pub sent_last : Lane I O gi go gm → List ℕ
  sent_last lane = sent_room lane.rooms

  -- the same lane of the same table
  abbrev pub IsSameLane : (old new : Lane I O gi go gm) → Type 0
  IsSameLane old new = IsSameHandOf old.own new.own
