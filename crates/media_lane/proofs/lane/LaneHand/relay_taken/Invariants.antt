use Rattle.media_lane.specs.Rooms.{front_in}
use Rattle.media_lane.proofs.lane.LaneHand.relay_taken.Given as goal

abbrev pub ghosts-relay_in_turn : goal.ghosts-relay_in_turn
ghosts-relay_in_turn g a = record { bytes = front_in a.rooms.now }
