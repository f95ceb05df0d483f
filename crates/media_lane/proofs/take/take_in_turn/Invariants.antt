use Rattle.media_lane.specs.Rooms.{front_in}
use Rattle.media_lane.specs.Takes.{box_take_made}
use Rattle.media_lane.proofs.take.take_in_turn.Given as goal

abbrev pub ghosts-put_take : goal.ghosts-put_take
ghosts-put_take g a = record { made = box_take_made a.half a.given.now (front_in a.rooms.now) }
