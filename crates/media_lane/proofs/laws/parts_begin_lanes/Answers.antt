use Rattle.media_lane.proofs.Places.{parts_begin}
use Rattle.media_lane.proofs.laws.parts_begin_lanes.Goals as goal

pub returns : goal.returns
returns g c = parts_begin
