use Rattle.media_lane.proofs.LaneLists.{nothing_lane, more_lane}
use Rattle.media_lane.proofs.laws.lists_of_lanes_stay.Goals as goal

pub returns-clause-nothing : goal.returns-clause-nothing
returns-clause-nothing c = nothing_lane

pub returns-clause-more : goal.returns-clause-more
returns-clause-more c = more_lane
