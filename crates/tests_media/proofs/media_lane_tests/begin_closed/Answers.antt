use Rattle.std.proofs.Common.{sym, subst, rules}
use Rattle.media_lane.specs.Starts.{HasLaneStarts}
use Rattle.tests_media.specs.declared.media_lane_tests.TheConstants.{CONFIG}
use Rattle.media_lane.proofs.Places.{parts_begin}
use Rattle.tests_media.proofs.media_lane_tests.begin_closed.Goals as goal

pub returns : goal.returns
returns c = (
  search rules,
  search rules,
  search rules,
  subst (HasLaneStarts CONFIG) (sym c.in_ok-start.ensures.1.0) (parts_begin CONFIG c.in_ok-states.states.items c.in_ok-states.ensures.begins),
)
