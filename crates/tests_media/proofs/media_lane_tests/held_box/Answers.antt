use Rattle.std.proofs.Common.{[], ◌∙◌}
use Rattle.media_lane.proofs.Places.{has_cells}
use Rattle.tests_media.proofs.media_lane_tests.held_box.Goals as goal

pub returns : goal.returns
returns c = has_cells 1 c.put_in.new.self _ (c.put_in.ensures.history [] c.empty-held.ensures.history).1 (c.put_in.ensures.cells ∙ c.empty-held.ensures.cells)
