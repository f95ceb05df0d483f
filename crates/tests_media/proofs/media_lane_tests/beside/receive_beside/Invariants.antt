use Rattle.media_lane.specs.Takes.{box_take_made}
use Rattle.tests_media.proofs.media_lane_tests.beside.receive_beside.Given as goal

abbrev pub ghosts-put_take : goal.ghosts-put_take
ghosts-put_take g a = record { made = box_take_made a.half a.given.now a.buf.now }
