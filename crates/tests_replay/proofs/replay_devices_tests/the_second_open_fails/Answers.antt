use Rattle.replay_devices.proofs.Opened.{first_open, closed}
use Rattle.tests_replay.proofs.replay_devices_tests.the_second_open_fails.Goals as goal

pub open-requires : goal.open-requires
open-requires g c = first_open _ _ c.maker_at_the_third-maker.ensures

pub open-requires-2 : goal.open-requires-2
open-requires-2 g c = closed _ _ _ _ _ c.close.ensures.log
