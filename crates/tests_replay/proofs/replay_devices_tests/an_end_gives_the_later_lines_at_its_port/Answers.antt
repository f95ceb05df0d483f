use Rattle.replay_devices.proofs.Opened.{first_open}
use Rattle.tests_replay.proofs.replay_devices_tests.an_end_gives_the_later_lines_at_its_port.Goals as goal

pub open-requires : goal.open-requires
open-requires g c = first_open _ _ c.maker_at_the_third-maker.ensures
