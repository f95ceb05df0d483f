use Rattle.std.proofs.Common.{sym, subst, arith}
use Rattle.media_lane.specs.Starts.{IsPairPart}
use Rattle.tests_media.specs.declared.media_lane_tests.TheConstants.{CONFIG}
use Rattle.media_lane.proofs.Places.{gives_box, is_pair}
use Rattle.tests_media.proofs.media_lane_tests.beside.receive_beside.Goals as goal

pub take_from-given-requires : goal.take_from-given-requires
take_from-given-requires g c =
    subst IsPairPart (sym c.state.ensures.value)
    (is_pair 1 _ (gives_box g.I.InEnd.log g.I.InEnd.faults g.O.OutEnd.log g.O.OutEnd.faults CONFIG _ _ _ _ c.requires.begins.0 (omega arith) c.turn-turn.ensures.turn.1))
