use Rattle.std.proofs.Common.{◌∙◌, sym, subst, arith}
use Rattle.turn_table.specs.Hands.{taken_of}
use Rattle.relay_core.specs.PlaceHistories.{IsCellPart}
use Rattle.media_lane.specs.Relays.{RelaysPart}
use Rattle.tests_media.specs.declared.media_lane_tests.TheConstants.{CONFIG}
use Rattle.media_lane.proofs.Places.{gives_cell}
use Rattle.media_lane.proofs.Relays.{relates}
use Rattle.tests_media.proofs.media_lane_tests.beside.relay_beside.Goals as goal

pub relay_in-outcome-requires-clause-cell : goal.relay_in-outcome-requires-clause-cell
relay_in-outcome-requires-clause-cell g c =
    subst IsCellPart (sym c.state.ensures.value)
    (gives_cell g.I.InEnd.log g.I.InEnd.faults g.O.OutEnd.log g.O.OutEnd.faults CONFIG _ _ _ _ c.requires.begins (omega arith) (omega arith) c.turn-turn.ensures.turn.1)

pub put_relay-requires-clause-step : goal.put_relay-requires-clause-step
put_relay-requires-clause-step g c =
    relates g.I.InEnd.log g.I.InEnd.faults g.O.OutEnd.log g.O.OutEnd.faults _ 3 c.relay_in-outcome.new.buf c.relay_in-outcome.result
    (taken_of c.turn-turn.result) c.relay_in-outcome.new.part
    (subst (λ x. RelaysPart g.O.OutEnd.log g.O.OutEnd.faults (record { take = 9; half = _; source = _; bytes = _; holder = _ }) 3 x c.relay_in-outcome.new.buf c.relay_in-outcome.result c.relay_in-outcome.new.part)
    (c.state.ensures.value ∙ sym c.turn-turn.ensures.turn.0.1) c.relay_in-outcome.ensures)
