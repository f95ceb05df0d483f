use Rattle.std.proofs.Common.{sym, subst, ◌∙◌, ℕ, List}
use Rattle.turn_table.specs.Hands.{taken_of}
use Rattle.call_cell.specs.LegHistories.{receipt_of}
use Rattle.media_lane.specs.Rooms.{front_in, last_in}
use Rattle.media_lane.specs.Relays.{RelaysPart}
use Rattle.media_lane.proofs.Relays.{relates}
use Rattle.media_lane.proofs.relay.relay_in_turn.Goals as goal

pub put_relay-requires-clause-step : goal.put_relay-requires-clause-step
put_relay-requires-clause-step g c =
    relates g.I.InEnd.log g.I.InEnd.faults g.O.OutEnd.log g.O.OutEnd.faults (receipt_of c.args.take c.args.packet.now g.A.Arrived.bytes) c.args.now (last_in c.relay_in-outcome.new.self)
    c.relay_in-outcome.result (taken_of c.args.turn) c.relay_in-outcome.new.part
    (subst (λ (bytes : List ℕ). RelaysPart g.O.OutEnd.log g.O.OutEnd.faults (receipt_of c.args.take c.args.packet.now bytes) c.args.now (taken_of c.args.turn) (last_in c.relay_in-outcome.new.self)
    c.relay_in-outcome.result c.relay_in-outcome.new.part) (sym c.requires.arrived)
    (subst (λ x. RelaysPart g.O.OutEnd.log g.O.OutEnd.faults (receipt_of c.args.take c.args.packet.now (front_in c.args.rooms.now)) c.args.now x (last_in c.relay_in-outcome.new.self)
    c.relay_in-outcome.result c.relay_in-outcome.new.part) (c.state.ensures.value ∙ sym c.requires.untouched) c.relay_in-outcome.ensures.step))

pub returns-clause-step : goal.returns-clause-step
returns-clause-step g c = (
  c.relay_in-outcome.new.part,
  subst (λ x. RelaysPart g.O.OutEnd.log g.O.OutEnd.faults (receipt_of c.args.take c.args.packet.now (front_in c.args.rooms.now)) c.args.now x (last_in c.relay_in-outcome.new.self)
      c.relay_in-outcome.result c.relay_in-outcome.new.part) c.state.ensures.value c.relay_in-outcome.ensures.step,
)
