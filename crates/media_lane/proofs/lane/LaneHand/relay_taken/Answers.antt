use Rattle.std.proofs.Common.{◌≡◌, refl, ◌++◌, ◌∷◌, []}
use Rattle.turn_table.specs.Hands.{entries, front_of, state_of}
use Rattle.turn_table.specs.Steps.{entry}
use Rattle.call_cell.specs.LegHistories.{receipt_of}
use Rattle.media_lane.specs.Rooms.{front_in, last_in}
use Rattle.media_lane.specs.Relays.{relay_by}
use Rattle.media_lane.proofs.Places.{gives_cell}
use Rattle.media_lane.proofs.Above.{list_gained, tried_still}
use Rattle.media_lane.proofs.Relays.{relays_by, keeps}
use Rattle.media_lane.proofs.Gates.{gains_relay}
use Rattle.media_lane.proofs.lane.LaneHand.relay_taken.Goals as goal

pub relay_in_turn-requires-clause-at_cell : goal.relay_in_turn-requires-clause-at_cell
relay_in_turn-requires-clause-at_cell g c =
    gives_cell g.I.InEnd.log g.I.InEnd.faults g.O.OutEnd.log g.O.OutEnd.faults c.args.self.now.config _ _ _ _ c.args.self.now.begins
    c.requires.receipt.1.for_cell.0 c.requires.receipt.1.for_cell.1 c.turn-turn.ensures.turn.1

gained : (g : _) (c : goal.After-self-1 g)
    → entries c.relay_in_turn.new.hand ≡ entries c.args.self.now.hand
    ++ entry c.args.packet.now.holder.cell (front_of c.turn-turn.result)
    (relay_by (state_of c.turn-turn.result) (receipt_of c.args.take c.args.packet.now (front_in c.args.rooms.now)) c.args.now c.relay_in_turn.result) (tt {0}) ∷ []
gained g c = list_gained c.args.self.now.hand c.turn-turn.new.hand c.relay_in_turn.new.hand _ _ _ _ _ c.relay_in_turn.ensures.entry.0 c.turn-turn.ensures.same.1 c.turn-turn.ensures.turn.0.0 refl

pub returns-clause-relayed : goal.returns-clause-relayed
returns-clause-relayed g c =
    relays_by g.I.InEnd.log g.I.InEnd.faults g.O.OutEnd.log g.O.OutEnd.faults (receipt_of c.args.take c.args.packet.now (front_in c.args.rooms.now)) c.args.now c.relay_in_turn.result
    c.args.self.now.hand c.relay_in_turn.new.hand (front_of c.turn-turn.result) (last_in c.relay_in_turn.new.rooms) _ _
    (tried_still _ c.args.self.now.hand c.turn-turn.new.hand c.relay_in_turn.new.hand c.turn-turn.ensures.tried c.relay_in_turn.ensures.tried)
    c.relay_in_turn.ensures.sent (state_of c.turn-turn.result) _ c.turn-turn.ensures.turn.1 c.relay_in_turn.ensures.step.1 (gained g c)

pub returns-clause-list : goal.returns-clause-list
returns-clause-list g c =
    keeps g.I.InEnd.log g.I.InEnd.faults g.O.OutEnd.log g.O.OutEnd.faults c.args.self.now.config c.requires.receipt.0 (receipt_of c.args.take c.args.packet.now (front_in c.args.rooms.now)) c.args.now
    c.relay_in_turn.result c.args.self.now.hand c.relay_in_turn.new.hand (front_of c.turn-turn.result) (state_of c.turn-turn.result) c.requires.receipt.1 c.turn-turn.ensures.turn.1 (gained g c)

pub returns-clause-gated : goal.returns-clause-gated
returns-clause-gated g c =
    gains_relay (g.G.Gate.passed c.args.gate.now) c.args.self.now.hand c.relay_in_turn.new.hand (receipt_of c.args.take c.args.packet.now (front_in c.args.rooms.now))
    (front_of c.turn-turn.result) c.args.now _ c.relay_in_turn.result (gained g c) c.inside.ensures
