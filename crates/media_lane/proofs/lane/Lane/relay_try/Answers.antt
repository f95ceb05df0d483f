use Rattle.std.proofs.Common.{◌≡◌, refl, ap, subst, ◌∙◌, arith, ◌++◌, ◌∷◌, []}
use Rattle.turn_table.specs.Hands.{entries, front_of, state_of}
use Rattle.turn_table.specs.Steps.{entry}
use Rattle.call_cell.specs.Cells.{Receipt}
use Rattle.call_cell.specs.LegHistories.{receipt_of}
use Rattle.media_lane.specs.Lanes.{packet_of, pair_of}
use Rattle.media_lane.specs.Rooms.{front_in, last_in}
use Rattle.media_lane.specs.Relays.{relay_by, RelaysPart}
use Rattle.media_lane.proofs.Places.{gives_cell}
use Rattle.media_lane.proofs.Above.{list_gained}
use Rattle.media_lane.proofs.Relays.{put_packet, relays_by, keeps}
use Rattle.media_lane.proofs.Gates.{gains_relay}
use Rattle.media_lane.proofs.lane.Lane.relay_try.Goals as goal

pub relay_in_turn-requires-clause-at_cell : goal.relay_in_turn-requires-clause-at_cell
relay_in_turn-requires-clause-at_cell g c =
    gives_cell g.I.InEnd.log g.I.InEnd.faults g.O.OutEnd.log g.O.OutEnd.faults c.args.self.now.own.config _ _ _ _ c.args.self.now.own.begins
    c.requires.receipt.for_cell.0 c.requires.receipt.for_cell.1 c.in-Ok.ensures.turn.1

-- the packet in the room is that of the receipt
is_put : (g : _) (c : goal.After-own-2-1 g) → receipt_of c.args.receipt.take c.args.receipt.packet (front_in c.put.new.self) ≡ packet_of c.args.receipt
is_put g c =
    put_packet c.args.receipt.take c.args.receipt.packet c.args.receipt.bytes (front_in c.put.new.self) c.bytes.result.now c.bytes.ensures
    (let s = c.args.receipt.short in omega (arith, s)) c.put.ensures.front

gained : (g : _) (c : goal.After-own-2-1 g)
    → entries c.relay_in_turn.new.hand ≡ entries c.args.self.now.own.hand
    ++ entry (packet_of c.args.receipt).holder.cell (front_of c.in-Ok.turn) (relay_by (state_of c.in-Ok.turn) (packet_of c.args.receipt) c.args.now c.relay_in_turn.result) (tt {0}) ∷ []
gained g c =
    list_gained c.args.self.now.own.hand c.try_turn.new.hand c.relay_in_turn.new.hand _ _ _ _ _ c.relay_in_turn.ensures.entry.0 c.in-Ok.ensures.same.1 c.in-Ok.ensures.turn.0.0 refl
    ∙ ap (λ (p : Receipt). entries c.args.self.now.own.hand
    ++ entry (packet_of c.args.receipt).holder.cell (front_of c.in-Ok.turn) (relay_by (state_of c.in-Ok.turn) p c.args.now c.relay_in_turn.result) (tt {0}) ∷ []) (is_put g c)

pub returns-clause-relayed : goal.returns-clause-relayed
returns-clause-relayed g c =
    relays_by g.I.InEnd.log g.I.InEnd.faults g.O.OutEnd.log g.O.OutEnd.faults (packet_of c.args.receipt) c.args.now c.relay_in_turn.result
    c.args.self.now.own.hand c.relay_in_turn.new.hand (front_of c.in-Ok.turn) (last_in c.relay_in_turn.new.rooms) _ _ (c.relay_in_turn.ensures.tried ∙ c.in-Ok.ensures.tried.0)
    c.relay_in_turn.ensures.sent (state_of c.in-Ok.turn) _ c.in-Ok.ensures.turn.1
    (subst (λ (p : Receipt). RelaysPart g.O.OutEnd.log g.O.OutEnd.faults p c.args.now (state_of c.in-Ok.turn) (last_in c.relay_in_turn.new.rooms) c.relay_in_turn.result c.relay_in_turn.ensures.step.0) (is_put g c)
    c.relay_in_turn.ensures.step.1) (gained g c)

pub returns-clause-list : goal.returns-clause-list
returns-clause-list g c =
    keeps g.I.InEnd.log g.I.InEnd.faults g.O.OutEnd.log g.O.OutEnd.faults c.args.self.now.own.config (pair_of c.args.receipt) (packet_of c.args.receipt) c.args.now c.relay_in_turn.result
    c.args.self.now.own.hand c.relay_in_turn.new.hand (front_of c.in-Ok.turn) (state_of c.in-Ok.turn) c.requires.receipt c.in-Ok.ensures.turn.1 (gained g c)

pub returns-clause-gated : goal.returns-clause-gated
returns-clause-gated g c =
    gains_relay (g.G.Gate.passed c.args.gate.now) c.args.self.now.own.hand c.relay_in_turn.new.hand (packet_of c.args.receipt) (front_of c.in-Ok.turn) c.args.now _
    c.relay_in_turn.result (gained g c) c.inside.ensures
