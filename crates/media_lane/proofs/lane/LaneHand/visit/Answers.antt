use Rattle.std.proofs.Common.{sym, subst, ℕ, List, [], ◌∷◌}
use Rattle.turn_table.specs.Steps.{entry}
use Rattle.port_pool.specs.Takes.{taken_within}
use Rattle.call_cell.specs.LegHistories.{receipt_of}
use Rattle.relay_core.specs.Entries.{box_of}
use Rattle.relay_core.specs.Records.{entry_of}
use Rattle.media_lane.specs.Lanes.{config_in, hand_in, lane_list}
use Rattle.media_lane.specs.Rooms.{front_in}
use Rattle.media_lane.specs.Receipts.{IsReceiptOf, KeepsList}
use Rattle.media_lane.specs.Takes.{IsShort}
use Rattle.media_lane.specs.Relays.{relay_made}
use Rattle.media_lane.proofs.Above.{made_more}
use Rattle.media_lane.proofs.Gates.{gains_both, gains_take}
use Rattle.media_lane.proofs.Visiting.{keeps_both, packet_taken, nothing_taken, visits_nothing, visits_packet}
use Rattle.media_lane.proofs.lane.LaneHand.visit.Goals as goal

pub packet_in-requires : goal.packet_in-requires
packet_in-requires g c = subst (λ (buf : List ℕ). IsShort (taken_within c.take-take.result.given buf)) (sym c.front.ensures) c.take-take.ensures.short

pub relay_taken-outcome-requires-clause-receipt : goal.relay_taken-outcome-requires-clause-receipt
relay_taken-outcome-requires-clause-receipt g c = (
  c.args.pair,
  subst (λ x. IsReceiptOf x (lane_list c.take-take.new.self) c.args.pair (receipt_of c.take-take.result.number c.in-Some.packet (front_in c.take-take.new.rooms))) (sym c.take-take.ensures.same.config_is)
      (c.take-take.ensures.receipt (receipt_of c.take-take.result.number c.in-Some.packet (front_in c.take-take.new.rooms)) (packet_taken c.take-take.result.number c.args.half c.take-take.result.given c.in-Some.packet c.front.result.now (front_in c.take-take.new.rooms) c.front.ensures (c.in-Some.ensures.packet c.take-take.result.number))),
)

pub returns-in-Some-clause-visited : goal.returns-in-Some-clause-visited
returns-in-Some-clause-visited g c =
    let made = c.relay_taken-outcome.ensures.relayed in
    visits_packet (config_in c.args.self.now) (g.C.Clock.range c.args.media.now.clock.now) c.args.pair c.args.half (hand_in c.args.self.now) (hand_in c.take-take.new.self) (hand_in c.relay_taken-outcome.new.self)
    c.take-take.result.number (taken_within c.take-take.result.given (front_in c.take-take.new.rooms)) (receipt_of c.take-take.result.number c.in-Some.packet (front_in c.take-take.new.rooms)) c.now-now.result
    c.relay_taken-outcome.result c.args.totals.now c.count.new.self made.number made.moment (packet_taken c.take-take.result.number c.args.half c.take-take.result.given c.in-Some.packet c.front.result.now (front_in c.take-take.new.rooms) c.front.ensures (c.in-Some.ensures.packet c.take-take.result.number))
    c.take-take.ensures.entry made.list_is c.now-now.ensures c.count.ensures

pub returns-in-Some-clause-list : goal.returns-in-Some-clause-list
returns-in-Some-clause-list g c =
    let made = c.relay_taken-outcome.ensures.relayed in
    let row = entry c.in-Some.packet.holder.cell made.number
    (relay_made (receipt_of c.take-take.result.number c.in-Some.packet (front_in c.take-take.new.rooms)) c.now-now.result made.moment c.relay_taken-outcome.result) (tt {0}) in
    keeps_both (config_in c.args.self.now) (lane_list c.args.self.now) (lane_list c.take-take.new.self) (lane_list c.relay_taken-outcome.new.self) (entry_of row ∷ [])
    (made_more (hand_in c.take-take.new.self) (hand_in c.relay_taken-outcome.new.self) row made.list_is) c.take-take.ensures.list
    (subst (λ x. KeepsList x (lane_list c.take-take.new.self) (lane_list c.relay_taken-outcome.new.self)) c.take-take.ensures.same.config_is c.relay_taken-outcome.ensures.list)

pub returns-in-Some-clause-gated : goal.returns-in-Some-clause-gated
returns-in-Some-clause-gated g c =
    gains_both (g.G.Gate.passed c.args.media.now.gate.now) (lane_list c.args.self.now) (lane_list c.take-take.new.self) (lane_list c.relay_taken-outcome.new.self)
    (gains_take (g.G.Gate.passed c.args.media.now.gate.now) (hand_in c.args.self.now) (hand_in c.take-take.new.self) (box_of (config_in c.args.self.now) c.args.pair) c.take-take.result.number c.args.half
    (taken_within c.take-take.result.given (front_in c.take-take.new.rooms)) c.take-take.ensures.entry)
    c.relay_taken-outcome.ensures.gated

pub returns-in_default : goal.returns-in_default
returns-in_default g c = record {
  same = c.take-take.ensures.same;
  visited = visits_nothing (config_in c.args.self.now) (g.C.Clock.range c.args.media.now.clock.now) c.args.pair c.args.half (hand_in c.args.self.now) (hand_in c.args.self.now) (hand_in c.take-take.new.self)
      c.take-take.result.number (taken_within c.take-take.result.given (front_in c.take-take.new.rooms)) c.args.totals.now (nothing_taken c.take-take.result.number c.args.half c.take-take.result.given c.front.result.now (front_in c.take-take.new.rooms) c.front.ensures (c.in_default.ensures.packet c.take-take.result.number)) c.take-take.ensures.entry;
  list = c.take-take.ensures.list;
  gated = gains_take (g.G.Gate.passed c.args.media.now.gate.now) (hand_in c.args.self.now) (hand_in c.take-take.new.self) (box_of (config_in c.args.self.now) c.args.pair) c.take-take.result.number c.args.half
      (taken_within c.take-take.result.given (front_in c.take-take.new.rooms)) c.take-take.ensures.entry;
}
