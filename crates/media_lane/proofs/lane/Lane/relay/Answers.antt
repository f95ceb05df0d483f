use Rattle.std.proofs.Common.{sym, subst, arith}
use Rattle.call_cell.specs.Cells.{Receipt}
use Rattle.media_lane.specs.Lanes.{lane_config, hand_in, hand_of, list_of_lane, pair_of}
use Rattle.media_lane.specs.Rooms.{front_in, sent_room}
use Rattle.media_lane.specs.Receipts.{IsReceiptOf}
use Rattle.media_lane.specs.Relays.{RelaysAtLast}
use Rattle.media_lane.proofs.Relays.{put_packet}
use Rattle.media_lane.proofs.lane.Lane.relay.Goals as goal

pub relay_taken-requires-clause-receipt : goal.relay_taken-requires-clause-receipt
relay_taken-requires-clause-receipt g c = (
  pair_of c.args.receipt,
  subst (λ (p : Receipt). IsReceiptOf (lane_config c.args.self.now) (list_of_lane c.args.self.now) (pair_of c.args.receipt) p) (sym
      (put_packet c.args.receipt.take c.args.receipt.packet c.args.receipt.bytes (front_in c.put.new.self) c.bytes.result.now c.bytes.ensures
      (let s = c.args.receipt.short in omega (arith, s)) c.put.ensures.front)) c.requires.receipt,
)

pub returns-clause-relayed : goal.returns-clause-relayed
returns-clause-relayed g c =
    subst (λ (p : Receipt). RelaysAtLast g.I.InEnd.log g.I.InEnd.faults g.O.OutEnd.log g.O.OutEnd.faults p c.args.now c.relay_taken.result (sent_room c.relay_taken.new.rooms) (hand_of c.args.self.now) (hand_in c.relay_taken.new.self))
    (put_packet c.args.receipt.take c.args.receipt.packet c.args.receipt.bytes (front_in c.put.new.self) c.bytes.result.now c.bytes.ensures
    (let s = c.args.receipt.short in omega (arith, s)) c.put.ensures.front) c.relay_taken.ensures.relayed
