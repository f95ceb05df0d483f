use Rattle.std.proofs.Common.{sym, subst, List, ℕ}
use Rattle.port_pool.specs.Takes.{taken_within}
use Rattle.media_lane.specs.Lanes.{lane_config, lane_list}
use Rattle.media_lane.specs.Rooms.{front_in}
use Rattle.media_lane.specs.Takes.{IsShort, TellsOfTake}
use Rattle.media_lane.proofs.Taken.{has_receipt}
use Rattle.media_lane.proofs.lane.Lane.receive.Goals as goal

pub received-requires : goal.received-requires
received-requires g c = subst (λ (buf : List ℕ). IsShort (taken_within c.take-taken.result.given buf)) (sym c.front.ensures) c.take-taken.ensures.short

-- what the answer says, of the bytes in the room
tells : (g : _) (c : goal.After-received g)
    → TellsOfTake c.received.result c.args.pair c.take-taken.result.number c.args.half (taken_within c.take-taken.result.given (front_in c.take-taken.new.rooms))
tells g c = subst (λ (buf : List ℕ). TellsOfTake c.received.result c.args.pair c.take-taken.result.number c.args.half (taken_within c.take-taken.result.given buf)) c.front.ensures c.received.ensures

pub returns-clause-received : goal.returns-clause-received
returns-clause-received g c = c.take-taken.ensures.taken c.received.result (tells g c)

pub returns-clause-receipt : goal.returns-clause-receipt
returns-clause-receipt g c =
    has_receipt (lane_config c.args.self.now) (lane_list c.take-taken.new.self) c.args.pair c.take-taken.result.number c.args.half (taken_within c.take-taken.result.given (front_in c.take-taken.new.rooms))
    c.take-taken.ensures.receipt c.received.result (tells g c)
