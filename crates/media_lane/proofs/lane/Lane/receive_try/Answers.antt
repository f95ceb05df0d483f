use Rattle.std.proofs.Common.{◌≡◌, sym, subst, ◌∙◌, arith, ℕ, List, ◌++◌, ◌∷◌, []}
use Rattle.turn_table.specs.Hands.{entries, state_of}
use Rattle.turn_table.specs.Steps.{entry}
use Rattle.port_pool.specs.Takes.{taken_within}
use Rattle.relay_core.specs.Entries.{box_of}
use Rattle.media_lane.specs.Busy.{Gives}
use Rattle.media_lane.specs.Rooms.{front_in}
use Rattle.media_lane.specs.Takes.{box_take_made, IsShort, TellsOfTake}
use Rattle.media_lane.proofs.Places.{gives_box, is_pair}
use Rattle.media_lane.proofs.Above.{list_gained}
use Rattle.media_lane.proofs.Taken.{took_short, receives, keeps, packet_receipt, has_receipt}
use Rattle.media_lane.proofs.lane.Lane.receive_try.Goals as goal

pub take_in_turn-take-requires-clause-at_box : goal.take_in_turn-take-requires-clause-at_box
take_in_turn-take-requires-clause-at_box g c =
    is_pair c.args.self.now.own.config.max_sessions _
    (gives_box g.I.InEnd.log g.I.InEnd.faults g.O.OutEnd.log g.O.OutEnd.faults c.args.self.now.own.config _ _ _ _ c.args.self.now.own.begins (omega arith) c.in-Ok.ensures.turn.1)

pub received-requires : goal.received-requires
received-requires g c =
    subst (λ (buf : List ℕ). IsShort (taken_within c.take_in_turn-take.result.given buf)) (sym c.front.ensures)
    (took_short g.I.InEnd.log g.I.InEnd.faults g.O.OutEnd.log g.O.OutEnd.faults c.args.self.now.own.config.max_sessions c.args.half _ _ _
    (gives_box g.I.InEnd.log g.I.InEnd.faults g.O.OutEnd.log g.O.OutEnd.faults c.args.self.now.own.config _ _ _ _ c.args.self.now.own.begins (omega arith) c.in-Ok.ensures.turn.1)
    c.take_in_turn-take.ensures.step.1)

-- what the answer says, of the bytes in the room
tells : (g : _) (c : goal.After-received g)
    → TellsOfTake c.received.result c.args.pair c.take_in_turn-take.result.number c.args.half (taken_within c.take_in_turn-take.result.given (front_in c.take_in_turn-take.new.rooms))
tells g c =
    subst (λ (buf : List ℕ). TellsOfTake c.received.result c.args.pair c.take_in_turn-take.result.number c.args.half (taken_within c.take_in_turn-take.result.given buf)) c.front.ensures c.received.ensures

-- the state of the turn is what the place's history leaves, and the hand's list gained the take
given : (g : _) (c : goal.After-received g)
    → Gives g.I.InEnd.log g.I.InEnd.faults g.O.OutEnd.log g.O.OutEnd.faults c.args.self.now.own.hand (box_of c.args.self.now.own.config c.args.pair) c.take_in_turn-take.result.number (state_of c.in-Ok.turn)
given g c =
    subst (λ (n : ℕ). Gives g.I.InEnd.log g.I.InEnd.faults g.O.OutEnd.log g.O.OutEnd.faults c.args.self.now.own.hand (box_of c.args.self.now.own.config c.args.pair) n (state_of c.in-Ok.turn))
    (sym c.take_in_turn-take.ensures.number) c.in-Ok.ensures.turn.1

gained : (g : _) (c : goal.After-received g)
    → entries c.take_in_turn-take.new.hand ≡ entries c.args.self.now.own.hand
    ++ entry (box_of c.args.self.now.own.config c.args.pair) c.take_in_turn-take.result.number (box_take_made c.args.half c.take_in_turn-take.result.given (front_in c.take_in_turn-take.new.rooms)) (tt {0}) ∷ []
gained g c = list_gained c.args.self.now.own.hand c.try_turn.new.hand c.take_in_turn-take.new.hand _ _ _ _ _ c.take_in_turn-take.ensures.entry.0 c.in-Ok.ensures.same.1 c.in-Ok.ensures.turn.0.0
    c.take_in_turn-take.ensures.number

pub returns-clause-received : goal.returns-clause-received
returns-clause-received g c =
    receives g.I.InEnd.log g.I.InEnd.faults g.O.OutEnd.log g.O.OutEnd.faults c.args.self.now.own.config c.args.pair c.args.half c.args.self.now.own.hand c.take_in_turn-take.new.hand
    c.take_in_turn-take.result.number (taken_within c.take_in_turn-take.result.given (front_in c.take_in_turn-take.new.rooms)) (state_of c.in-Ok.turn) _ c.args.self.now.own.begins (given g c)
    c.take_in_turn-take.ensures.step.1 (gained g c) (c.take_in_turn-take.ensures.tried ∙ c.in-Ok.ensures.tried.0) c.received.result (tells g c)

pub returns-clause-receipt : goal.returns-clause-receipt
returns-clause-receipt g c =
    has_receipt c.args.self.now.own.config _ c.args.pair c.take_in_turn-take.result.number c.args.half (taken_within c.take_in_turn-take.result.given (front_in c.take_in_turn-take.new.rooms))
    (packet_receipt g.I.InEnd.log g.I.InEnd.faults g.O.OutEnd.log g.O.OutEnd.faults c.args.self.now.own.config c.args.pair c.args.half c.args.self.now.own.hand c.take_in_turn-take.new.hand
    c.take_in_turn-take.result.number (taken_within c.take_in_turn-take.result.given (front_in c.take_in_turn-take.new.rooms)) (state_of c.in-Ok.turn) _ c.args.self.now.own.begins (given g c)
    c.take_in_turn-take.ensures.step.1 (gained g c)) c.received.result (tells g c)

pub returns-clause-list : goal.returns-clause-list
returns-clause-list g c =
    keeps g.I.InEnd.log g.I.InEnd.faults g.O.OutEnd.log g.O.OutEnd.faults c.args.self.now.own.config c.args.pair c.args.half c.args.self.now.own.hand c.take_in_turn-take.new.hand
    c.take_in_turn-take.result.number (taken_within c.take_in_turn-take.result.given (front_in c.take_in_turn-take.new.rooms)) (state_of c.in-Ok.turn) _ c.args.self.now.own.begins (given g c)
    c.take_in_turn-take.ensures.step.1 (gained g c)
