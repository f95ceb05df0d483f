use Rattle.std.proofs.Common.{◌≡◌, sym, subst, arith, ℕ, ◌++◌, ◌∷◌, []}
use Rattle.turn_table.specs.Hands.{entries, state_of}
use Rattle.turn_table.specs.Steps.{entry}
use Rattle.port_pool.specs.Takes.{taken_within}
use Rattle.relay_core.specs.Entries.{box_of}
use Rattle.media_lane.specs.Busy.{Gives}
use Rattle.media_lane.specs.Rooms.{front_in}
use Rattle.media_lane.specs.Takes.{box_take_made}
use Rattle.media_lane.proofs.Places.{gives_box, is_pair}
use Rattle.media_lane.proofs.Above.{list_gained, tried_still}
use Rattle.media_lane.proofs.Taken.{took_short, takes_at_last, keeps, packet_receipt}
use Rattle.media_lane.proofs.lane.LaneHand.take.Goals as goal

pub take_in_turn-requires-clause-at_box : goal.take_in_turn-requires-clause-at_box
take_in_turn-requires-clause-at_box g c =
    is_pair c.args.self.now.config.max_sessions _
    (gives_box g.I.InEnd.log g.I.InEnd.faults g.O.OutEnd.log g.O.OutEnd.faults c.args.self.now.config _ _ _ _ c.args.self.now.begins (omega arith) c.turn-turn.ensures.turn.1)

pub returns-clause-short : goal.returns-clause-short
returns-clause-short g c =
    took_short g.I.InEnd.log g.I.InEnd.faults g.O.OutEnd.log g.O.OutEnd.faults c.args.self.now.config.max_sessions c.args.half _ _ _
    (gives_box g.I.InEnd.log g.I.InEnd.faults g.O.OutEnd.log g.O.OutEnd.faults c.args.self.now.config _ _ _ _ c.args.self.now.begins (omega arith) c.turn-turn.ensures.turn.1)
    c.take_in_turn.ensures.step.1

-- the state of the turn is what the place's history leaves, and the hand's list gained the take
given : (g : _) (c : goal.After-self-1 g)
    → Gives g.I.InEnd.log g.I.InEnd.faults g.O.OutEnd.log g.O.OutEnd.faults c.args.self.now.hand (box_of c.args.self.now.config c.args.pair) c.take_in_turn.result.number (state_of c.turn-turn.result)
given g c =
    subst (λ (n : ℕ). Gives g.I.InEnd.log g.I.InEnd.faults g.O.OutEnd.log g.O.OutEnd.faults c.args.self.now.hand (box_of c.args.self.now.config c.args.pair) n (state_of c.turn-turn.result))
    (sym c.take_in_turn.ensures.number) c.turn-turn.ensures.turn.1

gained : (g : _) (c : goal.After-self-1 g)
    → entries c.take_in_turn.new.hand ≡ entries c.args.self.now.hand
    ++ entry (box_of c.args.self.now.config c.args.pair) c.take_in_turn.result.number (box_take_made c.args.half c.take_in_turn.result.given (front_in c.take_in_turn.new.rooms)) (tt {0}) ∷ []
gained g c = list_gained c.args.self.now.hand c.turn-turn.new.hand c.take_in_turn.new.hand _ _ _ _ _ c.take_in_turn.ensures.entry.0 c.turn-turn.ensures.same.1 c.turn-turn.ensures.turn.0.0
    c.take_in_turn.ensures.number

pub returns-clause-taken : goal.returns-clause-taken
returns-clause-taken g c =
    takes_at_last g.I.InEnd.log g.I.InEnd.faults g.O.OutEnd.log g.O.OutEnd.faults c.args.self.now.config c.args.pair c.args.half c.args.self.now.hand c.take_in_turn.new.hand
    c.take_in_turn.result.number (taken_within c.take_in_turn.result.given (front_in c.take_in_turn.new.rooms)) (state_of c.turn-turn.result) _ c.args.self.now.begins (given g c)
    c.take_in_turn.ensures.step.1 (gained g c)
    (tried_still _ c.args.self.now.hand c.turn-turn.new.hand c.take_in_turn.new.hand c.turn-turn.ensures.tried c.take_in_turn.ensures.tried)

pub returns-clause-receipt : goal.returns-clause-receipt
returns-clause-receipt g c =
    packet_receipt g.I.InEnd.log g.I.InEnd.faults g.O.OutEnd.log g.O.OutEnd.faults c.args.self.now.config c.args.pair c.args.half c.args.self.now.hand c.take_in_turn.new.hand
    c.take_in_turn.result.number (taken_within c.take_in_turn.result.given (front_in c.take_in_turn.new.rooms)) (state_of c.turn-turn.result) _ c.args.self.now.begins (given g c)
    c.take_in_turn.ensures.step.1 (gained g c)

pub returns-clause-list : goal.returns-clause-list
returns-clause-list g c =
    keeps g.I.InEnd.log g.I.InEnd.faults g.O.OutEnd.log g.O.OutEnd.faults c.args.self.now.config c.args.pair c.args.half c.args.self.now.hand c.take_in_turn.new.hand
    c.take_in_turn.result.number (taken_within c.take_in_turn.result.given (front_in c.take_in_turn.new.rooms)) (state_of c.turn-turn.result) _ c.args.self.now.begins (given g c)
    c.take_in_turn.ensures.step.1 (gained g c)
