use Rattle.std.proofs.Common.{◌≡◌, rules, sym, subst, List, ℕ, length}
use Rattle.relay_core.specs.Steps.{Relates}
use Rattle.media_lane.specs.Takes.{box_take_made}
use Rattle.media_lane.proofs.TwoRooms.{taken_is}
use Rattle.media_lane.proofs.rooms.Rooms.take_from.Goals as goal

pub returns-clause-step : goal.returns-clause-step
returns-clause-step g c =
    let two : length c.args.self.now.rooms ≡ 2 = search rules in
    subst (λ (buf : List ℕ). Relates g.I.InEnd.log g.I.InEnd.faults g.O.OutEnd.log g.O.OutEnd.faults c.args.part.now (box_take_made c.args.half c.take_from.result buf) c.take_from.new.part)
    (sym (taken_is c.args.self.now.rooms c.args.self.now.free c.take_from.new.buf _ c.args.self.now.one_of two c.take_from.ensures.long)) c.take_from.ensures.step
