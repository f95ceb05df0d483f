use Rattle.std.proofs.Common.{subst}
use Rattle.relay_core.specs.Steps.{Relates}
use Rattle.media_lane.specs.Rooms.{front_in}
use Rattle.media_lane.specs.Takes.{box_take_made}
use Rattle.media_lane.proofs.take.take_in_turn.Goals as goal

pub returns-clause-step : goal.returns-clause-step
returns-clause-step g c = (
  c.take_from-given.new.part,
  subst (λ x. Relates g.I.InEnd.log g.I.InEnd.faults g.O.OutEnd.log g.O.OutEnd.faults x (box_take_made c.args.half c.take_from-given.result (front_in c.take_from-given.new.self))
      c.take_from-given.new.part) c.state.ensures.value c.take_from-given.ensures.step,
)
