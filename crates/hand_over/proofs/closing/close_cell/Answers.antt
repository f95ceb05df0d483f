use Rattle.std.proofs.Common.{refl, arith}
use Rattle.hand_over.proofs.StepsJoined.{closes_nothing, closes_both}
use Rattle.hand_over.proofs.closing.close_cell.Goals as goal

pub loop-init : goal.loop-init
loop-init g c = record {
  steps = closes_nothing g.P.In.InEnd.log g.P.Out.OutEnd.log c.args.config.now c.args.place c.args.parts.now (g.P.PortMaker.log c.args.ports.now) c.requires.ready;
  place_is = refl;
  later = omega arith;
}

pub loop-preserved : goal.loop-preserved
loop-preserved g c =
    let log = g.P.PortMaker.log in
    let before = c.loop.invariant.later in
    let after = c.close_next.ensures.later in
    record {
      steps = closes_both g.P.In.InEnd.log g.P.Out.OutEnd.log c.args.config.now c.args.place c.args.parts.now c.loop.parts c.close_next.new.parts
          (log c.args.ports.now) (log c.loop.ports) (log c.close_next.new.ports) c.loop.invariant.steps c.close_next.ensures.step;
      place_is = refl;
      later = omega (arith, before, after);
    }

pub returns-clause-steps : goal.returns-clause-steps
returns-clause-steps g c =
    let log = g.P.PortMaker.log in
    closes_both g.P.In.InEnd.log g.P.Out.OutEnd.log c.args.config.now c.args.place c.args.parts.now c.loop.parts c.close_next.new.parts
    (log c.args.ports.now) (log c.loop.ports) (log c.close_next.new.ports) c.loop.invariant.steps c.close_next.ensures.step
