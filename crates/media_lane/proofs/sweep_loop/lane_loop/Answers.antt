use Rattle.std.proofs.Common.{rules}
use Rattle.media_lane.specs.Lanes.{hand_of, lane_config, index_of, lanes_of, list_of_lane}
use Rattle.media_lane.proofs.Gates.{gains_none, gains_both}
use Rattle.media_lane.proofs.Loops.{keeps_none, no_sweep, loop_on, loop_keeps}
use Rattle.media_lane.proofs.sweep_loop.lane_loop.Goals as goal

pub loop-init : goal.loop-init
loop-init g c =
    let lane = c.args.lane.now in
    record {
      same = search rules;
      swept = no_sweep (lane_config lane) (index_of lane) (lanes_of lane) (g.C.Clock.range c.args.clock.now) (hand_of lane) c.none-totals.result c.none-totals.ensures;
      list = keeps_none (lane_config lane) (list_of_lane lane);
      gated = gains_none (g.G.Gate.passed c.args.gate.now) (list_of_lane lane);
    }

pub loop-preserved : goal.loop-preserved
loop-preserved g c =
    let lane = c.args.lane.now in
    let so_far = c.loop.invariant in
    record {
      same = search rules;
      swept = (loop_on (lane_config lane) _ (index_of lane) _ (lanes_of lane) _ (g.C.Clock.range c.args.clock.now) (hand_of lane) (hand_of c.loop.lane) (hand_of c.sweep.new.self)
          c.sweep.result so_far.same.config_is so_far.same.index_is so_far.same.lanes_is c.sweep.ensures.swept c.loop.totals c.add.new.self so_far.swept c.add.ensures).0;
      list = loop_keeps (lane_config lane) _ (index_of lane) _ (lanes_of lane) _ (g.C.Clock.range c.args.clock.now) (hand_of lane) (hand_of c.loop.lane) (hand_of c.sweep.new.self)
          c.sweep.result so_far.same.config_is so_far.same.index_is so_far.same.lanes_is c.sweep.ensures.swept so_far.list c.sweep.ensures.list;
      gated = gains_both (g.G.Gate.passed c.args.gate.now) (list_of_lane lane) (list_of_lane c.loop.lane) (list_of_lane c.sweep.new.self) so_far.gated c.sweep.ensures.gated;
    }

pub returns-clause-swept : goal.returns-clause-swept
returns-clause-swept g c =
    let lane = c.args.lane.now in
    let so_far = c.loop.invariant in
    loop_on (lane_config lane) _ (index_of lane) _ (lanes_of lane) _ (g.C.Clock.range c.args.clock.now) (hand_of lane) (hand_of c.loop.lane) (hand_of c.sweep-2.new.self)
    c.sweep-2.result so_far.same.config_is so_far.same.index_is so_far.same.lanes_is c.sweep-2.ensures.swept c.loop.totals c.add-2.new.self so_far.swept c.add-2.ensures

pub returns-clause-list : goal.returns-clause-list
returns-clause-list g c =
    let lane = c.args.lane.now in
    let so_far = c.loop.invariant in
    loop_keeps (lane_config lane) _ (index_of lane) _ (lanes_of lane) _ (g.C.Clock.range c.args.clock.now) (hand_of lane) (hand_of c.loop.lane) (hand_of c.sweep-2.new.self)
    c.sweep-2.result so_far.same.config_is so_far.same.index_is so_far.same.lanes_is c.sweep-2.ensures.swept so_far.list c.sweep-2.ensures.list

pub returns-clause-gated : goal.returns-clause-gated
returns-clause-gated g c =
    gains_both (g.G.Gate.passed c.args.gate.now) (list_of_lane c.args.lane.now) (list_of_lane c.loop.lane) (list_of_lane c.sweep-2.new.self) c.loop.invariant.gated c.sweep-2.ensures.gated
