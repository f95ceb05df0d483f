use Rattle.media_lane.specs.Gates.{GainsGated}
use Rattle.media_lane.specs.Lanes.{lane_config, hand_of, index_of, lanes_of, list_of_lane, IsSameLane}
use Rattle.media_lane.specs.SweepLoops.{MakesSweeps}
use Rattle.media_lane.specs.Receipts.{KeepsList}
use Rattle.media_lane.proofs.sweep_loop.lane_loop.Given as goal

abbrev pub invariant-loop : goal.invariant-loop
invariant-loop g l = record {
  same : IsSameLane l.initial.lane l.lane;
  swept : MakesSweeps (lane_config l.initial.lane) (index_of l.initial.lane) (lanes_of l.initial.lane) (g.C.Clock.range l.clock) (hand_of l.initial.lane) (hand_of l.lane) l.totals;
  list : KeepsList (lane_config l.initial.lane) (list_of_lane l.initial.lane) (list_of_lane l.lane);
  gated : GainsGated (g.G.Gate.passed l.gate) (list_of_lane l.initial.lane) (list_of_lane l.lane);
}
