use Rattle.std.proofs.Common.{◌≡◌, ◌-◌, ◌%◌}
use Rattle.media_lane.specs.Lanes.{index_in, lanes_in}
use Rattle.media_lane.specs.Progress.{Covers}
use Rattle.media_lane.proofs.lane.LaneHand.sweep.Given as goal

abbrev pub invariant-loop-pair : goal.invariant-loop-pair
invariant-loop-pair g l = record {
  covered : Covers (g.C.Clock.range l.media.clock.now) (g.G.Gate.passed l.media.gate.now) l.pair l.initial.self l.self l.initial.totals l.totals;
  own : l.pair % lanes_in l.initial.self ≡ index_in l.initial.self;
}

abbrev pub decreases-loop-pair : goal.decreases-loop-pair
decreases-loop-pair g l = l.pairs - l.pair
