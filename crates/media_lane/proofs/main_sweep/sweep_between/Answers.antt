use Rattle.std.proofs.Common.{sym, subst}
use Rattle.turn_table.specs.Hands.{starts}
use Rattle.relay_core.specs.Turns.{made_by}
use Rattle.media_lane.specs.Lanes.{lane_config, hand_of, index_of, lanes_of}
use Rattle.media_lane.proofs.Places.{parts_begin}
use Rattle.media_lane.specs.Visits.{all_rows}
use Rattle.media_lane.specs.Gates.{GainsGated}
use Rattle.media_lane.proofs.Between.{StepsBy, stepped_between, stepped_board}
use Rattle.media_lane.proofs.Sweeps.{SweptBy, swept_at, swept_by_lane, swept_totals}
use Rattle.media_lane.proofs.main_sweep.sweep_between.Goals as goal

pub new-lane-requires-clause-begins : goal.new-lane-requires-clause-begins
new-lane-requires-clause-begins g c = parts_begin c.args.config.now (starts c.args.hand) c.requires.between.parts

-- what came of the sweep of the one lane
swept : (g : _) (c : goal.After-into_hand g) → SweptBy c.args.config.now (g.C.Clock.range c.args.clock.now) c.args.hand c.into_hand.result c.sweep-swept.result
swept g c =
    let lane = c.new-lane.result in
    swept_at c.args.config.now (lane_config lane) (g.C.Clock.range c.args.clock.now) (index_of lane) (lanes_of lane) c.args.hand (hand_of lane)
    (hand_of c.sweep-swept.new.self) c.into_hand.result c.sweep-swept.result c.new-lane.ensures.hand c.into_hand.ensures.hand c.new-lane.ensures.config
    c.new-lane.ensures.number.0 c.new-lane.ensures.number.1 c.sweep-swept.ensures.same.hand c.into_hand.ensures.idle c.sweep-swept.ensures.list c.sweep-swept.ensures.swept

-- the rows that were added
steps : (g : _) (c : goal.After-into_hand g) → StepsBy c.args.config.now c.args.hand c.into_hand.result (all_rows c.args.config.now (swept g c).sweeps.visits)
steps g c = swept_by_lane c.args.config.now (g.C.Clock.range c.args.clock.now) c.args.hand c.into_hand.result c.sweep-swept.result (swept g c)

pub returns-clause-between : goal.returns-clause-between
returns-clause-between g c =
    stepped_between c.args.config.now c.args.turns.now c.args.hand c.into_hand.result (all_rows c.args.config.now (swept g c).sweeps.visits) c.requires.between (steps g c)

pub returns-clause-board : goal.returns-clause-board
returns-clause-board g c =
    stepped_board c.args.config.now c.args.turns.now c.args.hand c.into_hand.result (all_rows c.args.config.now (swept g c).sweeps.visits) c.requires.between (steps g c)

pub returns-clause-totals : goal.returns-clause-totals
returns-clause-totals g c =
    swept_totals c.args.config.now (g.C.Clock.range c.args.clock.now) c.args.hand c.into_hand.result c.sweep-swept.result (swept g c) c.args.totals.now c.add.new.self c.add.ensures

pub returns-clause-gated : goal.returns-clause-gated
returns-clause-gated g c =
    let gate = g.G.Gate.passed c.args.gate.now in
    subst (λ h. GainsGated gate (made_by h) (made_by c.into_hand.result)) c.new-lane.ensures.hand
    (subst (λ h. GainsGated gate (made_by (hand_of c.new-lane.result)) (made_by h)) (sym c.into_hand.ensures.hand) c.sweep-swept.ensures.gated)
