use Rattle.std.proofs.Common.{◌≡◌, sym, ◌∙◌, ap, subst, arith, ℕ, ◌+◌, ◌%◌}
use Rattle.std.proofs.Math.Nat.{add-mod_right, mod-eq_of_lt}
use Rattle.media_lane.specs.Lanes.{lanes_in}
use Rattle.media_lane.specs.Progress.{Covers}
use Rattle.media_lane.proofs.Counting.{covers_nothing, covers_next, covers_all}
use Rattle.media_lane.proofs.lane.LaneHand.sweep.Goals as goal

pub loop-pair-init : goal.loop-pair-init
loop-pair-init g c =
    let lane = c.args.self.now in
    let range = g.C.Clock.range c.args.media.now.clock.now in
    let gate = g.G.Gate.passed c.args.media.now.gate.now in
    record {
      covered = subst (λ (n : ℕ). Covers range gate n lane lane c.none-totals.result c.none-totals.result) (sym c.from-pair.ensures) (covers_nothing range gate lane c.none-totals.result);
      own = ap (λ (n : ℕ). n % lanes_in lane) c.from-pair.ensures ∙ mod-eq_of_lt lane.one_of;
    }

pub loop-pair-preserved : goal.loop-pair-preserved
loop-pair-preserved g c =
    let lane = c.args.self.now in
    let range = g.C.Clock.range c.args.media.now.clock.now in
    let gate = g.G.Gate.passed c.args.media.now.gate.now in
    let so_far = c.loop-pair.invariant in
    let one = c.visit.ensures in
    let two = c.visit-in-loop-pair.ensures in
    let lanes : c.from-pair-in-loop-pair.result ≡ lanes_in lane = c.from-pair-in-loop-pair.ensures ∙ two.same.lanes_is ∙ one.same.lanes_is ∙ so_far.covered.same.lanes_is in
    let below = c.loop-pair-test.true in
    let counted = c.from-pairs.ensures in
    let count = c.pairs.ensures.count in
    let one_of = lane.one_of in
    record {
      covered =
          subst (λ (n : ℕ). Covers range gate (c.loop-pair.pair + n) lane c.visit-in-loop-pair.new.self c.none-totals.result c.visit-in-loop-pair.new.totals) (sym lanes)
          (covers_next range gate c.loop-pair.pair lane c.loop-pair.self c.visit.new.self c.visit-in-loop-pair.new.self c.none-totals.result c.loop-pair.totals c.visit.new.totals
          c.visit-in-loop-pair.new.totals so_far.covered one.same one.list one.gated one.visited two.same two.list two.gated two.visited (omega (arith, below, counted, count)) so_far.own
          (omega (arith, one_of)));
      own = ap (λ (n : ℕ). (c.loop-pair.pair + n) % lanes_in lane) lanes ∙ add-mod_right c.loop-pair.pair (lanes_in lane) ∙ so_far.own;
    }

pub returns-clause-swept : goal.returns-clause-swept
returns-clause-swept g c =
    let end = c.loop-pair-test.false in
    let counted = c.from-pairs.ensures in
    let count = c.pairs.ensures.count in
    covers_all (g.C.Clock.range c.args.media.now.clock.now) (g.G.Gate.passed c.args.media.now.gate.now) c.loop-pair.pair c.args.self.now c.loop-pair.self c.none-totals.result c.loop-pair.totals
    c.loop-pair.invariant.covered (omega (arith, end, counted, count)) c.none-totals.ensures
