use Rattle.std.proofs.Common.{All, subst, refl}
use Rattle.std.proofs.lemmas.List.{take_all}
use Rattle.std.proofs.lemmas.List.Elements.{All-more}
use Rattle.state_reads.specs.Bounds.{LegCounts}
use Rattle.state_reads.proofs.ranges.legs_count.Goals as goal

pub loop-leg-preserved : goal.loop-leg-preserved
loop-leg-preserved c =
    All-more LegCounts c.args.legs.now c.loop-leg.leg-index c.leg-item.result c.loop-leg-test.true c.loop-leg.invariant
    (subst LegCounts c.leg-item.is (c.leg_counts.ensures.0 c.if-not-leg_counts.false))

pub returns : goal.returns
returns c = (λ t. subst (All LegCounts) (take_all c.loop-leg.leg-index c.args.legs.now c.loop-leg-test.false) c.loop-leg.invariant, λ all. refl)
