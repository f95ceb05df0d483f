use Rattle.std.proofs.Common.{All, subst}
use Rattle.std.proofs.lemmas.List.{take_all}
use Rattle.std.proofs.lemmas.List.Elements.{All-more}
use Rattle.state_reads.specs.Bounds.{LegRanges}
use Rattle.state_reads.proofs.ranges.legs_fit.Goals as goal

pub loop-leg-preserved : goal.loop-leg-preserved
loop-leg-preserved c =
    All-more LegRanges c.args.legs.now c.loop-leg.leg-index c.leg-item.result c.loop-leg-test.true c.loop-leg.invariant (subst LegRanges c.leg-item.is c.leg_fits.ensures)

pub returns : goal.returns
returns c = subst (All LegRanges) (take_all c.loop-leg.leg-index c.args.legs.now c.loop-leg-test.false) c.loop-leg.invariant
