use Rattle.std.proofs.Common.{◌∙◌, sym, refl}
use Rattle.std.proofs.lemmas.Bool.{false≢true}
use Rattle.call_cell.specs.declared.saved.LegSaved.{LegSaved}
use Rattle.whole_records.specs.SavedShapes.{saved_leg_shape}
use Rattle.whole_records.specs.RecordParts.{IsLeased}
use Rattle.whole_records.proofs.Each.{is_in, each_more, each_all, each_none}
use Rattle.whole_records.proofs.legs.are_leased.Goals as goal

pub loop-leg-init : goal.loop-leg-init
loop-leg-init c = each_none (λ (leg : LegSaved). IsLeased c.args.config.now c.args.generations.now c.args.cell c.args.call (saved_leg_shape leg)) c.args.legs.now

pub loop-leg-preserved : goal.loop-leg-preserved
loop-leg-preserved c =
    each_more (λ (leg : LegSaved). IsLeased c.args.config.now c.args.generations.now c.args.cell c.args.call (saved_leg_shape leg)) c.args.legs.now
    c.loop-leg.leg-index c.leg-item.result c.leg-item.result c.loop-leg-test.true c.leg-item.is c.loop-leg.invariant (c.is_leased.ensures.0 c.if-not-is_leased.false)

pub returns-then-not-is_leased : goal.returns-then-not-is_leased
returns-then-not-is_leased c = (
  λ t. absurd (false≢true t),
  λ all.
      let one = all c.leg-item.result (is_in c.args.legs.now c.loop-leg.leg-index c.leg-item.result c.loop-leg-test.true c.leg-item.is) in
      sym c.if-not-is_leased.true ∙ c.is_leased.ensures.1 one,
)

pub returns : goal.returns
returns c = (
  λ t. each_all (λ (leg : LegSaved). IsLeased c.args.config.now c.args.generations.now c.args.cell c.args.call (saved_leg_shape leg)) c.args.legs.now
      c.loop-leg.leg-index c.loop-leg-test.false c.loop-leg.invariant,
  λ all. refl,
)
