use Rattle.std.proofs.Common.{◌∙◌, sym, refl, arith}
use Rattle.std.proofs.lemmas.Bool.{false≢true}
use Rattle.port_pool.specs.declared.holder.Side.TheVariants.{A, B}
use Rattle.whole_records.proofs.Sides.{hold_more, hold_all, hold_one}
use Rattle.whole_records.proofs.sections.sections_hold.Goals as goal

pub returns-then-not-side_holds : goal.returns-then-not-side_holds
returns-then-not-side_holds c = (
  λ t. absurd (false≢true t),
  λ h.
      let one = hold_one c.args.config.now c.args.dialog.now c.args.legs.now h c.loop-section.section A c.loop-section-test.true in
      sym c.if-not-side_holds.true ∙ c.side_holds.ensures.1 one,
)

pub returns-then-not-side_holds-2 : goal.returns-then-not-side_holds-2
returns-then-not-side_holds-2 c = (
  λ t. absurd (false≢true t),
  λ h.
      let one = hold_one c.args.config.now c.args.dialog.now c.args.legs.now h c.loop-section.section B c.loop-section-test.true in
      sym c.if-not-side_holds-2.true ∙ c.side_holds-in-loop-section.ensures.1 one,
)

pub loop-section-preserved : goal.loop-section-preserved
loop-section-preserved c =
    hold_more c.args.config.now c.args.dialog.now c.args.legs.now c.loop-section.section c.loop-section.invariant (c.side_holds.ensures.0 c.if-not-side_holds.false)
    (c.side_holds-in-loop-section.ensures.0 c.if-not-side_holds-2.false)

pub returns : goal.returns
returns c = (
  λ t. hold_all c.args.config.now c.args.dialog.now c.args.legs.now
      (λ section side below. c.loop-section.invariant section side (omega (arith, below, c.loop-section-test.false))),
  λ h. refl,
)
