use Rattle.std.proofs.Common.{[], Some, ap, sym, ◌∙◌, subst}
use Rattle.ng_command.specs.declared.command.Options.{Options}
use Rattle.offer_answer.specs.Nexts.{LegNext}
use Rattle.offer_answer.specs.declared.leg.Leg.{Leg}
use Rattle.offer_answer.specs.Shapes.{leg_shape}
use Rattle.offer_answer.proofs.Shapes.{leg-goes, leg-stays}
use Rattle.offer_answer.proofs.NextLegs.{leg-dropped, family-stands, leg-stands}
use Rattle.offer_answer.proofs.offered_section.OfferedSection.leg_after.Goals as goal

pub returns-then-is_dropped-clause-next : goal.returns-then-is_dropped-clause-next
returns-then-is_dropped-clause-next c = λ config rounds ask section f e m.
    let t = ap (λ (o : Options). o.transport) e in
    leg-dropped config rounds ask section c.args.self.now c.args.side c.profile.result f (c.profile.ensures config rounds ask section f t m)
    (sym c.is_dropped.ensures ∙ c.if-is_dropped.true)

pub returns-else-is_dropped-clause-next : goal.returns-else-is_dropped-clause-next
returns-else-is_dropped-clause-next c = λ config rounds ask section f e m.
    let t = ap (λ (o : Options). o.transport) e in
    let stands = sym c.is_dropped.ensures ∙ c.if-is_dropped.false in
    subst (λ (leg : Leg). LegNext config rounds ask [] [] section c.args.side (record leg { family = c.family_after.result; offered = Some c.profile.result })) (sym c.leg.ensures)
    (leg-stands config rounds ask section c.args.self.now c.args.side c.family_after.result c.profile.result f
    (c.family_after.ensures ∙ family-stands config rounds ask section c.args.self.now c.args.options.now c.args.maker c.args.side f e m stands)
    (c.profile.ensures config rounds ask section f t m)
    stands)

pub returns-then-is_dropped-clause-shape : goal.returns-then-is_dropped-clause-shape
returns-then-is_dropped-clause-shape c = leg-goes _ _ (sym c.is_dropped.ensures ∙ c.if-is_dropped.true)

pub returns-else-is_dropped-clause-shape : goal.returns-else-is_dropped-clause-shape
returns-else-is_dropped-clause-shape c = ap leg_shape c.leg.ensures ∙ leg-stays _ _ (sym c.is_dropped.ensures ∙ c.if-is_dropped.false)
