use Rattle.std.proofs.Common.{◌≡◌, ℕ, List, subst, filter, arith}
use Rattle.histories.specs.Words.{has, numbers}
use Rattle.call_cell.specs.Preparations.{PrepareFor}
use Rattle.offer_command.proofs.Filled.{sections_more, legs_still}
use Rattle.offer_command.proofs.cell.add_drops.Goals as goal

pub loop-section-preserved : goal.loop-section-preserved
loop-section-preserved g c =
    let inv = c.loop-section.invariant in
    let step = c.drop_planned.ensures in
    let s = c.loop-section.section in
    record {
      stands = λ asked keys demands stands.
          subst (λ (xs : List ℕ). PrepareFor c.drop_planned.new.prepare keys xs) (sections_more (has asked.dropped) s)
          (step.stands asked keys (filter (has asked.dropped) (numbers 0 s)) demands (inv.stands asked keys demands stands));
      legs = legs_still c.args.prepare.now c.loop-section.prepare c.drop_planned.new.prepare inv.legs step.legs;
    }

pub returns-clause-stands : goal.returns-clause-stands
returns-clause-stands g c asked keys demands stands =
    let end : c.loop-section.section ≡ 8 = (let a = c.loop-section-test.false in let b = c.loop-section.auto.section-end in omega (arith, a, b)) in
    subst (λ (n : ℕ). PrepareFor c.loop-section.prepare keys (filter (has asked.dropped) (numbers 0 n))) end (c.loop-section.invariant.stands asked keys demands stands)
