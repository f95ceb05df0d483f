use Rattle.std.proofs.Common.{◌≡◌, ◌∙◌, ap, sym, ℕ, ◌+◌, ◌-◌, ◌*◌, ◌++◌, arith, append-nil}
use Rattle.std.specs.List.{flat_map}
use Rattle.histories.specs.Words.{numbers}
use Rattle.port_pool.specs.declared.holder.Side.TheVariants.{A, B}
use Rattle.call_cell.specs.LegReports.{told_at, reports_of_section}
use Rattle.call_cell.proofs.Telling.{told_more, few_more}
use Rattle.call_cell.proofs.leg_reports.tell_legs.Goals as goal

pub tell_leg-requires-in-loop-section : goal.tell_leg-requires-in-loop-section
tell_leg-requires-in-loop-section g c =
    let few = few_more (told_at c.args.legs.now c.loop-section.section A) c.loop-section.out c.tell_leg.new.out (2 * c.loop-section.section) c.tell_leg.ensures c.loop-section.invariant.1 in
    record { room = omega (arith, few, c.loop-section-test.true) }

pub loop-section-preserved : goal.loop-section-preserved
loop-section-preserved g c =
    let few = few_more (told_at c.args.legs.now c.loop-section.section A) c.loop-section.out c.tell_leg.new.out (2 * c.loop-section.section) c.tell_leg.ensures c.loop-section.invariant.1 in
    let fewer = few_more (told_at c.args.legs.now c.loop-section.section B) c.tell_leg.new.out c.tell_leg-in-loop-section.new.out (2 * c.loop-section.section + 1) c.tell_leg-in-loop-section.ensures few in (
      told_more c.args.legs.now c.loop-section.section c.loop-section.out c.tell_leg.new.out c.tell_leg-in-loop-section.new.out _ c.loop-section-test.true
          c.loop-section.invariant.0 c.tell_leg.ensures c.tell_leg-in-loop-section.ensures,
      omega (arith, fewer),
    )

pub returns : goal.returns
returns g c =
    let past = c.loop-section-test.false in
    let none : 0 ≡ 8 - c.loop-section.section = omega (arith, past) in
    sym (append-nil c.loop-section.out)
    ∙ ap (λ (n : ℕ). c.loop-section.out ++ flat_map (reports_of_section c.args.legs.now) (numbers c.loop-section.section n)) none
    ∙ c.loop-section.invariant.0
