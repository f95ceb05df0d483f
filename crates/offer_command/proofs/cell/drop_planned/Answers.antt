use Rattle.std.proofs.Common.{◌∙◌, sym}
use Rattle.offer_command.proofs.Filled.{drops_wanted, drops_unwanted}
use Rattle.offer_command.proofs.cell.drop_planned.Goals as goal

pub returns-then-drops-clause-stands : goal.returns-then-drops-clause-stands
returns-then-drops-clause-stands g c asked keys dropped demands stands =
    let wanted = c.drops.ensures asked demands in
    drops_wanted c.drop_section.new.self keys dropped asked.dropped c.args.section (sym wanted ∙ c.if-drops.true) (c.drop_section.ensures.stands keys dropped stands)

pub returns-else-drops-clause-stands : goal.returns-else-drops-clause-stands
returns-else-drops-clause-stands g c asked keys dropped demands stands =
    let wanted = c.drops.ensures asked demands in
    drops_unwanted c.args.prepare.now keys dropped asked.dropped c.args.section (sym wanted ∙ c.if-drops.false) stands
