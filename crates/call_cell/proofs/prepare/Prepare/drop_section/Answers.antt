use Rattle.std.proofs.Common.{rules, refl, ◌<◌, length}
use Rattle.call_cell.proofs.Prepared.{one_more_drop}
use Rattle.call_cell.proofs.prepare.Prepare.drop_section.Goals as goal

pub returns-then-section-lt-MOST_SECTIONS-clause-stands : goal.returns-then-section-lt-MOST_SECTIONS-clause-stands
returns-then-section-lt-MOST_SECTIONS-clause-stands g c keys dropped for =
    let below : c.args.section < length c.args.self.now.dropped = search rules in
    one_more_drop c.args.self.now _ c.args.section keys dropped refl refl refl below for
