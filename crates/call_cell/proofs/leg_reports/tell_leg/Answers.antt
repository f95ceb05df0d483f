use Rattle.std.proofs.Common.{◌∙◌, ap, sym, ◌++◌, Option, append-nil, option_to_list}
use Rattle.port_pool.specs.declared.reports.LegReport.{LegReport}
use Rattle.call_cell.proofs.Telling.{told_found}
use Rattle.call_cell.proofs.leg_reports.tell_leg.Goals as goal

pub returns-in_default-report : goal.returns-in_default-report
returns-in_default-report g c =
    sym (append-nil c.args.out.now)
    ∙ sym (ap (λ (o : Option LegReport). c.args.out.now ++ option_to_list o)
    (told_found c.args.legs.now c.args.section c.args.side c.in-Some.at c.index-legs-at.result (sym c.place_at.ensures.place ∙ c.in-Some.is)
    c.in-Some.ensures.within c.index-legs-at.is ∙ sym c.report.ensures ∙ c.in_default-report.is))
