use Rattle.std.proofs.Common.{◌∙◌, ap, subst, List}
use Rattle.histories.specs.Words.{In}
use Rattle.port_pool.specs.declared.reports.LegReport.{LegReport}
use Rattle.call_cell.specs.declared.leg.Leg.{Leg}
use Rattle.call_cell.specs.LegReports.{leg_reports}
use Rattle.call_cell.proofs.Telling.{cell_reads}
use Rattle.call_cell.proofs.Packets.{told_fit}
use Rattle.call_cell.proofs.cell.Cell.read_legs.Goals as goal

pub returns-clause-reads : goal.returns-clause-reads
returns-clause-reads g c config h for below =
    cell_reads config c.args.self.now h c.tell_legs.new.out for below (c.tell_legs.ensures ∙ ap (λ (l : List (Leg _)). leg_reports l) c.as_slice.ensures.value)

pub returns-clause-counts : goal.returns-clause-counts
returns-clause-counts g c few report i =
    told_fit c.args.self.now.legs.items few report
    (subst (λ (l : List LegReport). In report l) (c.tell_legs.ensures ∙ ap (λ (l : List (Leg _)). leg_reports l) c.as_slice.ensures.value) i)
