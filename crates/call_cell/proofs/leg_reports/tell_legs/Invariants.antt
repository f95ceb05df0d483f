use Rattle.std.proofs.Common.{◌≡◌, ◌≤◌, ◌*◌, ◌-◌, ◌++◌, length}
use Rattle.std.specs.List.{flat_map}
use Rattle.histories.specs.Words.{numbers}
use Rattle.call_cell.specs.LegReports.{reports_of_section, leg_reports}
use Rattle.call_cell.proofs.leg_reports.tell_legs.Given as goal

abbrev pub invariant-loop-section : goal.invariant-loop-section
invariant-loop-section g l =
    (l.out ++ flat_map (reports_of_section l.legs) (numbers l.section (8 - l.section)) ≡ leg_reports l.legs) × (length l.out ≤ 2 * l.section)
