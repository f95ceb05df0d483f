use Rattle.std.proofs.Common.{◌≡◌, drop}
use Rattle.call_board.specs.Reports.{leg_report_at}
use Rattle.call_report.proofs.medias.leg_at.Given as goal

-- no report so far is of the leg
abbrev pub invariant-legs : goal.invariant-legs
invariant-legs l = leg_report_at l.legs l.side l.section ≡ leg_report_at (drop l.index l.legs) l.side l.section
