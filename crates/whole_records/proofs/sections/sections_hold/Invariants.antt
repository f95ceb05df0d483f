use Rattle.whole_records.proofs.Sides.{HoldBelow}
use Rattle.whole_records.proofs.sections.sections_hold.Given as goal

abbrev pub invariant-loop-section : goal.invariant-loop-section
invariant-loop-section l = HoldBelow l.config l.dialog l.legs l.section
