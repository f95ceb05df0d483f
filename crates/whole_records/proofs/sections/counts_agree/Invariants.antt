use Rattle.whole_records.proofs.Sides.{AmongBelow}
use Rattle.whole_records.proofs.sections.counts_agree.Given as goal

abbrev pub invariant-loop-place : goal.invariant-loop-place
invariant-loop-place l = AmongBelow l.dialog l.offered l.committed l.place
