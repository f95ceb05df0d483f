use Rattle.std.proofs.Common.{◌≡◌, false}
use Rattle.relay_runs.proofs.parallel_work.run_after.Given as goal

-- what is known where the halt word is set: that the control turns did not end as they should
abbrev pub ghosts-run_unless_over : goal.ghosts-run_unless_over
ghosts-run_unless_over g a = record { holds = a.went_well ≡ false }
