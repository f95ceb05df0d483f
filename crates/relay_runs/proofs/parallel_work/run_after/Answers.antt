use Rattle.std.proofs.Common.{◌≡◌, ◌∙◌, sym, true, false}
use Rattle.std.proofs.Math.Logic.{∥∥₁_elim}
use Rattle.relay_runs.proofs.parallel_work.run_after.Goals as goal

pub returns-clause-done : goal.returns-clause-done
returns-clause-done g c well i d lt goes =
    ∥∥₁_elim (c.run_unless_over.ensures.over i d lt goes) (λ x y. absurd x) (λ failed. let k : true ≡ false = sym well ∙ failed in cc)
