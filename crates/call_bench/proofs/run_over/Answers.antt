use Rattle.std.proofs.Common.{ap}
use Rattle.relay_outside.specs.PortTape.{MakerTape}
use Rattle.relay_runs.proofs.Wholes.{never_called}
use Rattle.call_bench.proofs.run_over.Goals as goal

pub run-requires-clause-open : goal.run-requires-clause-open
run-requires-clause-open g c κs within = never_called _ _ (ap (λ (m : MakerTape). m.log) c.new-2.ensures)
