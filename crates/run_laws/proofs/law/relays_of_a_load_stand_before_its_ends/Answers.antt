use Rattle.run_laws.proofs.Loads.{ends_of_load, relays_before_ends}
use Rattle.run_laws.proofs.law.relays_of_a_load_stand_before_its_ends.Goals as goal

pub returns-clause-before_ends : goal.returns-clause-before_ends
returns-clause-before_ends g c settings gate totals runs = relays_before_ends settings (g.G.Gate.passed gate) totals runs

pub returns-clause-by_stop : goal.returns-clause-by_stop
returns-clause-by_stop g c settings gate totals runs = ends_of_load settings (g.G.Gate.passed gate) totals runs
