use Rattle.run_laws.proofs.law.serve_ends_with_its_link.Goals as goal
use Rattle.run_laws.proofs.Causes.{caused, ended, unwritten}

pub returns-clause-ended : goal.returns-clause-ended
returns-clause-ended g c settings range gate outside wrote wrote_now answer before calls s was is i =
    ended settings range (g.G.Gate.passed gate) outside wrote wrote_now answer before calls s was is i

pub returns-clause-caused : goal.returns-clause-caused
returns-clause-caused g c settings range gate outside wrote wrote_now answer before calls s was is =
    caused settings range (g.G.Gate.passed gate) outside wrote wrote_now answer before calls s was is

pub returns-clause-unwritten : goal.returns-clause-unwritten
returns-clause-unwritten g c settings range gate outside before writes s = unwritten settings range (g.G.Gate.passed gate) outside before writes s
