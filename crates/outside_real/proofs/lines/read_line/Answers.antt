use Rattle.std.proofs.Common.{arith, rules}
use Rattle.outside_real.proofs.StreamLines.{gives_fed, gives_last, gives_cut}
use Rattle.outside_real.proofs.lines.read_line.Goals as goal

pub returns-in-LineFeed-clause-gives : goal.returns-in-LineFeed-clause-gives
returns-in-LineFeed-clause-gives g c = gives_fed _ _ _ _ (search rules)

pub returns-in-Full-clause-gives : goal.returns-in-Full-clause-gives
returns-in-Full-clause-gives g c = gives_cut _ _ _ _ (search rules) (search rules)

pub returns-in-End-2-clause-gives : goal.returns-in-End-2-clause-gives
returns-in-End-2-clause-gives g c = gives_last _ _ _ _ (omega arith) (search rules)
