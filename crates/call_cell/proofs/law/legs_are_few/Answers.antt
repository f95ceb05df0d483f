use Rattle.call_cell.proofs.Shaped.{is_small}
use Rattle.call_cell.proofs.TakenFirst.{is_pairs_port}
use Rattle.call_cell.proofs.law.legs_are_few.Goals as goal

pub returns-clause-small : goal.returns-clause-small
returns-clause-small g c config cell h for = is_small config cell h for

pub returns-clause-ports : goal.returns-clause-ports
returns-clause-ports g c config cell h leg for i = is_pairs_port config cell h leg for i
