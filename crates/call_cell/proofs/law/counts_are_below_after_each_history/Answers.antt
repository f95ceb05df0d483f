use Rattle.call_cell.proofs.Again.{counts_again}
use Rattle.call_cell.proofs.law.counts_are_below_after_each_history.Goals as goal

pub returns : goal.returns
returns g c = counts_again
