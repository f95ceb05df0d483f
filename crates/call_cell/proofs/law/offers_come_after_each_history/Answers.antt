use Rattle.call_cell.proofs.Again.{can_come_again}
use Rattle.call_cell.proofs.law.offers_come_after_each_history.Goals as goal

pub returns : goal.returns
returns g c config cell h k signal call keys dropped for again can new = can_come_again config cell h k signal call keys dropped for again can new
