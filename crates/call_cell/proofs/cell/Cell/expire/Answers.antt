use Rattle.call_cell.proofs.Asking.{cell_expires}
use Rattle.call_cell.proofs.cell.Cell.expire.Goals as goal

pub returns-clause-expires : goal.returns-clause-expires
returns-clause-expires g c config h for =
    cell_expires config c.args.self.now h c.args.now c.max-self.result c.is_due.result for c.max-self.ensures c.is_due.ensures
