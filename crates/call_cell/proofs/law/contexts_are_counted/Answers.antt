use Rattle.call_cell.proofs.Callers.{due_is}
use Rattle.call_cell.proofs.law.contexts_are_counted.Goals as goal

pub returns : goal.returns
returns g c config cell h signal for = due_is config cell h signal for
