use Rattle.media_ports.proofs.Held.{told_undone}
use Rattle.media_ports.proofs.law.undone_pairs_are_not_held.Goals as goal

pub returns : goal.returns
returns c config old new pairs leases opened held leased others undoes = told_undone config old new pairs leases opened held leased others undoes
