use Rattle.port_pool.proofs.SavedLeaseParts.{same_lease}
use Rattle.port_pool.proofs.saved_lease.saved_leases_differ.Goals as goal

pub returns : goal.returns
returns c = same_lease
