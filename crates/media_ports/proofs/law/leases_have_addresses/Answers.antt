use Rattle.media_ports.proofs.Held.{leased_distinct}
use Rattle.media_ports.proofs.law.leases_have_addresses.Goals as goal

pub returns : goal.returns
returns c config leases families leased = leased_distinct config leases families leased
