use Rattle.port_pool.proofs.SavedLeaseParts.{lease_parts}
use Rattle.port_pool.proofs.saved_lease.read.Goals as goal

pub returns-clause-parts : goal.returns-clause-parts
returns-clause-parts c =
    lease_parts c.args.bytes.now c.from_be_bytes-pair.result c.from_be_bytes-port.result c.from_be_bytes-generation.result c.told-bytes c.fits-bytes
    c.from_be_bytes-pair.ensures c.from_be_bytes-port.ensures c.from_be_bytes-generation.ensures
