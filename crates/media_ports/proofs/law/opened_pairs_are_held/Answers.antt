use Rattle.media_ports.proofs.Held.{told_opened}
use Rattle.media_ports.proofs.law.opened_pairs_are_held.Goals as goal

pub returns : goal.returns
returns c config old new pairs now leases families held leased opens both = told_opened config old new pairs now leases families held leased opens both
