use Rattle.media_ports.proofs.Held.{told_closed}
use Rattle.media_ports.proofs.law.closed_pairs_are_not_held.Goals as goal

pub returns : goal.returns
returns c config old new pairs now lease ends families held low closes without = told_closed config old new pairs now lease ends families held low closes without
