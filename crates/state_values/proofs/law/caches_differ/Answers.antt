use Rattle.state_values.proofs.CacheLaws.{same_caches}
use Rattle.state_values.proofs.law.caches_differ.Goals as goal

pub returns : goal.returns
returns c = same_caches
