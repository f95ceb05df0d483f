use Rattle.state_values.proofs.CacheLaws.{cache_spelled}
use Rattle.state_values.proofs.law.caches_are_spelled.Goals as goal

pub returns : goal.returns
returns c = cache_spelled
