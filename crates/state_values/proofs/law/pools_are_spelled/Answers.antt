use Rattle.state_values.proofs.PoolLaws.{pool_spelled}
use Rattle.state_values.proofs.law.pools_are_spelled.Goals as goal

pub returns : goal.returns
returns c = pool_spelled
