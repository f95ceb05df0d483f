use Rattle.state_values.proofs.PoolLaws.{same_pools}
use Rattle.state_values.proofs.law.pools_differ.Goals as goal

pub returns : goal.returns
returns c = same_pools
