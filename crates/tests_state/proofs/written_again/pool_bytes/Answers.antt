use Rattle.state_values.specs.PoolTrees.{pool_tree}
use Rattle.tests_state.proofs.Depths.{value_deep}
use Rattle.tests_state.proofs.written_again.pool_bytes.Goals as goal

pub bytes_of-requires : goal.bytes_of-requires
bytes_of-requires g c = value_deep _ (pool_tree c.args.saved.now) c.pool_value.ensures (c.pools_are_spelled.ensures c.args.saved.now).deep
