use Rattle.state_values.specs.CacheTrees.{cache_tree}
use Rattle.tests_state.proofs.Depths.{value_deep}
use Rattle.tests_state.proofs.written_again.cache_bytes.Goals as goal

pub bytes_of-requires : goal.bytes_of-requires
bytes_of-requires g c = value_deep _ (cache_tree c.args.saved.now) c.cache_value.ensures (c.caches_are_spelled.ensures c.args.saved.now).deep
