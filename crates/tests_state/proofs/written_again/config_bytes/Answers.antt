use Rattle.state_values.specs.ConfigTrees.{config_tree}
use Rattle.tests_state.proofs.Depths.{value_deep}
use Rattle.tests_state.proofs.written_again.config_bytes.Goals as goal

pub bytes_of-requires : goal.bytes_of-requires
bytes_of-requires g c = value_deep _ (config_tree c.args.config.now) c.config_value.ensures (c.configs_are_spelled.ensures c.args.config.now).deep
