use Rattle.state_values.specs.RelayTrees.{relay_tree}
use Rattle.tests_state.proofs.Depths.{value_deep}
use Rattle.tests_state.proofs.written_again.relay_bytes.Goals as goal

pub bytes_of-requires : goal.bytes_of-requires
bytes_of-requires g c = value_deep _ (relay_tree c.args.saved.now) c.relay_value.ensures (c.relays_are_spelled.ensures c.args.saved.now).deep
