use Rattle.state_values.specs.CallTrees.{calls_tree}
use Rattle.tests_state.proofs.Depths.{value_deep}
use Rattle.tests_state.proofs.written_again.calls_bytes.Goals as goal

pub bytes_of-requires : goal.bytes_of-requires
bytes_of-requires g c = value_deep _ (calls_tree c.args.calls.now) c.calls_value.ensures (c.calls_are_spelled.ensures c.args.calls.now).deep
