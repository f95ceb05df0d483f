use Rattle.aes_ctr.specs.Aes.{shift_rows, sub_bytes}
use Rattle.aes_ctr.proofs.Columns.{same_state}
use Rattle.aes_ctr.proofs.state.substituted.Goals as goal

pub returns : goal.returns
unfolding shift_rows sub_bytes
returns c = same_state c.substituted_column.ensures c.substituted_column-2.ensures c.substituted_column-3.ensures c.substituted_column-4.ensures
