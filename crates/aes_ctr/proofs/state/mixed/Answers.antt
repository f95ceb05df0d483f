use Rattle.aes_ctr.specs.Aes.{mix_columns, shift_rows, sub_bytes}
use Rattle.aes_ctr.proofs.Columns.{same_state}
use Rattle.aes_ctr.proofs.state.mixed.Goals as goal

pub returns : goal.returns
unfolding mix_columns shift_rows sub_bytes
returns c = same_state c.mixed_column.ensures c.mixed_column-2.ensures c.mixed_column-3.ensures c.mixed_column-4.ensures
