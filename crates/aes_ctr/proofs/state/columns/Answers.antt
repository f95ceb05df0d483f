use Rattle.std.proofs.Common.{◌∙◌, arith}
use Rattle.aes_ctr.proofs.Columns.{same_state, whole_state}
use Rattle.aes_ctr.proofs.state.columns.Goals as goal

pub returns : goal.returns
returns c = same_state c.column.ensures c.column-2.ensures c.column-3.ensures c.column-4.ensures ∙ whole_state c.args.s (omega arith)
