use Rattle.ng_bencode.specs.Tree.{tree_of}
use Rattle.srtp_context.specs.SavedRtp.{FitsOutRtp, saved_out_rtp}
use Rattle.state_values.proofs.KeyedTrees.{refused}
use Rattle.state_values.proofs.SavedTrees.{loaded_some, loaded_none, long_out_rtp}
use Rattle.state_values.proofs.cell_contexts.read_out_rtp.Goals as goal

pub returns-in_err-bytes-clause-none : goal.returns-in_err-bytes-clause-none
returns-in_err-bytes-clause-none c = refused c.from_residual.ensures (λ it fits same. c.in_err-bytes.ensures.none (saved_out_rtp it) (long_out_rtp it fits) same)

pub returns-clause-some : goal.returns-clause-some
returns-clause-some c = loaded_some saved_out_rtp FitsOutRtp (tree_of c.args.value.now) c.in_ok-bytes.bytes c.load.result c.in_ok-bytes.ensures.some c.load.ensures.some

pub returns-clause-none : goal.returns-clause-none
returns-clause-none c = loaded_none saved_out_rtp FitsOutRtp (tree_of c.args.value.now) c.in_ok-bytes.bytes c.load.result c.in_ok-bytes.ensures.some c.load.ensures.none
