use Rattle.std.proofs.Common.{arith}
use Rattle.endpoint_learn.proofs.SavedForms.{v6_whole}
use Rattle.endpoint_learn.proofs.saved.v6_bytes.Goals as goal

pub returns-clause-bytes : goal.returns-clause-bytes
returns-clause-bytes c = v6_whole c.args.a c.args.p (omega arith) (omega arith)
