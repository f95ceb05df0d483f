use Rattle.std.proofs.Common.{arith}
use Rattle.state_values.proofs.SourceForms.{whole_16}
use Rattle.state_values.proofs.configs.host_of.Goals as goal

pub returns-in-len16-clause-some : goal.returns-in-len16-clause-some
returns-in-len16-clause-some c = whole_16 c.args.bytes.now (omega (arith, c.in-len16.len_at_least, c.in-len16.len_below))
