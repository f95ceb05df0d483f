use Rattle.std.proofs.Common.{◌<◌, ℕ, get_or, arith}
use Rattle.state_values.proofs.SourceForms.{eighteen}
use Rattle.state_values.proofs.sources.v6_source.Goals as goal

pub returns-clause-some : goal.returns-clause-some
returns-clause-some c =
    let small : (i : ℕ) → get_or c.args.bytes.now i 0 < 256 = λ i. let f = c.type_inv.bytes i in omega arith in
    eighteen c.args.bytes.now c.from_be_bytes-port.result (omega arith) small c.from_be_bytes-port.ensures
