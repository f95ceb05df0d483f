use Rattle.std.proofs.Common.{rules}
use Rattle.std.proofs.lemmas.Result.{err_from_is_err_and}
use Rattle.relay_script.proofs.parser.read_packet.Goals as goal

pub returns-in_err-port : goal.returns-in_err-port
returns-in_err-port c =
    let p = err_from_is_err_and c.from_residual.result c.from_residual.ensures.1 in
    rw (p.1, p.2) (search rules)
