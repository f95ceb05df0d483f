use Rattle.std.proofs.lemmas.Result.{err_from_is_err_and}
use Rattle.relay_script.proofs.Words.{no_arrival, arrival_refused}
use Rattle.relay_script.proofs.parser.read_arrival.Goals as goal

pub returns-in_default-read_port : goal.returns-in_default-read_port
returns-in_default-read_port c =
    no_arrival c.args.text.now c.in-Some.port.now c.in-Some.datagram.now c.in-Some.ensures.found c.in-Some.ensures.first c.in_default-read_port.ensures

pub returns-in_err-source : goal.returns-in_err-source
returns-in_err-source c =
    let p = err_from_is_err_and c.from_residual.result c.from_residual.ensures.1 in
    rw (p.1, p.2)
    (arrival_refused c.in_err-source.field-0.0 c.args.text.now c.in-Some.port.now c.in-Some.datagram.now c.in-Some.ensures.found c.in-Some.ensures.first c.in_err-source.ensures)
