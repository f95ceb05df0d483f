use Rattle.std.proofs.lemmas.Result.{err_from_is_err_and}
use Rattle.relay_script.proofs.Words.{no_source, datagram_refused}
use Rattle.relay_script.proofs.parser.read_datagram.Goals as goal

pub returns-in_default-read_addr : goal.returns-in_default-read_addr
returns-in_default-read_addr c =
    no_source c.args.text.now c.in-Some.address.now c.in-Some.payload.now c.in-Some.ensures.found c.in-Some.ensures.first c.in_default-read_addr.ensures

pub returns-in_err-bytes : goal.returns-in_err-bytes
returns-in_err-bytes c =
    let p = err_from_is_err_and c.from_residual.result c.from_residual.ensures.1 in
    rw (p.1, p.2)
    (datagram_refused c.in_err-bytes.field-0.0 c.args.text.now c.in-Some.address.now c.in-Some.payload.now c.in-Some.ensures.found c.in-Some.ensures.first c.in_err-bytes.ensures)
