use Rattle.std.proofs.Common.{}
use Rattle.relay_script.proofs.Addresses.{no_colon, no_host, no_port}
use Rattle.relay_script.proofs.fields.read_addr.Goals as goal

pub returns-in_err-at : goal.returns-in_err-at
returns-in_err-at c = rw c.from_residual.ensures (no_colon c.args.word.now c.in_err-at.ensures.last)

pub returns-in_err-ip : goal.returns-in_err-ip
returns-in_err-ip c =
    rw c.from_residual-in_err-ip.ensures (no_host c.args.word.now c.in_ok-at.at c.in_ok-at.ensures.found c.in_ok-at.ensures.last c.in_err-ip.ensures)

pub returns-in_err-port : goal.returns-in_err-port
returns-in_err-port c =
    rw c.from_residual-in_err-port.ensures (no_port c.args.word.now c.in_ok-at.at c.in_ok-at.ensures.found c.in_ok-at.ensures.last c.in_err-port.ensures)
