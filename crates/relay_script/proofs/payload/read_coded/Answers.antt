use Rattle.relay_script.proofs.Payloads.{no_head, no_second, no_pair}
use Rattle.relay_script.proofs.payload.read_coded.Goals as goal

pub returns-in_err-high : goal.returns-in_err-high
returns-in_err-high c = rw c.from_residual.ensures (record { digits = no_head c.args.text.now c.in_err-high.ensures; byte = tt })

pub returns-in_err-low : goal.returns-in_err-low
returns-in_err-low c = rw c.from_residual-in_err-low.ensures (record { digits = no_second c.args.text.now c.in_ok-high.high c.in_ok-high.rest.now c.in_ok-high.ensures c.in_err-low.ensures; byte = tt })

pub returns-in_err-byte : goal.returns-in_err-byte
returns-in_err-byte c =
    rw c.from_residual-in_err-byte.ensures (record { digits = no_pair c.args.text.now c.in_ok-high.high c.in_ok-low.low c.in_ok-high.rest.now c.in_ok-low.rest.now c.in_ok-high.ensures c.in_ok-low.ensures c.in_err-byte.ensures; byte = tt })
