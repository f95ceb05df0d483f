use Rattle.std.proofs.Common.{rules, arith}
use Rattle.relay_script.proofs.Digits.{same_number}
use Rattle.relay_script.proofs.fields.read_port.Goals as goal

pub returns-then-port-gt65535 : goal.returns-then-port-gt65535
returns-then-port-gt65535 c n is =
    let same = same_number 65536 (omega arith) c.args.text.now c.in_ok-port.port n (search rules) c.in_ok-port.ensures is in
    omega (arith, is.small, same)
