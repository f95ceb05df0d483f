use Rattle.relay_script.proofs.Words.{no_send_port, no_send_count}
use Rattle.relay_script.proofs.parser.read_send_failure.Goals as goal

pub returns-in_default-read_port : goal.returns-in_default-read_port
returns-in_default-read_port c =
    no_send_port c.args.text.now c.in-Some.port.now c.in-Some.number.now c.in-Some.ensures.found c.in-Some.ensures.first c.in_default-read_port.ensures

pub returns-in-None : goal.returns-in-None
returns-in-None c =
    no_send_count c.args.text.now c.in-Some.port.now c.in-Some.number.now c.in-Some.ensures.found c.in-Some.ensures.first c.in-None.ensures
