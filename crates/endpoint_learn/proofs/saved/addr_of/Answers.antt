use Rattle.endpoint_learn.proofs.SavedForms.{v6_read, v4_read}
use Rattle.endpoint_learn.proofs.saved.addr_of.Goals as goal

pub returns-then-b-eq6 : goal.returns-then-b-eq6
returns-then-b-eq6 c = v6_read c.args.b.now c.from_be_bytes-port.result c.if-b-eq6.true c.from_be_bytes-port.ensures

pub returns-else-b-eq6 : goal.returns-else-b-eq6
returns-else-b-eq6 c = v4_read c.args.b.now c.from_be_bytes-port.result c.if-b-eq6.false c.from_be_bytes-port.ensures
