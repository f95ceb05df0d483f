use Rattle.std.proofs.Common.{take}
use Rattle.std.proofs.lemmas.Result.{err_from_is_err_and}
use Rattle.call_cell.specs.Heads.{half_of}
use Rattle.call_cell.proofs.Forwarding.{held, sent}
use Rattle.call_cell.proofs.Packets.{sent_ports}
use Rattle.call_cell.proofs.sender.Sending.forward.Goals as goal

pub returns-in_err-size-clause-forwards : goal.returns-in_err-size-clause-forwards
returns-in_err-size-clause-forwards g c leg keys notes for named =
    let p = err_from_is_err_and c.from_residual.result c.from_residual.ensures.1 in
    rw (p.1, p.2)
    (held g.O.OutEnd.log g.O.OutEnd.faults leg keys notes c.args.signal.now c.args.half (half_of c.args.head) (take c.args.len c.args.buf.now) c.args.from c.args.to
    c.args.self.now c.protect.new.self c.protect.new.buf c.in_err-size.field-0.0 c.if-signal.false (c.in_err-size.ensures.protects leg keys notes for named))

pub returns-clause-forwards : goal.returns-clause-forwards
returns-clause-forwards g c leg keys notes for named =
    sent g.O.OutEnd.log g.O.OutEnd.faults leg keys notes c.args.signal.now c.args.half (half_of c.args.head) (take c.args.len c.args.buf.now) c.args.from c.args.to
    c.args.self.now c.protect.new.self c.send.new.self c.protect.new.buf c.in_ok-size.size c.send.result c.send_answer.result c.if-signal.false
    (c.in_ok-size.ensures.protects leg keys notes for named) c.in_ok-size.ensures.ends c.send.ensures.keys c.send.ensures.sends c.send_answer.ensures

pub returns-clause-ports : goal.returns-clause-ports
returns-clause-ports g c =
    sent_ports g.O.OutEnd.log g.O.OutEnd.faults c.args.half c.args.to _ c.send.result c.args.self.now c.protect.new.self c.send.new.self c.in_ok-size.ensures.ends c.send.ensures.sends
