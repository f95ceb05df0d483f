use Rattle.call_cell.proofs.Learners.{later_signal}
use Rattle.call_cell.proofs.receiver.signalled.Goals as goal

pub returns : goal.returns
returns c earlier known was =
    later_signal c.args.learner c.in-Some.learner c.signal.new.self c.address-2.result c.args.half c.args.signal.now earlier known c.in-Some.is c.address-2.ensures
    c.signal.ensures was
