use Rattle.call_cell.proofs.Learners.{teaches}
use Rattle.call_cell.proofs.receiver.teach.Goals as goal

pub returns-in-Some : goal.returns-in-Some
returns-in-Some c half s known was =
    teaches c.args.learner.now c.in-Some.learner c.learn.new.self c.args.source half s known c.in-Some.is c.learn.ensures was
