use Rattle.call_cell.proofs.Learners.{is_right, is_wrong_so}
use Rattle.call_cell.proofs.receiver.is_wrong_source.Goals as goal

pub returns-in-Pass : goal.returns-in-Pass
returns-in-Pass c = is_right c.args.learner c.in-Some.learner c.args.source c.judge.result c.in-Some.is c.judge.ensures c.in-Pass.is

pub returns-in-WrongSource : goal.returns-in-WrongSource
returns-in-WrongSource c = is_wrong_so c.args.learner c.in-Some.learner c.args.source c.judge.result c.in-Some.is c.judge.ensures c.in-WrongSource.is
