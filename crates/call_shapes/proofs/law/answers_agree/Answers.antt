use Rattle.call_shapes.proofs.Answers.{answers_agree}
use Rattle.call_shapes.proofs.law.answers_agree.Goals as goal

pub returns : goal.returns
returns c = answers_agree
