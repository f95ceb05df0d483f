use Rattle.offer_answer.proofs.AnswerSteps.{leg-rejected}
use Rattle.offer_answer.proofs.next_answer.rejected_leg.Goals as goal

pub returns-clause-next : goal.returns-clause-next
returns-clause-next c = λ config rounds ask section side f r. leg-rejected config rounds ask section side c.args.leg.now f r
