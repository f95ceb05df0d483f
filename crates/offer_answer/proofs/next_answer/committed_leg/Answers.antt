use Rattle.offer_answer.proofs.AnswerSteps.{leg-committed}
use Rattle.offer_answer.proofs.next_answer.committed_leg.Goals as goal

pub returns-clause-next : goal.returns-clause-next
returns-clause-next c = λ config rounds ask section side f r k. leg-committed config rounds ask section side c.args.leg.now c.args.key f r k
