use Rattle.offer_answer.proofs.Committing.{secures_legs}
use Rattle.offer_answer.proofs.law.signals_secure_legs.Goals as goal

pub returns : goal.returns
returns c = secures_legs
