use Rattle.call_shapes.proofs.Comings.{answer_comes, offer_comes}
use Rattle.call_shapes.proofs.law.comings_are_for_all.Goals as goal

pub returns-clause-offer : goal.returns-clause-offer
returns-clause-offer g c = λ config cell h signal call keys dropped. offer_comes config cell h signal call keys dropped

pub returns-clause-answer : goal.returns-clause-answer
returns-clause-answer g c = λ config cell h signal. answer_comes config cell h signal
