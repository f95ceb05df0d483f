use Rattle.offer_answer.proofs.Legs.{have_legs}
use Rattle.offer_answer.proofs.law.sections_have_both_legs.Goals as goal

pub returns : goal.returns
returns c = have_legs
