use Rattle.offer_answer.proofs.Standing.{drops_what_goes}
use Rattle.offer_answer.proofs.law.offers_drop_what_goes.Goals as goal

pub returns : goal.returns
returns c = drops_what_goes
