use Rattle.offer_answer.proofs.Standing.{rejects_what_goes}
use Rattle.offer_answer.proofs.law.signals_reject_what_goes.Goals as goal

pub returns : goal.returns
returns c = rejects_what_goes
