use Rattle.call_shapes.proofs.Offers.{offers_kept}
use Rattle.call_shapes.proofs.law.offers_agree.Goals as goal

pub returns : goal.returns
returns c = offers_kept
