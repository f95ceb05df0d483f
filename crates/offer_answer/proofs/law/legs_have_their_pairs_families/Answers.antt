use Rattle.offer_answer.proofs.PairFamilies.{have_pairs_families}
use Rattle.offer_answer.proofs.law.legs_have_their_pairs_families.Goals as goal

pub returns : goal.returns
returns c = have_pairs_families
