use Rattle.state_values.specs.OfferTrees.{offer_tree}
use Rattle.state_values.proofs.FormTrees.{no_option}
use Rattle.state_values.proofs.offers.read_offer_option.Goals as goal

pub returns-in_default-clause-none : goal.returns-in_default-clause-none
returns-in_default-clause-none c = λ offer fits same. no_option offer_tree c.in_default.ensures.none offer same
