use Rattle.state_values.specs.OfferTrees.{ip_tree}
use Rattle.state_values.proofs.KeyedTrees.{refused}
use Rattle.state_values.proofs.FormTrees.{no_option}
use Rattle.state_values.proofs.hosts.read_ip_option.Goals as goal

pub returns-in_err-inner-clause-none : goal.returns-in_err-inner-clause-none
returns-in_err-inner-clause-none c = refused c.from_residual.ensures (λ ip fits same. no_option ip_tree c.in_err-inner.ensures.none ip same)
