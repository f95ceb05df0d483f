use Rattle.state_values.specs.OfferTrees.{host_tree}
use Rattle.state_values.proofs.KeyedTrees.{refused}
use Rattle.state_values.proofs.FormTrees.{no_option}
use Rattle.state_values.proofs.hosts.read_host_option.Goals as goal

pub returns-in_err-inner-clause-none : goal.returns-in_err-inner-clause-none
returns-in_err-inner-clause-none c = refused c.from_residual.ensures (λ host fits same. no_option host_tree c.in_err-inner.ensures.none host same)
