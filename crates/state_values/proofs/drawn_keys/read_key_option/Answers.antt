use Rattle.state_values.specs.DialogTrees.{key_tree}
use Rattle.state_values.proofs.KeyedTrees.{refused}
use Rattle.state_values.proofs.FormTrees.{no_option}
use Rattle.state_values.proofs.drawn_keys.read_key_option.Goals as goal

pub returns-in_err-inner-clause-none : goal.returns-in_err-inner-clause-none
returns-in_err-inner-clause-none c = refused c.from_residual.ensures (λ key fits same. no_option key_tree c.in_err-inner.ensures.none key same)
