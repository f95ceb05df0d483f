use Rattle.state_values.specs.Forms.{family_tree}
use Rattle.state_values.proofs.KeyedTrees.{refused}
use Rattle.state_values.proofs.FormTrees.{no_option}
use Rattle.state_values.proofs.variants.read_family_option.Goals as goal

pub returns-in_err-inner-clause-none : goal.returns-in_err-inner-clause-none
returns-in_err-inner-clause-none c = refused c.from_residual.ensures (λ family same. no_option family_tree c.in_err-inner.ensures.none family same)
