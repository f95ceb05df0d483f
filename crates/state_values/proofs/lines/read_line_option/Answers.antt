use Rattle.state_values.specs.OfferTrees.{line_tree}
use Rattle.state_values.proofs.KeyedTrees.{refused}
use Rattle.state_values.proofs.FormTrees.{no_option}
use Rattle.state_values.proofs.lines.read_line_option.Goals as goal

pub returns-in_err-inner-clause-none : goal.returns-in_err-inner-clause-none
returns-in_err-inner-clause-none c = refused c.from_residual.ensures (λ line fits same. no_option line_tree c.in_err-inner.ensures.none line same)
