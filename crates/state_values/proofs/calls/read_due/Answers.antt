use Rattle.ng_bencode.specs.Tree.{tree_of}
use Rattle.state_values.specs.Numbers.{number_tree}
use Rattle.state_values.proofs.KeyedTrees.{refused}
use Rattle.state_values.proofs.OptionTrees.{no_option}
use Rattle.state_values.proofs.calls.read_due.Goals as goal

pub returns-in_err-moment-clause-none : goal.returns-in_err-moment-clause-none
returns-in_err-moment-clause-none c = refused c.from_residual.ensures (λ due fits same.
    no_option number_tree (tree_of c.args.value.now) due c.in_err-moment.ensures.none same)
