use Rattle.ng_bencode.specs.Tree.{tree_of}
use Rattle.state_values.specs.ConfigTrees.{interface_tree}
use Rattle.state_values.proofs.KeyedTrees.{refused}
use Rattle.state_values.proofs.OptionTrees.{no_option}
use Rattle.state_values.proofs.configs.read_interfaces.Goals as goal

pub returns-in_err-one-clause-none : goal.returns-in_err-one-clause-none
returns-in_err-one-clause-none c = refused c.from_residual.ensures (λ interface fits same.
    no_option interface_tree (tree_of c.args.value.now) interface c.in_err-one.ensures.none same)
