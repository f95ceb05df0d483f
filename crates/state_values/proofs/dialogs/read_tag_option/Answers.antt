use Rattle.state_values.specs.DialogTrees.{tag_tree}
use Rattle.state_values.proofs.FormTrees.{no_option}
use Rattle.state_values.proofs.dialogs.read_tag_option.Goals as goal

pub returns-in_default-clause-none : goal.returns-in_default-clause-none
returns-in_default-clause-none c = λ tag same. no_option tag_tree c.in_default.ensures.none tag same
