use Rattle.std.proofs.Common.{sym, ◌∙◌}
use Rattle.state_values.proofs.KeyedTrees.{some_left}
use Rattle.state_values.proofs.fields.none_left.Goals as goal

pub returns-else-is_empty-clause-none : goal.returns-else-is_empty-clause-none
returns-else-is_empty-clause-none c = some_left c.args.pairs.now (sym c.is_empty.ensures ∙ c.if-is_empty.false)
