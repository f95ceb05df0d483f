use Rattle.state_values.proofs.ConfigLaws.{same_configs}
use Rattle.state_values.proofs.law.configs_differ.Goals as goal

pub returns : goal.returns
returns c = same_configs
