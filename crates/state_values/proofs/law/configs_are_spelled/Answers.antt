use Rattle.state_values.proofs.ConfigLaws.{config_spelled}
use Rattle.state_values.proofs.law.configs_are_spelled.Goals as goal

pub returns : goal.returns
returns c = config_spelled
