use Rattle.state_values.proofs.DialogLaws.{dialog_spelled}
use Rattle.state_values.proofs.law.dialogs_are_spelled.Goals as goal

pub returns : goal.returns
returns c = dialog_spelled
