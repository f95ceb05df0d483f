use Rattle.state_values.proofs.DialogLaws.{same_dialogs}
use Rattle.state_values.proofs.law.dialogs_differ.Goals as goal

pub returns : goal.returns
returns c = same_dialogs
