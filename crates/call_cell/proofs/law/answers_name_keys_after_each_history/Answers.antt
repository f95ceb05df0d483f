use Rattle.call_cell.proofs.Again.{names_keys_again}
use Rattle.call_cell.proofs.law.answers_name_keys_after_each_history.Goals as goal

pub returns : goal.returns
returns g c config cell h k signal for again names = names_keys_again config cell h k signal for again names
