use Rattle.call_board.proofs.Entries.{whole}
use Rattle.call_board.proofs.law.changes_are_entries.Goals as goal

pub returns : goal.returns
returns c config h e old fits timely = whole config h e old fits timely
