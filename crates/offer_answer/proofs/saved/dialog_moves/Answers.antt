use Rattle.offer_answer.proofs.SavedDialogs.{dialog_moves, awaits_moves}
use Rattle.offer_answer.proofs.saved.dialog_moves.Goals as goal

pub returns-clause-stands : goal.returns-clause-stands
returns-clause-stands c = dialog_moves

pub returns-clause-awaits : goal.returns-clause-awaits
returns-clause-awaits c = awaits_moves
