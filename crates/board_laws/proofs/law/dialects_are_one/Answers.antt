use Rattle.board_laws.proofs.law.dialects_are_one.Goals as goal
use Rattle.board_laws.proofs.Both.{both_dialects}

pub returns : goal.returns
returns c = both_dialects
