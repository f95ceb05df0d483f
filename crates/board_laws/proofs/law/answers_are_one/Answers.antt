use Rattle.board_laws.proofs.law.answers_are_one.Goals as goal
use Rattle.board_laws.proofs.Given.{ruled_alike}
use Rattle.board_laws.proofs.Answered.{one_turn}

pub returns-clause-alike : goal.returns-clause-alike
returns-clause-alike c = one_turn

pub returns-clause-ruled : goal.returns-clause-ruled
returns-clause-ruled c config h now x y opening drawing report f g one fed_x fed_y a b =
    one_turn config h now x y f g one fed_x fed_y (ruled_alike opening drawing report x y a b)
