use Rattle.board_laws.proofs.law.framed_datagrams_are_answered.Goals as goal
use Rattle.board_laws.proofs.Ends.{answered, counted}

pub returns-clause-answered : goal.returns-clause-answered
returns-clause-answered c = answered

pub returns-clause-counted : goal.returns-clause-counted
returns-clause-counted c = counted
