-- What becomes of a turn when the borrow of its state ends.
use Rattle.std.specs.Borrow.{Lends, MutBor, Fml}
use denote.RattleType.{RattleType}
use Rattle.turn_table.specs.declared.hands.Turn.{Turn}
use Rattle.turn_table.specs.contracts.hands.Turn.{the_row}

-- the turn has the final value of the borrow r as its state
abbrev pub LendsState : (M S E O : RattleType) → MutBor (Turn M.Denot S.Denot E.Denot O.Denot) → MutBor S.Denot → Fml
LendsState M S E O s r = Lends (the_row M S E O) S s r (λ w. record s.now { state = w })
