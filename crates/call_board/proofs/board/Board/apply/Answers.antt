use Rattle.std.proofs.Common.{sym, subst, Option}
use Rattle.call_board.specs.declared.board_plan.NewCall.{NewCall}
use Rattle.call_board.specs.Boards.{BoardMatches}
use Rattle.call_board.specs.NextBoards.{TakesRoundIn, taken_in}
use Rattle.call_board.specs.Shapes.{TakesPlanIn}
use Rattle.call_board.proofs.board.Board.apply.Goals as goal

pub returns-in-Some-clause-taken : goal.returns-in-Some-clause-taken
returns-in-Some-clause-taken c = λ config v of round s t.
    let f = subst (λ (o : Option NewCall). TakesRoundIn config v of round c.args.plan o) c.in-Some.is t in
    subst (λ (o : Option NewCall). BoardMatches config c.begin.new.self (taken_in v of round c.args.now c.args.plan o)) (sym c.in-Some.is)
    (c.begin.ensures.taken config v of round s f.0 f.2 f.3 f.4)

pub returns-clause-taken : goal.returns-clause-taken
returns-clause-taken c = λ config v of round s t.
    let f = subst (λ (o : Option NewCall). TakesRoundIn config v of round c.args.plan o) c.in-None.is t in
    subst (λ (o : Option NewCall). BoardMatches config c.go_on.new.self (taken_in v of round c.args.now c.args.plan o)) (sym c.in-None.is)
    (c.go_on.ensures.taken config v f.0 round s f.1 f.2 f.3)

pub returns-in-Some-clause-shape : goal.returns-in-Some-clause-shape
returns-in-Some-clause-shape c =
    subst (λ (o : Option NewCall). TakesPlanIn c.args.plan o c.args.self.now c.begin.new.self) (sym c.in-Some.is) c.begin.ensures.shape

pub returns-clause-shape : goal.returns-clause-shape
returns-clause-shape c =
    subst (λ (o : Option NewCall). TakesPlanIn c.args.plan o c.args.self.now c.go_on.new.self) (sym c.in-None.is) c.go_on.ensures.shape
