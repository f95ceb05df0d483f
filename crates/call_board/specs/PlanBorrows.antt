-- The plan that a board's plan lends.
use Rattle.std.specs.Borrow.{Lends, MutBor, Fml}
use Rattle.offer_answer.specs.declared.plan.Plan.{Plan}
use Rattle.offer_answer.specs.contracts.plan.Plan as lent
use Rattle.call_board.specs.declared.board_plan.BoardPlan.{BoardPlan}
use Rattle.call_board.specs.contracts.board_plan.BoardPlan.{the_row}

-- the board's plan with this one in it
abbrev pub with_plan : BoardPlan → Plan → BoardPlan
with_plan p plan = record p { plan = plan }

abbrev pub LendsPlan : MutBor BoardPlan → MutBor Plan → Fml
LendsPlan s r = Lends the_row lent.the_row s r (with_plan s.now)
