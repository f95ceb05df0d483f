-- An answer whose turn it is.
use Rattle.std.specs.Prelude.{◌≡◌, ℕ, List}
use Rattle.relay_outside.specs.declared.settings.Config.{Config}
use Rattle.histories.specs.Words.{In}
use Rattle.offer_answer.specs.Rounds.{AnswerAsk}
use Rattle.offer_answer.specs.Plan as plan
use Rattle.call_board.specs.declared.board_plan.BoardPlan.{BoardPlan}
use Rattle.call_board.specs.Acts as act
use Rattle.call_board.specs.Acts.{Call, BoardEntry, act}
use Rattle.call_board.specs.Calls.{live, rounds}
use Rattle.call_board.specs.Fits.{FitsBoard}
use Rattle.call_board.specs.Plans.{AnswerPlanFor}
use Rattle.call_board.specs.Views.{call_view}

-- the answer of this call that asks this, and commits what is due
abbrev pub due_answer : List BoardEntry → Call → AnswerAsk → act.Answer
due_answer h of ask = record { of = of; ask = ask; signal = plan.signal (rounds h of.number) ask }

-- The entry is one that the history demands: the answer that asks this of the live call, to a description with these lines. The plan
-- is the board's of it.
pub record IsAnswerOf (config : Config) (h : List BoardEntry) (moment : ℕ) (e : BoardEntry) (of : Call) (ask : AnswerAsk) (lines : List (List ℕ)) (p : BoardPlan) : Type 0 where
  pub alive : In of (live h)
  pub fits : FitsBoard config h e
  pub acts : act e ≡ act.Answered (due_answer h of ask)
  pub at : e.moment ≡ moment
  pub plan_for : AnswerPlanFor config (call_view h of) ask lines p
