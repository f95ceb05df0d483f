-- The entry by which an answer is accepted that the board planned.
use Rattle.std.proofs.Common.{◌≡◌, ℕ, List}
use Rattle.relay_outside.specs.declared.settings.Config.{Config}
use Rattle.offer_answer.specs.Rounds.{AnswerAsk}
use Rattle.call_board.specs.Acts as act
use Rattle.call_board.specs.Acts.{BoardEntry, act}
use Rattle.call_board.specs.Calls.{find_call}
use Rattle.call_board.specs.Fits.{FitsBoard}
use Rattle.call_board.specs.declared.board_plan.BoardPlan.{BoardPlan}
use Rattle.call_board.proofs.Calls.{found_live}
use Rattle.call_board.proofs.Dues.{IsAnswerDue}
use Rattle.answer_command.specs.Due.{IsAnswerOf, due_answer}

-- what the board planned is the plan of the entry by which what is due is done
pub is_answer : (config : Config) (h : List BoardEntry) (moment : ℕ) (lines : List (List ℕ)) (id : List ℕ) (ask : AnswerAsk) (p : BoardPlan) (e : BoardEntry)
    → (d : IsAnswerDue config h lines ask p (find_call h id)) → FitsBoard config h e → act e ≡ act.Answered (due_answer h d.of ask) → e.moment ≡ moment
    → IsAnswerOf config h moment e d.of ask lines p
is_answer config h moment lines id ask p e d fits acts at =
    record { alive = found_live h id d.of d.found; fits = fits; acts = acts; at = at; plan_for = d.plan_for }
