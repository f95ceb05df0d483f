-- The plan of an answer, by the board's history.
use Rattle.std.proofs.Common.{◌≡◌, ◌∙◌, sym, ap, subst, ℕ, List, Option, Some, None, length}
use Rattle.std.proofs.lemmas.List.{length-map}
use Rattle.relay_outside.specs.declared.settings.Config.{Config}
use Rattle.histories.specs.Words.{In}
use Rattle.offer_answer.specs.Rounds.{Round, AnswerAsk}
use Rattle.offer_answer.specs.Rounds as round
use Rattle.offer_answer.specs.Plans.{AnswerNext}
use Rattle.offer_answer.specs.Offers.{pairs_demanded, key_count, leg_asked, key_asked}
use Rattle.call_board.specs.Acts.{Call, BoardEntry}
use Rattle.call_board.specs.NextBoards.{TakesRoundIn, taken_in, MayApply}
use Rattle.call_board.specs.Boards.{BoardMatches}
use Rattle.call_board.specs.Calls.{live, rounds}
use Rattle.call_board.specs.Fits.{IsFitting}
use Rattle.call_board.specs.Plans.{AnswerPlanFor}
use Rattle.call_board.specs.Views.{View, call_view, view_of, view_at_moment, call_numbered, with_calls, goes_on}
use Rattle.call_board.specs.Whole.{with_more}
use Rattle.call_board.specs.declared.board.Board.{Board}
use Rattle.call_board.specs.declared.board_plan.BoardPlan.{BoardPlan}
use Rattle.call_board.specs.declared.board_plan.NewCall.{NewCall}
use Rattle.call_board.proofs.Found.{found_by_number, found_is_live, live_is_begun}

-- an answer demands no pair, and no key
pub no_pairs : (config : Config) (h : List BoardEntry) (of : Call) (ask : AnswerAsk) (lines : List (List ℕ)) (p : BoardPlan)
    → AnswerPlanFor config (call_view h of) ask lines p → pairs_demanded p.plan ≡ 0
no_pairs config h of ask lines p is = sym (length-map p.plan.legs.items leg_asked) ∙ ap length is.plan_for.demands.pairs_are

pub no_keys : (config : Config) (h : List BoardEntry) (of : Call) (ask : AnswerAsk) (lines : List (List ℕ)) (p : BoardPlan)
    → AnswerPlanFor config (call_view h of) ask lines p → key_count p.plan ≡ 0
no_keys config h of ask lines p is = sym (length-map p.plan.key_places.items key_asked) ∙ ap length is.plan_for.demands.keys_are

-- the plan, written, is of the same call
record IsWritten (p q : BoardPlan) : Type 0 where
  call_is : q.call ≡ p.call
  begun_is : q.begun ≡ p.begun

written_is : (p q : BoardPlan) → q ≡ record p { plan = q.plan } → IsWritten p q
written_is p q rest = record { call_is = ap (λ (x : BoardPlan). x.call) rest; begun_is = ap (λ (x : BoardPlan). x.begun) rest }

module _ (config : Config) (h : List BoardEntry) (moment : ℕ) (of : Call) (ask : AnswerAsk) (lines : List (List ℕ)) (p q : BoardPlan) (fits : IsFitting config h)
    (alive : In of (live h)) (plan_for : AnswerPlanFor config (call_view h of) ask lines p) (rest : q ≡ record p { plan = q.plan }) where
  abbrev v : View
  v = view_at_moment (view_of config h) moment

  call_same : q.call ≡ of.number
  call_same = (written_is p q rest).call_is ∙ plan_for.call_is

  none_begun : q.begun ≡ None
  none_begun = (written_is p q rest).begun_is ∙ plan_for.begins_none

  its_call : call_numbered v q.call ≡ Some (call_view h of)
  its_call = subst (λ (number : ℕ). call_numbered (view_of config h) number ≡ Some (call_view h of)) (sym call_same) (found_by_number config h of fits alive)

  -- the call is live on the board
  pub may_apply : (board : Board) → BoardMatches config board (view_at_moment (view_of config h) moment) → MayApply board q q.begun
  may_apply board shows =
      subst (λ (b : Option NewCall). MayApply board q b) (sym none_begun) (found_is_live config board v q.call (call_view h of) shows its_call)

  -- the plan takes the answer in
  pub takes_in : AnswerNext config (rounds h of.number) ask q.plan.next → TakesRoundIn config (view_at_moment (view_of config h) moment) of (round.Answered ask) q q.begun
  takes_in next =
      subst (λ (b : Option NewCall). TakesRoundIn config v of (round.Answered ask) q b) (sym none_begun)
      (call_view h of, its_call, live_is_begun h of alive, next)

  -- as one more round of the call
  pub taken_with : (now : ℕ) → taken_in (view_at_moment (view_of config h) moment) of (round.Answered ask) now q q.begun
      ≡ with_more of (round.Answered ask) now (view_at_moment (view_of config h) moment)
  taken_with now =
      ap (λ (b : Option NewCall). taken_in v of (round.Answered ask) now q b) none_begun
      ∙ ap (λ (number : ℕ). with_calls v (goes_on number (round.Answered ask) now v.calls)) call_same
