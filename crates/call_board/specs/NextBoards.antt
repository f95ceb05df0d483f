-- What a board becomes by a plan that is taken in.
use Rattle.std.specs.Prelude.{◌≡◌, ◌<◌, ◌≤◌, ◌^◌, ℕ, true, List, [], ◌∷◌, Option, Some, None, slice_index_or, slice_set}
use Rattle.relay_outside.specs.declared.settings.Config.{Config}
use Rattle.offer_answer.specs.Rounds.{Round, Offered, Answered}
use Rattle.offer_answer.specs.Sides.{is_begun}
use Rattle.offer_answer.specs.PortsAndKeys.{AreDemandedLegs}
use Rattle.offer_answer.specs.Plans.{OfferFilled, AnswerNext}
use Rattle.offer_answer.specs.declared.plan.Plan.{Plan}
use Rattle.call_board.specs.declared.board.Board.{Board}
use Rattle.call_board.specs.declared.board_plan.BoardPlan.{BoardPlan}
use Rattle.call_board.specs.declared.board_plan.NewCall.{NewCall}
use Rattle.call_board.specs.declared.live_call.LiveCall.{LiveCall}
use Rattle.call_board.specs.Acts.{Call}
use Rattle.call_board.specs.Views.{CallView, View, with_calls, with_new_call, with_round, with_due, goes_on, call_of_id, call_numbered}
use Rattle.call_board.specs.Boards.{CallFor, IsLive}
use Rattle.call_board.specs.Plans.{NewFor}
use Rattle.call_board.specs.Shapes.{live_shape, DialogApplies}

-- the plan is that of this offer, filled, with the legs that were leased for it; or that of this answer
abbrev pub IsPlanOf : Config → List Round → Round → Plan → Type 0
IsPlanOf config rounds (Offered ask legs keys) plan =
    (ports : List ℕ) × OfferFilled config rounds ask ports keys plan.next × AreDemandedLegs config rounds ask ports legs
IsPlanOf config rounds (Answered ask) plan = AnswerNext config rounds ask plan.next

-- the tag of the side that begins a call by this round
abbrev pub BeginsBy : Config → List ℕ → Round → NewCall → Type 0
BeginsBy config id (Offered ask legs keys) new = NewFor config id ask.from_tag new
BeginsBy config id (Answered ask) new = ⊥

-- a call that the board has not begun yet, of a call-id that no live call has
pub record IsNext (config : Config) (v : View) (of : Call) : Type 0 where
  pub number_is : of.number ≡ v.begun
  pub cell_is_one : 1 ≤ of.cell
  pub cell_is_there : of.cell ≤ config.max_sessions
  pub id_is_new : call_of_id v of.id ≡ None

-- the plan takes this round in: as the first one of a call that it begins, or as one more of a live call
abbrev pub TakesRoundIn : Config → View → Call → Round → BoardPlan → Option NewCall → Type 0
TakesRoundIn config v of round p None =
    (c : CallView) × (call_numbered v p.call ≡ Some c) × (is_begun c.rounds ≡ true) × IsPlanOf config c.rounds round p.plan
TakesRoundIn config v of round p (Some new) =
    IsNext config v of × (p.call ≡ of.number) × (p.cell ≡ of.cell) × BeginsBy config of.id round new × IsPlanOf config [] round p.plan

-- what the board keeps then
abbrev pub taken_in : View → Call → Round → ℕ → BoardPlan → Option NewCall → View
taken_in v of round now p None = with_calls v (goes_on p.call round now v.calls)
taken_in v of round now p (Some new) = with_new_call v (record { of = of; rounds = round ∷ []; first = now; last = now; due = None })

-- the call is live, or there is room for it
abbrev pub MayApply : Board → BoardPlan → Option NewCall → Type 0
MayApply board p None = IsLive board p.call
MayApply board p (Some new) = (0 < board.calls.spare) × (board.begun < 2 ^ 63)

-- the call in this place of the list took one more offer or answer in, by this plan, and the others stay
pub record CallGoesOn (old new : List LiveCall) (place : ℕ) (plan : Plan) (now : ℕ) : Type 0 where
  pub before : LiveCall
  pub after : LiveCall
  pub before_is : before ≡ slice_index_or old place before
  pub list_is : new ≡ slice_set old place after
  pub number_is : after.number ≡ before.number
  pub taken : (config : Config) (c : CallView) (round : Round) → CallFor config before c → is_begun c.rounds ≡ true → IsPlanOf config c.rounds round plan →
      CallFor config after (with_round round now c)
  pub cell_is : after.cell ≡ before.cell
  pub applies : DialogApplies plan before.dialog.value after.dialog.value

-- the call in this place of the list is to end at this moment, or earlier if that is due, and the others stay
pub record CallEnds (old new : List LiveCall) (place : ℕ) (due : ℕ) : Type 0 where
  pub before : LiveCall
  pub after : LiveCall
  pub before_is : before ≡ slice_index_or old place before
  pub list_is : new ≡ slice_set old place after
  pub number_is : after.number ≡ before.number
  pub marked : (config : Config) (c : CallView) → CallFor config before c → CallFor config after (with_due due c)
  pub shape_is : live_shape after ≡ live_shape before
