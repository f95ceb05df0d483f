-- What the board plans, by what it keeps.
use Rattle.std.specs.Prelude.{◌≡◌, ◌≢◌, ◌<◌, ℕ, Bool, true, false, ◌&&◌, List, [], map, length, nat_le, Option, Some, None, is_some, Result, Ok, Err, if◌then◌else◌}
use Rattle.relay_outside.specs.declared.settings.Config.{Config}
use Rattle.ng_reply.specs.declared.code.ErrorCode.{ErrorCode}
use Rattle.ng_reply.specs.declared.code.ErrorCode.TheVariants.{E8, E9, E10, E11, E12, E13, E14, E19, E20}
use Rattle.histories.specs.Words.{or_else}
use Rattle.port_pool.specs.Ports.{pairs_of_family}
use Rattle.port_pool.specs.Pools.{free_pairs}
use Rattle.port_pool.specs.LeaseLists.{LeaseList}
use Rattle.offer_answer.specs.Rounds.{Round, OfferAsk, AnswerAsk}
use Rattle.offer_answer.specs.Plan as plan
use Rattle.offer_answer.specs.Dialogs.{DialogFor, Awaits}
use Rattle.offer_answer.specs.Offers.{pairs_demanded, legs_demanded}
use Rattle.offer_answer.specs.Plans.{OfferPlan, AnswerPlan}
use Rattle.offer_answer.specs.Answers.{AsksAnswer}
use Rattle.ng_command.specs.declared.command.AnswerIn.{AnswerIn}
use Rattle.offer_answer.specs.declared.fault.OaFault.{OaFault}
use Rattle.offer_answer.specs.declared.fault.OaFault.TheVariants as oa
use Rattle.call_board.specs.declared.fault.BoardFault.{BoardFault}
use Rattle.call_board.specs.declared.fault.BoardFault.TheVariants as faults
use Rattle.call_board.specs.declared.board_plan.NewCall.{NewCall}
use Rattle.call_board.specs.declared.board_plan.BoardPlan.{BoardPlan}
use Rattle.call_board.specs.declared.board.Board.{Board}
use Rattle.call_board.specs.Acts.{Call}
use Rattle.call_board.specs.Calls.{lowest_but}
use Rattle.call_board.specs.Answers.{ending_error}
use Rattle.call_board.specs.Pairs.{is_short}
use Rattle.call_board.specs.Views.{CallView, View, call_of_id}

-- the error code of a fault
abbrev pub board_code : BoardFault → Option ErrorCode
board_code faults.UnknownCall = Some E9
board_code faults.UnknownTag = Some E10
board_code faults.OtherSide = Some E11
board_code faults.MediaCount = Some E12
board_code faults.Family = Some E20
board_code faults.NoCrypto = Some E8
board_code faults.SessionLimit = Some E14
board_code faults.NoPair = Some E13
board_code faults.Ending = Some E19
board_code faults.OutOfMemory = None

-- the board's fault for that of a plan
abbrev pub board_fault : OaFault → BoardFault
board_fault oa.UnknownTag = faults.UnknownTag
board_fault oa.OtherSide = faults.OtherSide
board_fault oa.MediaCount = faults.MediaCount
board_fault oa.Family = faults.Family
board_fault oa.NoCrypto = faults.NoCrypto
board_fault oa.OutOfMemory = faults.OutOfMemory

-- the shortage of an offer without a fault: of sessions, where it begins a call, and then of pairs of a family
abbrev pub shortage : Config → View → Bool → List Round → OfferAsk → Option ErrorCode
shortage config v begins rounds ask =
    if begins && nat_le config.max_sessions (length v.calls) then Some E14
    else if is_short (pairs_of_family config v.free) (plan.demand rounds ask).pairs then Some E13
    else None

-- the first fault or shortage of an offer after these rounds
abbrev pub fault_or_shortage : Config → View → Bool → List Round → OfferAsk → Option ErrorCode
fault_or_shortage config v begins rounds ask = or_else (plan.offer_fault rounds ask) (shortage config v begins rounds ask)

-- the call that an offer of this call-id begins
abbrev pub next_call : View → List ℕ → Call
next_call v id = record { number = v.begun; cell = lowest_but (map (λ (c : CallView). c.of.cell) v.calls); id = id }

-- an offer is of the live call of its call-id, or else of the one that it begins
pub record Target : Type 0 where
  pub of : Call
  pub begins : Bool
  pub ending : Bool
  pub rounds : List Round

abbrev pub target_by : View → List ℕ → Option CallView → Target
target_by v id None = record { of = next_call v id; begins = true; ending = false; rounds = [] }
target_by v id (Some c) = record { of = c.of; begins = false; ending = is_some c.due; rounds = c.rounds }

abbrev pub target : View → List ℕ → Target
target v id = target_by v id (call_of_id v id)

-- why an offer is refused: its call is ending, or its first fault, or what it lacks
abbrev pub refusal : Config → View → Target → OfferAsk → Option ErrorCode
refusal config v t ask = or_else (ending_error t.ending) (fault_or_shortage config v t.begins t.rounds ask)

-- why an answer to a live call is refused: the call is ending, or its first fault
abbrev pub answer_refusal : CallView → AnswerAsk → Option ErrorCode
answer_refusal c ask = or_else (ending_error (is_some c.due)) (plan.answer_fault c.rounds ask)

-- what is kept for a call that is to begin
pub record NewFor (config : Config) (id tag : List ℕ) (new : NewCall) : Type 0 where
  pub id_is : new.id.list ≡ id
  pub dialog_for : DialogFor config new.dialog.value []
  pub awaits : Awaits new.dialog.value tag

abbrev pub BeginsFor : Config → Target → List ℕ → Option NewCall → Type 0
BeginsFor config t tag None = t.begins ≡ false
BeginsFor config t tag (Some new) = (t.begins ≡ true) × NewFor config t.of.id tag new

-- room for that many leases, none made yet
abbrev pub RoomFor : ℕ → Option LeaseList → Type 0
RoomFor count None = ⊥
RoomFor count (Some leases) = (leases.list ≡ []) × (leases.room ≡ count)

-- the plan of an offer
pub record OfferPlanFor (config : Config) (t : Target) (ask : OfferAsk) (p : BoardPlan) : Type 0 where
  pub call_is : p.call ≡ t.of.number
  pub cell_is : p.cell ≡ t.of.cell
  pub plan_for : OfferPlan config t.rounds ask p.plan
  pub begins : BeginsFor config t ask.from_tag p.begun

-- the result of planning an offer: its first fault or shortage, a plan, or out of memory
abbrev pub PlansFor : Config → View → Target → OfferAsk → Result BoardPlan BoardFault → Type 0
PlansFor config v t ask (Err fault) = fault ≢ faults.OutOfMemory → refusal config v t ask ≡ board_code fault
PlansFor config v t ask (Ok p) = (refusal config v t ask ≡ None) × OfferPlanFor config t ask p

abbrev pub PlansOffer : Config → View → List ℕ → OfferAsk → Result BoardPlan BoardFault → Type 0
PlansOffer config v id ask result = PlansFor config v (target v id) ask result

abbrev pub CallRoom : Board → Option NewCall → Type 0
CallRoom board None = Unit {0}
CallRoom board (Some new) = 0 < board.calls.spare

-- the board has the room that the plan needs when it is leased and applied, and enough pairs
pub record HasRoomForPlan (board : Board) (p : BoardPlan) : Type 0 where
  pub leases : RoomFor (pairs_demanded p.plan) p.leases
  pub call : CallRoom board p.begun
  pub pairs : is_short (free_pairs board.pool) (legs_demanded p.plan) ≡ false

-- the plan once its leases were handed out
abbrev pub leased : BoardPlan → BoardPlan
leased p = record { plan = p.plan; call = p.call; cell = p.cell; begun = p.begun; leases = None }

-- the plan of an answer to a live call's last offer
pub record AnswerPlanFor (config : Config) (c : CallView) (ask : AnswerAsk) (lines : List (List ℕ)) (p : BoardPlan) : Type 0 where
  pub call_is : p.call ≡ c.of.number
  pub cell_is : p.cell ≡ c.of.cell
  pub plan_for : AnswerPlan config c.rounds ask lines p.plan
  pub begins_none : p.begun ≡ None

-- the result of planning an answer: that no live call has its call-id, its first fault, a plan, or out of memory
abbrev pub PlansAnswer : Config → AnswerIn → List (List ℕ) → Option CallView → Result BoardPlan BoardFault → Type 0
PlansAnswer config input lines None result = result ≡ Err faults.UnknownCall
PlansAnswer config input lines (Some c) (Err fault) =
    (ask : AnswerAsk) → AsksAnswer input lines c.rounds ask → fault ≢ faults.OutOfMemory → answer_refusal c ask ≡ board_code fault
PlansAnswer config input lines (Some c) (Ok p) =
    (ask : AnswerAsk) → AsksAnswer input lines c.rounds ask → (answer_refusal c ask ≡ None) × AnswerPlanFor config c ask lines p
