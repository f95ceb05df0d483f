-- The plan of an offer or of an answer, as it is made and as it is filled.
use Rattle.std.specs.Prelude.{◌≡◌, ◌≢◌, ℕ, List, [], None, Result, Ok, Err}
use Rattle.relay_outside.specs.declared.settings.Config.{Config}
use Rattle.sdp_edit.specs.EditedText.{edited}
use Rattle.port_pool.specs.Signals.{NewKey}
use Rattle.offer_answer.specs.Rounds.{Round, OfferAsk, AnswerAsk, Demand}
use Rattle.offer_answer.specs.Plan.{offer_fault, demand, answer_fault, signal, answer_text}
use Rattle.offer_answer.specs.PortsAndKeys.{FilledFor}
use Rattle.offer_answer.specs.Nexts.{NextFor}
use Rattle.offer_answer.specs.Offers.{PlanFor, plan_code}
use Rattle.offer_answer.specs.Answers.{AnsweredFor}
use Rattle.offer_answer.specs.declared.plan.Next.{Next}
use Rattle.offer_answer.specs.declared.plan.Next.TheVariants.{Offer, Answer}
use Rattle.offer_answer.specs.declared.plan.Plan.{Plan}
use Rattle.offer_answer.specs.declared.fault.OaFault.{OaFault}
use Rattle.offer_answer.specs.declared.fault.OaFault.TheVariants as faults

-- what the dialog becomes is by this offer after these rounds, without the offer's new ports and keys
abbrev pub OfferNext : Config → List Round → OfferAsk → Next → Type 0
OfferNext config rounds ask (Offer next) = NextFor config rounds ask [] [] next
OfferNext config rounds ask (Answer next) = ⊥

-- and with these ports and keys
abbrev pub OfferFilled : Config → List Round → OfferAsk → List ℕ → List NewKey → Next → Type 0
OfferFilled config rounds ask ports keys (Offer next) = FilledFor config rounds ask ports keys next
OfferFilled config rounds ask ports keys (Answer next) = ⊥

-- what the dialog becomes is by this answer after these rounds
abbrev pub AnswerNext : Config → List Round → AnswerAsk → Next → Type 0
AnswerNext config rounds ask (Offer next) = ⊥
AnswerNext config rounds ask (Answer next) = AnsweredFor config rounds ask next

-- the plan of an offer after these rounds
pub record OfferPlan (config : Config) (rounds : List Round) (ask : OfferAsk) (plan : Plan) : Type 0 where
  pub demands : PlanFor plan (demand rounds ask)
  pub next_for : OfferNext config rounds ask plan.next
  pub config_is : plan.config ≡ config

-- nothing is demanded
abbrev pub no_demand : Demand
no_demand = record { pairs = []; keys = []; dropped = [] }

-- the plan of an answer after these rounds, to a description with these lines
pub record AnswerPlan (config : Config) (rounds : List Round) (ask : AnswerAsk) (lines : List (List ℕ)) (plan : Plan) : Type 0 where
  pub demands : PlanFor plan no_demand
  pub next_for : AnswerNext config rounds ask plan.next
  pub signal_is : plan.signal ≡ signal rounds ask
  pub text_is : edited lines plan.edit ≡ answer_text config rounds ask

-- the result of planning an offer: its first fault, its plan, or out of memory
abbrev pub OfferAnswered : Config → List Round → OfferAsk → Result Plan OaFault → Type 0
OfferAnswered config rounds ask (Err fault) = fault ≢ faults.OutOfMemory → offer_fault rounds ask ≡ plan_code fault
OfferAnswered config rounds ask (Ok plan) = (offer_fault rounds ask ≡ None) × OfferPlan config rounds ask plan

-- the result of planning an answer
abbrev pub AnswerAnswered : Config → List Round → AnswerAsk → List (List ℕ) → Result Plan OaFault → Type 0
AnswerAnswered config rounds ask lines (Err fault) = fault ≢ faults.OutOfMemory → answer_fault rounds ask ≡ plan_code fault
AnswerAnswered config rounds ask lines (Ok plan) = (answer_fault rounds ask ≡ None) × AnswerPlan config rounds ask lines plan
