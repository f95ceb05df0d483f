-- Which entries a board's history demands: what a datagram says, what the devices returned in its turn, and its reply.
use Rattle.std.specs.Prelude.{◌≡◌, ℕ, ◌*◌, ◌<◌, Bool, true, false, not, ◌&&◌, ◌||◌, List, [], ◌∷◌, ◌++◌, map, length, nat_lt, replicate, Option, Some, None, is_some, IsSome, Result, Ok, filter}
use Rattle.std.specs.List.{list_any}
use Rattle.relay_outside.specs.declared.settings.Config.{Config}
use Rattle.ng_frame.specs.Frame.{frame}
use Rattle.ng_command.specs.Meanings.{Said, Offer, Answer, Query}
use Rattle.ng_reply.specs.declared.code.ErrorCode.{ErrorCode}
use Rattle.ng_reply.specs.declared.code.ErrorCode.TheVariants.{E8, E13, E14}
use Rattle.histories.specs.Words.{has}
use Rattle.offer_answer.specs.Rounds.{AnswerAsk, Demand}
use Rattle.offer_answer.specs.Plan as plan
use Rattle.call_board.specs.Acts as act
use Rattle.call_board.specs.Acts.{Call, Act, Given, Control, BoardEvent, Turn, Tick, Stop, BoardEntry}
use Rattle.call_board.specs.Calls.{live, find_call, rounds, rounds_of_call, is_due_at}
use Rattle.call_board.specs.KeptReplies.{kept_reply}
use Rattle.call_board.specs.Requests.{ReadsBody, asked}
use Rattle.call_board.specs.Answers.{offer_ask, answer_ask, answering_unless, Answered}

-- What the devices returned.

-- an offer opens two ports for each pair, in the order of leases, up to the first open that fails
pub record OpensAll (given : Given) (pairs : ℕ) : Type 0 where
  pub all_opened : given.opens ≡ replicate (2 * pairs) true

pub record OpenFails (given : Given) (pairs : ℕ) : Type 0 where
  pub opened : ℕ
  pub some_are_left : opened < 2 * pairs
  pub then_fails : given.opens ≡ replicate opened true ++ false ∷ []

-- nothing was opened or drawn
pub record GivesNothing (given : Given) : Type 0 where
  pub no_opens : given.opens ≡ []
  pub no_draws : given.draws ≡ []
  pub none_failed : given.draw_failed ≡ false

-- it draws a key for each key that it demands, up to the first draw that fails
pub record DrawsAll (given : Given) (keys : ℕ) : Type 0 where
  pub all_drawn : length given.draws ≡ keys
  pub none_failed : given.draw_failed ≡ false

pub record DrawFails (given : Given) (keys : ℕ) : Type 0 where
  pub some_are_left : length given.draws < keys
  pub then_fails : given.draw_failed ≡ true

-- what the offer of a datagram demands
abbrev pub demanded_by : List BoardEntry → Control → Result Said ErrorCode → Demand
demanded_by h c (Ok (Offer id from_tag sdp options)) =
    plan.demand (rounds_of_call h (find_call h id)) (offer_ask from_tag sdp options c.chosen)
demanded_by h c _ = record { pairs = []; keys = []; dropped = [] }

abbrev pub demanded : Config → List BoardEntry → Control → Demand
demanded config h c = demanded_by h c (asked config c.too_long c.pairs)

abbrev pub GivesUndone : Demand → Given → Bool → Type 0
GivesUndone demand given true = OpenFails given (length demand.pairs) × (given.draws ≡ []) × (given.draw_failed ≡ false)
GivesUndone demand given false = OpensAll given (length demand.pairs) × DrawFails given (length demand.keys)

-- what the turn of a datagram that does this opened and drew
abbrev pub GivesFor : Demand → Given → Act → Type 0
GivesFor demand given (act.Offered offer) = OpensAll given (length demand.pairs) × DrawsAll given (length demand.keys) × (given.report ≡ None)
GivesFor demand given (act.Undone code leases draws) = GivesUndone demand given (list_any not given.opens) × (given.report ≡ None)
GivesFor demand given (act.Queried of) = GivesNothing given × IsSome given.report
GivesFor demand given act.OutOfMemory = GivesNothing given
GivesFor demand given act.Repeated = GivesNothing given × (given.report ≡ None) × (given.out_of_memory ≡ false)
GivesFor demand given (act.Failed code) = GivesNothing given × (given.report ≡ None)
GivesFor demand given (act.Answered answer) = GivesNothing given × (given.report ≡ None)
GivesFor demand given (act.Deleted of) = GivesNothing given × (given.report ≡ None)
GivesFor demand given act.Told = GivesNothing given × (given.report ≡ None)
GivesFor demand given (act.Delayed of seconds) = GivesNothing given × (given.report ≡ None)

abbrev pub ReadsAnswerOf : List BoardEntry → AnswerAsk → Option Call → Type 0
ReadsAnswerOf h ask None = Unit {0}
ReadsAnswerOf h ask (Some of) = plan.AnswerRead (rounds h of.number) ask

-- the chosen keys of a datagram are those of its description
abbrev pub ReadsRequest : List BoardEntry → Control → Result Said ErrorCode → Type 0
ReadsRequest h c (Ok (Offer id from_tag sdp options)) = plan.OfferRead (offer_ask from_tag sdp options c.chosen)
ReadsRequest h c (Ok (Answer id from_tag to_tag sdp options)) = ReadsAnswerOf h (answer_ask from_tag to_tag sdp options c.chosen) (find_call h id)
ReadsRequest h c _ = Unit {0}

-- What is read of a datagram.

abbrev pub is_repeat : Act → Bool
is_repeat act.Repeated = true
is_repeat _ = false

-- the body is read, unless a kept reply is sent again, the datagram is too long, or memory ran out before it was read; one for
-- which memory ran out was read if it had a report
abbrev pub is_read : Control → Bool
is_read c = not (is_repeat c.act) && not c.too_long && (not c.given.out_of_memory || is_some c.given.report)

-- the errors that are found when crypto lines have been chosen
abbrev pub is_found_late : ErrorCode → Bool
is_found_late E8 = true
is_found_late E13 = true
is_found_late E14 = true
is_found_late _ = false

-- crypto lines are chosen for an offer or an answer that is accepted, and for one that fails at the choice or after it
abbrev pub is_request_read : Act → Bool
is_request_read (act.Offered offer) = true
is_request_read (act.Answered answer) = true
is_request_read (act.Undone code leases draws) = true
is_request_read (act.Failed code) = is_found_late code
is_request_read _ = false

-- the command asks after a live call
abbrev pub asks_after : List BoardEntry → Result Said ErrorCode → Bool
asks_after h (Ok (Query id)) = is_some (find_call h id)
asks_after h _ = false

abbrev pub answered_in : Control → Answered
answered_in c = record { bytes = c.reply; act = c.act }

-- the turn of a datagram is the one that the board's history demands at that moment
pub record FitsControl (config : Config) (h : List BoardEntry) (now : ℕ) (c : Control) : Type 0 where
  pub framed : frame (c.cookie ++ 32 ∷ c.body) ≡ Some (c.cookie, c.body)
  pub length_is : c.too_long ≡ nat_lt 16384 (length (c.cookie ++ 32 ∷ c.body))
  pub reads : is_read c ≡ true → ReadsBody c.body c.pairs
  pub hears : is_request_read c.act ≡ true → ReadsRequest h c (asked config c.too_long c.pairs)
  pub gives : GivesFor (demanded config h c) c.given c.act
  -- where memory runs out, there is a report of no call but a live one that is asked after
  pub reports : c.act ≡ act.OutOfMemory → asks_after h (asked config c.too_long c.pairs) ≡ false → c.given.report ≡ None
  pub answers : answered_in c ≡ answering_unless config h c (kept_reply h c.source c.cookie now)

-- of the live calls those that the entry names, in order
abbrev pub named_live : List BoardEntry → List Call → List Call
named_live h calls = filter (λ c. has (map (λ d. d.number) calls) c.number) (live h)

-- each of these calls that is due by then is among those of these numbers
abbrev pub AreNamedWhenDue : List BoardEntry → (now : ℕ) → (named : List ℕ) → List Call → Type 0
AreNamedWhenDue h now named [] = Unit {0}
AreNamedWhenDue h now named (c ∷ calls) = (is_due_at h c.number now ≡ true → has named c.number ≡ true) × AreNamedWhenDue h now named calls

abbrev pub FitsAt : Config → List BoardEntry → ℕ → BoardEvent → Type 0
FitsAt config h now (Turn c) = FitsControl config h now c
FitsAt config h now (Tick calls) = (calls ≡ named_live h calls) × AreNamedWhenDue h now (map (λ c. c.number) calls) (live h)
FitsAt config h now (Stop calls) = calls ≡ live h

-- the entry is one that the board's history demands
abbrev pub FitsBoard : Config → List BoardEntry → BoardEntry → Type 0
FitsBoard config h e = FitsAt config h e.moment e.event

-- each entry of the history is one that it demands
abbrev pub IsFitting : Config → List BoardEntry → Type 0
IsFitting config [] = Unit {0}
IsFitting config (e ∷ h) = FitsBoard config h e × IsFitting config h
