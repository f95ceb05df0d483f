-- What is known of each act that a board's history demands.
use Rattle.std.proofs.Common.{◌≡◌, ℕ, ◌<◌, List, [], map, length, true, false, Some, None}
use Rattle.std.specs.Prelude.{IsSome}
use Rattle.relay_outside.specs.declared.settings.Config.{Config}
use Rattle.ng_reply.specs.declared.code.ErrorCode.{ErrorCode}
use Rattle.ng_reply.specs.declared.code.ErrorCode.TheVariants.{E15, E16}
use Rattle.histories.specs.Words.{In}
use Rattle.offer_answer.specs.Rounds.{Demand}
use Rattle.offer_answer.specs.Plan as plan
use Rattle.call_board.specs.Acts as act
use Rattle.call_board.specs.Acts.{Call, Lease, Offer, Answer, Act, Control, Turn, BoardEntry}
use Rattle.call_board.specs.Calls.{live, find_call, new_call, rounds, rounds_of_call}
use Rattle.call_board.specs.Pairs.{free_in, fronts, is_short, next_lease, leased_new_legs, drawn_keys_from, drawn}
use Rattle.call_board.specs.KeptReplies.{kept_reply}

-- the entry is the turn of a datagram that did this
pub record IsTurn (e : BoardEntry) (a : Act) : Type 0 where
  pub control : Control
  pub is_turn : e.event ≡ Turn control
  pub acts : control.act ≡ a

-- the call of an offer: a new one, or a live one
pub data IsCallOf (config : Config) (h : List BoardEntry) (id : List ℕ) (o : Offer) : Type 0 where
  begins : o.begins ≡ true → o.of ≡ new_call h id → find_call h id ≡ None → length (live h) < config.max_sessions → IsCallOf config h id o
  goes_on : o.begins ≡ false → find_call h id ≡ Some o.of → In o.of (live h) → IsCallOf config h id o

pub record IsOffer (config : Config) (h : List BoardEntry) (e : BoardEntry) (o : Offer) : Type 0 where
  pub turn : IsTurn e (act.Offered o)
  pub id : List ℕ
  pub call_is : IsCallOf config h id o
  pub demand : Demand
  pub demand_is : demand ≡ plan.demand (rounds_of_call h (find_call h id)) o.ask
  pub enough : is_short (free_in config h) demand.pairs ≡ false
  pub legs_are : o.legs ≡ leased_new_legs h o.of (fronts (free_in config h) demand.pairs) demand.pairs
  pub draws : List (List ℕ)
  pub drawn_are : draws ≡ turn.control.given.draws
  pub as_many : length draws ≡ length demand.keys
  pub keys_are : o.keys ≡ drawn_keys_from (length (drawn h)) draws demand.keys
  pub dropped_are : o.dropped ≡ demand.dropped

pub record IsAnswer (h : List BoardEntry) (e : BoardEntry) (a : Answer) : Type 0 where
  pub turn : IsTurn e (act.Answered a)
  pub id : List ℕ
  pub found : find_call h id ≡ Some a.of
  pub is_live : In a.of (live h)
  pub signal_is : a.signal ≡ plan.signal (rounds h a.of.number) a.ask

pub record IsDelete (h : List BoardEntry) (e : BoardEntry) (of : Call) : Type 0 where
  pub turn : IsTurn e (act.Deleted of)
  pub is_live : In of (live h)

pub record IsDelay (h : List BoardEntry) (e : BoardEntry) (of : Call) (seconds : ℕ) : Type 0 where
  pub turn : IsTurn e (act.Delayed of seconds)
  pub is_live : In of (live h)

pub record IsQuery (h : List BoardEntry) (e : BoardEntry) (of : Call) : Type 0 where
  pub turn : IsTurn e (act.Queried of)
  pub is_live : In of (live h)
  pub report : IsSome turn.control.given.report

-- an open failed before any draw, or a draw failed
pub data IsFailure (c : Control) (code : ErrorCode) (draws : List (List ℕ)) : Type 0 where
  of_ports : code ≡ E15 → draws ≡ [] → c.given.draws ≡ [] → In false c.given.opens → IsFailure c code draws
  of_keys : code ≡ E16 → draws ≡ c.given.draws → c.given.draw_failed ≡ true → IsFailure c code draws

pub record IsUndone (config : Config) (h : List BoardEntry) (e : BoardEntry) (code : ErrorCode) (leases : List Lease) (draws : List (List ℕ)) : Type 0 where
  pub turn : IsTurn e (act.Undone code leases draws)
  pub id : List ℕ
  pub demand : Demand
  pub enough : is_short (free_in config h) demand.pairs ≡ false
  pub leases_are : leases ≡ map (next_lease h) (fronts (free_in config h) demand.pairs)
  pub failure : IsFailure turn.control code draws

pub record IsRepeat (h : List BoardEntry) (e : BoardEntry) : Type 0 where
  pub turn : IsTurn e act.Repeated
  pub is_kept : kept_reply h turn.control.source turn.control.cookie e.moment ≡ Some turn.control.reply

-- what an act of an entry after that history tells
abbrev pub Tells : Config → List BoardEntry → BoardEntry → Act → Type 0
Tells config h e act.Repeated = IsRepeat h e
Tells config h e act.OutOfMemory = IsTurn e act.OutOfMemory
Tells config h e (act.Failed code) = IsTurn e (act.Failed code)
Tells config h e (act.Undone code leases draws) = IsUndone config h e code leases draws
Tells config h e (act.Offered o) = IsOffer config h e o
Tells config h e (act.Answered a) = IsAnswer h e a
Tells config h e (act.Deleted of) = IsDelete h e of
Tells config h e (act.Queried of) = IsQuery h e of
Tells config h e act.Told = Unit {0}
Tells config h e (act.Delayed of seconds) = IsDelay h e of seconds
